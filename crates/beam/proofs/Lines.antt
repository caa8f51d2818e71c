-- Lines that hold no newline, put together each with its newline, are cut into the same lines again; and so is a last line with none.
-- Every text is such lines and a last one, which may be empty, so this is all that `lines_of` does.
-- Assumes nothing.
use Prim.Native.Nat.{ℕ}
use mathlib.Core.Path.{◌≡◌, refl, ap, ◌∙◌}
use mathlib.Core.List.{List, [], ◌∷◌, ◌++◌, append_assoc}
use borrow.Author.Tests.{ne_eqb}
use Rattle.beam.specs.Meaning.{lines_of, in_front}

-- no byte of a line is a newline
abbrev pub Plain : List ℕ → Type 0
Plain [] = Unit {0}
Plain (b ∷ bs) = (b ≡ 10 → ⊥) × Plain bs

abbrev pub AllPlain : List (List ℕ) → Type 0
AllPlain [] = Unit {0}
AllPlain (l ∷ ls) = Plain l × AllPlain ls

-- lines, each with its newline
abbrev pub joined : List (List ℕ) → List ℕ
joined [] = []
joined (l ∷ ls) = l ++ (10 ∷ joined ls)

-- one line and what stands behind its newline
one_line : (l rest : List ℕ) → Plain l → lines_of (l ++ (10 ∷ rest)) ≡ l ∷ lines_of rest
unfolding lines_of
one_line [] rest p = refl
one_line (b ∷ l) rest p = simp (ne_eqb b 10 p.0) (ap (in_front b) (one_line l rest p.1))

-- lines with their newlines are cut into those lines, and the rest as the rest is: "a final newline starts no further line" where the rest is empty
pub cut_joined : (ls : List (List ℕ)) (rest : List ℕ) → AllPlain ls → lines_of (joined ls ++ rest) ≡ ls ++ lines_of rest
cut_joined [] rest p = refl
cut_joined (l ∷ ls) rest p =
    rw (append_assoc l (10 ∷ joined ls) rest)
    (one_line l (joined ls ++ rest) p.0 ∙ ap (λ (x : List (List ℕ)). l ∷ x) (cut_joined ls rest p.1))

-- a text with no newline is one line, unless it is empty, and then it is none
pub cut_last : (b : ℕ) (l : List ℕ) → Plain (b ∷ l) → lines_of (b ∷ l) ≡ (b ∷ l) ∷ []
unfolding lines_of
cut_last b [] p = simp (ne_eqb b 10 p.0)
cut_last b (a ∷ l) p = simp (ne_eqb b 10 p.0) (ap (in_front b) (cut_last a l p.1))

pub cut_none : lines_of [] ≡ []
unfolding lines_of
cut_none = refl
