-- How a text is walked: what the kit cuts off it is its first line, and its lines are that one and those behind it.
-- Assumes nothing.
use Prim.Native.Nat.{ℕ, zero, suc, ◌+◌, ◌-◌, ◌<◌, ◌≤◌, min}
use mathlib.Core.Path.{◌≡◌, refl, ap, sym, ◌∙◌}
use mathlib.Core.Bool.{Bool, true, false, cond}
use mathlib.Core.List.{List, [], ◌∷◌, ◌++◌}
use native.Mathlib.Nat.{not-suc-le-zero}
use native.Mathlib.Omega.{arith}
use borrow.Author.Tests.{eq-eqb, ne_eqb, eqb-true}
use lib.Dec.{eqb}
use lib.ListN.{length, get_or, take, drop, length-append, drop_of_length-le, get_or-append}
use lib.Seq.{drop-cons, take_all, drop-append_seam}
use Rattle.std.specs.Prelude.{◌⊎◌, Option, Some, None, MatchOption, nat_eq}
use Rattle.std.specs.Borrow.{Bor}
use Rattle.std.specs.Option.{unwrap_or}
use Rattle.std.specs.Cmp.Lexicographic.{pointwise, bytes_decides}
use Rattle.std.proofs.Common.{inl, inr}
use Rattle.std.proofs.lemmas.List.{take-append-le}
use Rattle.laws.proofs.Cases.{by_eq, split}
use Rattle.beam.specs.Meaning.{lines_of, in_front}

-- how many bytes stand before a text's first newline
unfoldable pub line_length : List ℕ → ℕ
line_length [] = 0
line_length (b ∷ bs) = cond (eqb b 10) 0 (suc (line_length bs))

none_left : (l : List ℕ) → length l ≡ 0 → l ≡ []
none_left [] e = refl
none_left (b ∷ bs) e = absurd (omega arith)

-- a text's first newline ends its first line
first_newline : (s : List ℕ) (k : ℕ) → ((j : ℕ) → j < k → get_or s j 0 ≡ 10 → ⊥) → (k < length s → get_or s k 0 ≡ 10)
    → line_length s ≡ min k (length s)
unfolding line_length
first_newline [] k f g = omega arith
first_newline (b ∷ bs) zero f g = simp (eq-eqb b 10 (g (omega arith))) (omega arith)
first_newline (b ∷ bs) (suc k) f g =
    let i : line_length bs ≡ min k (length bs) = first_newline bs k (λ j h. f (suc j) (omega arith)) (λ h. g (omega arith)) in
    simp (ne_eqb b 10 (f 0 (omega arith))) (omega arith)

-- what is left of a part without the newline that it may end with
abbrev Stripped : List ℕ → List ℕ → Type 0
Stripped part line =
    ((get_or part (length part - 1) 0 ≡ 10) × (line ≡ take (length part - 1) part)) ⊎ ((get_or part (length part - 1) 0 ≡ 10 → ⊥) × (line ≡ part))

-- A part is cut off a text, behind its first newline or, where it has none, as a whole: so the kit's `split_inclusive` cuts.
module _ (s part rest : List ℕ) (k : ℕ) (whole : s ≡ part ++ rest) (long : length part ≡ min (k + 1) (length s))
    (others : (j d : ℕ) → 0 ≤ j → j < k → eqb (get_or s j d) 10 ≡ false) (found : k < length s → (d : ℕ) → eqb (get_or s k d) 10 ≡ true) where
  before : (j : ℕ) → j < k → get_or s j 0 ≡ 10 → ⊥
  before j h e = let t : eqb (get_or s j 0) 10 ≡ true = eq-eqb (get_or s j 0) 10 e in let f = others j 0 (omega arith) h in cc

  newline : k < length s → get_or s k 0 ≡ 10
  newline h = eqb-true (get_or s k 0) 10 (found h 0)

  line_is : line_length s ≡ min k (length s)
  line_is = first_newline s k before newline

  front : (n : ℕ) → n ≤ length part → take n s ≡ take n part
  front n h = ap (λ (t : List ℕ). take n t) whole ∙ take-append-le n part rest h

  read : (n : ℕ) → n < length part → get_or s n 0 ≡ get_or part n 0
  read n h = ap (λ (t : List ℕ). get_or t n 0) whole ∙ get_or-append part rest 0 n h

  pub rest_is : rest ≡ drop (suc (line_length s)) s
  rest_is =
      split (suc k) (length s)
      (λ h. let n : suc (line_length s) ≡ length part = omega (arith, line_is) in
      sym (ap (λ (j : ℕ). drop j s) n ∙ ap (λ (t : List ℕ). drop (length part) t) whole ∙ drop-append_seam part rest))
      (λ h. none_left rest (omega (arith, ap length whole, length-append part rest))
      ∙ sym (drop_of_length-le s {i = suc (line_length s)} (omega (arith, line_is))))

  pub first_line : 0 < length s → (line : List ℕ) → Stripped part line → line ≡ take (line_length s) s
  first_line p line (inl a) =
      split (suc k) (length s)
      (λ h. let n : length part - 1 ≡ line_length s = omega (arith, line_is) in
      a.1 ∙ ap (λ (j : ℕ). take j part) n ∙ sym (front (line_length s) (omega (arith, line_is))))
      (λ h. let n : length part - 1 < k = omega arith in
      let z : ⊥ = before (length part - 1) n (read (length part - 1) (omega arith) ∙ a.0) in absurd z)
  first_line p line (inr a) =
      split (suc k) (length s)
      (λ h. let n : length part - 1 ≡ k = omega arith in
      let z : ⊥ = a.0 (sym (read (length part - 1) (omega arith)) ∙ ap (λ (j : ℕ). get_or s j 0) n ∙ newline h) in absurd z)
      (λ h. a.1 ∙ sym (front (line_length s) (omega (arith, line_is)) ∙ take_all (line_length s) part (omega (arith, line_is))))

-- the kit's `strip_suffix` strips so
last : (part : List ℕ) → 0 < length part → drop (length part - 1) part ≡ get_or part (length part - 1) 0 ∷ []
last part h =
    drop-cons part (length part - 1) 0 (omega arith)
    ∙ ap (λ (t : List ℕ). get_or part (length part - 1) 0 ∷ t) (drop_of_length-le part {i = suc (length part - 1)} (omega arith))

abbrev ends : List ℕ → Bool
ends part = pointwise nat_eq (drop (length part - 1) part) (10 ∷ [])

pub stripped : (o : Option (Bor (List ℕ))) (part : Bor (List ℕ)) → 0 < length part.now
    → MatchOption o (ends part.now ≡ false) (λ x. (ends part.now ≡ true) × (x.now ≡ take (length part.now - 1) part.now) × (length x.now + 1 ≡ length part.now))
    → Stripped part.now (unwrap_or o part).now
stripped (Some x) part h m =
    let e : drop (length part.now - 1) part.now ≡ 10 ∷ [] = (bytes_decides (drop (length part.now - 1) part.now) (10 ∷ [])).0 m.0 in
    let n : get_or part.now (length part.now - 1) 0 ≡ 10 = cc (last part.now h) in
    inl (n, m.1)
stripped None part h m =
    inr (
      (λ e. let t : ends part.now ≡ true = (bytes_decides (drop (length part.now - 1) part.now) (10 ∷ [])).1 (last part.now h ∙ ap (λ (x : ℕ). x ∷ []) e) in
          cc),
      refl,
    )

pub line_in : (s : List ℕ) → line_length s ≤ length s
unfolding line_length
line_in [] = omega arith
line_in (b ∷ bs) = by_eq (λ (n : ℕ). n ≤ suc (length bs)) b 10 (λ e. omega arith) (λ f. omega (arith, line_in bs))

-- the lines of a text that is not empty are the first one, and those of what stands behind its newline
pub lines_first : (s : List ℕ) → 0 < length s → lines_of s ≡ take (line_length s) s ∷ lines_of (drop (suc (line_length s)) s)
unfolding lines_of line_length
lines_first [] h = absurd (not-suc-le-zero h)
lines_first (b ∷ []) h =
    by_eq (λ (x : List (List ℕ)). x ≡ take (cond (eqb b 10) 0 1) (b ∷ []) ∷ lines_of (drop (suc (cond (eqb b 10) 0 1)) (b ∷ []))) b 10
    (λ e. simp (eq-eqb b 10 e))
    (λ f. simp (ne_eqb b 10 f))
lines_first (b ∷ a ∷ s) h =
    by_eq (λ (x : List (List ℕ)). x ≡ take (line_length (b ∷ a ∷ s)) (b ∷ a ∷ s) ∷ lines_of (drop (suc (line_length (b ∷ a ∷ s))) (b ∷ a ∷ s))) b 10
    (λ e. simp (eq-eqb b 10 e))
    (λ f. let i = lines_first (a ∷ s) (omega arith) in
    let n : line_length (b ∷ a ∷ s) ≡ suc (line_length (a ∷ s)) = simp (ne_eqb b 10 f) in
    rw n (ap (in_front b) i))

-- behind a text's end no newline stands
pub at_end_lem : (text : List ℕ) (from i : ℕ) → from + line_length (drop from text) ≡ i + line_length (drop i text) → length text ≤ i → i ≡ from + line_length (drop from text)
unfolding line_length
at_end_lem text from i inv h = let z : line_length (drop i text) ≡ 0 = rw (drop_of_length-le text {i = i} h) in omega arith
