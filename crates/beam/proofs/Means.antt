-- What a line means: the code's two tests of its opening, and document 01's sentence, both ways.
-- Assumes nothing.
use Prim.Native.Nat.{ℕ, ◌<◌}
use mathlib.Core.Path.{◌≡◌, refl, ap, sym, ◌∙◌}
use mathlib.Core.Bool.{Bool, true, false, cond, ◌&&◌}
use mathlib.Core.List.{List, [], ◌∷◌, ◌++◌}
use native.Mathlib.Omega.{arith}
use borrow.Author.Tests.{ltb-true, eq-eqb, eqb-true}
use lib.Dec.{ltb, eqb}
use lib.ListN.{length, take, drop}
use lib.Seq.{drop-append_seam}
use Rattle.laws.proofs.Cases.{by_bool, and_left, and_right, and_both}
use Rattle.machine.specs.declared.ZXMachine.{ZXMachine}
use Rattle.machine.specs.declared.ZXMachine.TheVariants.{Sinclair48K, Sinclair128K}
use Rattle.machine.specs.Numbers.{specs_of}
use Rattle.std.specs.Prelude.{Option, Some, None, nat_eq}
use Rattle.std.specs.Cmp.Lexicographic.{pointwise}
use Rattle.beam.specs.declared.Asked.{Asked}
use Rattle.beam.specs.Decimal.{digits, decimal, value, same_text, starts_with}
use Rattle.beam.specs.Meaning.{asked, opening, line_text, clock_meaning, line_meaning}
use Rattle.beam.proofs.Spelling.{same_text_lem}
use Rattle.beam.proofs.Reading.{in_frame_lem}

-- a text that starts so is that opening and the rest
pub opened : (p text : List ℕ) → starts_with p text ≡ true → text ≡ p ++ drop (length p) text
unfolding starts_with
opened [] text e = refl
opened (p ∷ ps) [] e = cc
opened (p ∷ ps) (x ∷ xs) e =
    let i : xs ≡ ps ++ drop (length ps) xs = opened ps xs (and_right (eqb x p) (starts_with ps xs) e) in
    let h : x ≡ p = eqb-true x p (and_left (eqb x p) (starts_with ps xs) e) in
    cc

pub opens : (p text : List ℕ) → starts_with p (p ++ text) ≡ true
unfolding starts_with
opens [] text = refl
opens (p ∷ ps) text = and_both (eqb p p) (starts_with ps (ps ++ text)) (eq-eqb p p refl) (opens ps text)

-- the kit's test of a text's opening is the definition's
same_start : (p text : List ℕ) → pointwise nat_eq (take (length p) text) p ≡ starts_with p text
unfolding starts_with
same_start [] text = refl
same_start (p ∷ ps) [] = refl
same_start (p ∷ ps) (x ∷ xs) = ap (λ (b : Bool). eqb x p && b) (same_start ps xs)

-- the ways out of `line_meaning`, in the bytes that the code writes
module _ (line : List ℕ) where
  pub of_48 : (x : Option Asked) (clock : List ℕ) → pointwise nat_eq (take 3 line) (52 ∷ 56 ∷ 32 ∷ []) ≡ true → clock ≡ drop 3 line
      → x ≡ clock_meaning Sinclair48K clock → x ≡ line_meaning line
  unfolding line_meaning decimal digits
  of_48 x clock h d e = rw (sym (same_start (52 ∷ 56 ∷ 32 ∷ []) line) ∙ h) (rw d at e)

  module _ (f : pointwise nat_eq (take 3 line) (52 ∷ 56 ∷ 32 ∷ []) ≡ false) where
    pub of_128 : (x : Option Asked) (clock : List ℕ) → pointwise nat_eq (take 4 line) (49 ∷ 50 ∷ 56 ∷ 32 ∷ []) ≡ true → clock ≡ drop 4 line
        → x ≡ clock_meaning Sinclair128K clock → x ≡ line_meaning line
    unfolding line_meaning decimal digits
    of_128 x clock h d e =
        rw (sym (same_start (52 ∷ 56 ∷ 32 ∷ []) line) ∙ f, sym (same_start (49 ∷ 50 ∷ 56 ∷ 32 ∷ []) line) ∙ h) (rw d at e)

    pub of_none : pointwise nat_eq (take 4 line) (49 ∷ 50 ∷ 56 ∷ 32 ∷ []) ≡ false → None ≡ line_meaning line
    unfolding line_meaning decimal digits
    of_none g = rw (sym (same_start (52 ∷ 56 ∷ 32 ∷ []) line) ∙ f, sym (same_start (49 ∷ 50 ∷ 56 ∷ 32 ∷ []) line) ∙ g)

-- a text means a clock only as its spelling, below the frame
clock_in : (m m' : ZXMachine) (text : List ℕ) (t : ℕ) → clock_meaning m text ≡ Some (asked m' t) → (m ≡ m') × (text ≡ decimal t) × (t < (specs_of m).frame)
unfolding clock_meaning
clock_in m m' text t =
    by_bool (λ (l : Option Asked). l ≡ Some (asked m' t) → (m ≡ m') × (text ≡ decimal t) × (t < (specs_of m).frame))
    (same_text text (decimal (value text)) && ltb (value text) (specs_of m).frame)
    (λ e h. let a : asked m (value text) ≡ asked m' t = cc in
    let n : m ≡ m' = ap (λ (x : Asked). x.machine) a in
    let v : value text ≡ t = ap (λ (x : Asked). x.clock) a in
    let s : text ≡ decimal (value text) = same_text_lem text (decimal (value text)) (and_left (same_text text (decimal (value text))) (ltb (value text) (specs_of m).frame) e) in
    let l : value text < (specs_of m).frame = ltb-true (value text) (specs_of m).frame (and_right (same_text text (decimal (value text))) (ltb (value text) (specs_of m).frame) e) in
    (n, s ∙ ap decimal v, rw v at l))
    (λ e h. let z : ◌≡◌ {A = ℕ} 0 1 = cc in absurd (omega arith))

-- Document 01's sentence, one way: a line that means a machine and a clock is the machine's name, one space and the clock in decimal without
-- leading zeros, and the clock is below the frame.
pub means_in : (line : List ℕ) (m : ZXMachine) (t : ℕ) → line_meaning line ≡ Some (asked m t) → (line ≡ line_text m t) × (t < (specs_of m).frame)
unfolding line_meaning
means_in line m t =
    by_bool P (starts_with (opening Sinclair48K) line) (λ e h. named Sinclair48K e h)
    (λ f. by_bool P (starts_with (opening Sinclair128K) line) (λ e h. named Sinclair128K e h) (λ e h. let z : ◌≡◌ {A = ℕ} 0 1 = cc in absurd (omega arith))) where
      P : Option Asked → Type 0
      P l = l ≡ Some (asked m t) → (line ≡ line_text m t) × (t < (specs_of m).frame)

      named : (m' : ZXMachine) → starts_with (opening m') line ≡ true → clock_meaning m' (drop (length (opening m')) line) ≡ Some (asked m t)
          → (line ≡ line_text m t) × (t < (specs_of m).frame)
      named m' e h =
          let c = clock_in m' m (drop (length (opening m')) line) t h in
          (opened (opening m') line e ∙ ap (λ (l : List ℕ). opening m' ++ l) c.1 ∙ ap (λ (x : ZXMachine). line_text x t) c.0, rw c.0 at c.2)

-- a line of the 128K does not start as one of the 48K
other_opening : (t : ℕ) → starts_with (opening Sinclair48K) (line_text Sinclair128K t) ≡ false
unfolding starts_with decimal digits
other_opening t = refl

-- and the other way: each such line means just that
pub means_out : (m : ZXMachine) (t : ℕ) → t < (specs_of m).frame → line_meaning (line_text m t) ≡ Some (asked m t)
unfolding line_meaning
means_out Sinclair48K t h =
    rw (opens (opening Sinclair48K) (decimal t), drop-append_seam (opening Sinclair48K) (decimal t))
    (sym (in_frame_lem Sinclair48K (decimal t) t refl h))
means_out Sinclair128K t h =
    rw (other_opening t, opens (opening Sinclair128K) (decimal t), drop-append_seam (opening Sinclair128K) (decimal t))
    (sym (in_frame_lem Sinclair128K (decimal t) t refl h))
