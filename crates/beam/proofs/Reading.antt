-- How a clock is read, one byte after the other: what the loop of `clock_meaning` keeps, and each of its ways out.
-- Assumes nothing.
use Prim.Native.Nat.{ℕ, ◌+◌, ◌-◌, ◌*◌, ◌/◌, ◌%◌, ◌<◌, ◌≤◌}
use mathlib.Core.Path.{◌≡◌, refl, ap, ap₂, sym, ◌∙◌}
use mathlib.Core.Bool.{true, ◌&&◌}
use mathlib.Core.List.{List, [], ◌∷◌, ◌++◌}
use native.Mathlib.Numerals.{add-one}
use native.Mathlib.Omega.{arith}
use borrow.Author.Tests.{lt-ltb, ltb-true}
use lib.Dec.{ltb}
use lib.ListN.{length, get_or, take, drop}
use lib.Seq.{drop-cons, take-suc, take_all, get_or-take, length-take-le}
use Rattle.laws.proofs.Cases.{split, by_bool, and_left, and_right, and_both}
use Rattle.machine.specs.declared.ZXMachine.{ZXMachine}
use Rattle.machine.specs.Numbers.{specs_of}
use Rattle.std.specs.Prelude.{Option, Some, None}
use Rattle.beam.specs.declared.Asked.{Asked}
use Rattle.beam.specs.Decimal.{decimal, value_from, value, same_text}
use Rattle.beam.specs.Meaning.{asked, clock_meaning}
use Rattle.beam.proofs.Spelling.{decimal_small, decimal_large, length_some, all_digits, first_digit, value_grows, value_back, same_text_lem, text_same}

-- a text that spells nothing
pub no_number : (m : ZXMachine) (text : List ℕ) → (text ≡ decimal (value text) → ⊥) → None ≡ clock_meaning m text
unfolding clock_meaning
no_number m text f =
    by_bool (λ (l : Option Asked). None ≡ l) (same_text text (decimal (value text)) && ltb (value text) (specs_of m).frame)
    (λ e. absurd (f (same_text_lem text (decimal (value text)) (and_left _ _ e))))
    (λ e. refl)

-- the clock is past the frame
pub past_frame : (m : ZXMachine) (text : List ℕ) → (specs_of m).frame ≤ value text → None ≡ clock_meaning m text
unfolding clock_meaning
past_frame m text h =
    by_bool (λ (l : Option Asked). None ≡ l) (same_text text (decimal (value text)) && ltb (value text) (specs_of m).frame)
    (λ e. let z : ⊥ = omega (arith, ltb-true (value text) (specs_of m).frame (and_right (same_text text (decimal (value text))) (ltb (value text) (specs_of m).frame) e)) in absurd z)
    (λ e. refl)

-- the clock is below the frame
pub in_frame_lem : (m : ZXMachine) (text : List ℕ) (v : ℕ) → text ≡ decimal v → v < (specs_of m).frame → Some (asked m v) ≡ clock_meaning m text
unfolding clock_meaning
in_frame_lem m text v e h =
    let w : value text ≡ v = ap value e ∙ value_back v in
    let s : same_text text (decimal (value text)) ≡ true = rw (w, e) (text_same (decimal v)) in
    let l : ltb (value text) (specs_of m).frame ≡ true = rw w (lt-ltb v (specs_of m).frame h) in
    let t : (same_text text (decimal (value text)) && ltb (value text) (specs_of m).frame) ≡ true = and_both _ _ s l in
    rw t (ap (λ (x : ℕ). Some (asked m x)) (sym w))

-- the first i bytes of a text have been read, and came to v
pub record Read (text : List ℕ) (v i : ℕ) : Type 0 where
  pub within : i ≤ length text
  pub to_come : value_from v (drop i text) ≡ value text
  pub start : i ≡ 0 → v ≡ 0
  pub spelt : 0 < i → decimal v ≡ take i text

pub empty : (m : ZXMachine) (text : List ℕ) → length text ≡ 0 → None ≡ clock_meaning m text
empty m text h = no_number m text (λ e. let z : ⊥ = omega (arith, ap length e, length_some (value text)) in absurd z)

-- a text that starts with a zero and has more is no spelling
pub zero_first : (m : ZXMachine) (text : List ℕ) → 1 < length text → get_or text 0 0 ≡ 48 → None ≡ clock_meaning m text
zero_first m text h z = no_number m text (λ e. by_value (value text) e) where
  by_value : (n : ℕ) → text ≡ decimal n → ⊥
  by_value n e =
      split 1 n
      (λ l. omega (arith, first_digit n l, ap (λ (t : List ℕ). get_or t 0 0) e))
      (λ l. omega (arith, ap length e, ap length (decimal_small n (omega arith))))

-- a byte that is no digit
pub no_digit : (m : ZXMachine) (text : List ℕ) (i : ℕ) → i < length text → ((48 ≤ get_or text i 0) × (get_or text i 0 ≤ 57) → ⊥) → None ≡ clock_meaning m text
no_digit m text i h f = no_number m text (λ e. f (rw (sym e) at (all_digits (value text) i (rw e at h))))

same_byte : (v b : ℕ) → v ≡ 0 → 48 ≤ b → 48 + (10 * v + (b - 48)) ≡ b
same_byte v b e h = omega arith

tenth : (v b : ℕ) → 48 ≤ b → b ≤ 57 → (10 * v + (b - 48)) / 10 ≡ v
tenth v b h k = omega arith

last : (v b : ℕ) → 48 ≤ b → b ≤ 57 → 48 + (10 * v + (b - 48)) % 10 ≡ b
last v b h k = omega arith

module _ (text : List ℕ) (v i : ℕ) (r : Read text v i) where
  -- the first digit spells itself
  first : i < length text → 48 ≤ get_or text i 0 → get_or text i 0 ≤ 57 → i < 1
      → decimal (10 * v + (get_or text i 0 - 48)) ≡ take i text ++ (get_or text i 0 ∷ [])
  first h l k q =
      let e : i ≡ 0 = omega arith in
      let z : v ≡ 0 = r.start e in
      decimal_small (10 * v + (get_or text i 0 - 48)) (omega arith)
      ∙ ap (λ (x : ℕ). x ∷ []) (same_byte v (get_or text i 0) z l)
      ∙ sym (ap (λ (j : ℕ). take j text ++ (get_or text i 0 ∷ [])) e)

  -- a later digit stands behind the spelling of what came before it, which is not 0
  later : (1 < length text → get_or text 0 0 ≡ 48 → ⊥) → i < length text → 48 ≤ get_or text i 0 → get_or text i 0 ≤ 57 → 1 ≤ i
      → decimal (10 * v + (get_or text i 0 - 48)) ≡ take i text ++ (get_or text i 0 ∷ [])
  later f h l k q =
      split 1 v
      (λ p. decimal_large (10 * v + (get_or text i 0 - 48)) (omega arith)
      ∙ ap₂ (λ (x y : ℕ). decimal x ++ (y ∷ [])) (tenth v (get_or text i 0) l k) (last v (get_or text i 0) l k)
      ∙ ap (λ (x : List ℕ). x ++ (get_or text i 0 ∷ [])) (r.spelt q))
      (λ p. let e : (48 + v) ∷ [] ≡ take i text = sym (decimal_small v (omega arith)) ∙ r.spelt q in
      absurd
      (f (omega (arith, ap length e, length-take-le i text r.within))
      (omega (arith, ap (λ (x : List ℕ). get_or x 0 0) e, get_or-take i text 0 0 q))))

  pub next : (1 < length text → get_or text 0 0 ≡ 48 → ⊥) → i < length text → 48 ≤ get_or text i 0 → get_or text i 0 ≤ 57
      → Read text (10 * v + (get_or text i 0 - 48)) (i + 1)
  unfolding value_from
  next f h l k =
      record {
        within = omega arith;
        to_come = rw add-one (rw (drop-cons text i 0 h) at r.to_come);
        start = λ e. let z : ⊥ = omega arith in absurd z;
        spelt = λ p. rw (add-one, take-suc text i 0 h) (split 1 i (λ q. later f h l k q) (λ q. first h l k q));
      }

module _ (m : ZXMachine) (text : List ℕ) (v i : ℕ) (r : Read text v i) where
  pub large : (frame : ℕ) → frame ≡ (specs_of m).frame → frame ≤ v → None ≡ clock_meaning m text
  large frame e h = past_frame m text (omega (arith, value_grows v (drop i text), r.to_come))

  pub ended : (frame : ℕ) → frame ≡ (specs_of m).frame → length text ≤ i → 0 < length text → v < frame → Some (asked m v) ≡ clock_meaning m text
  ended frame e h p l = in_frame_lem m text v (sym (r.spelt (omega arith) ∙ take_all i text h)) (omega arith)

  pub ended_past : (frame : ℕ) → frame ≡ (specs_of m).frame → length text ≤ i → frame ≤ v → None ≡ clock_meaning m text
  ended_past frame e h k = large frame e k
