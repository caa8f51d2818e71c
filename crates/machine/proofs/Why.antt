-- The delay's answer says exactly where the clock is, over any regular numbers; and a fact about the answer is shown by its two cases.
-- Assumes nothing.
use mathlib.Core.Path.{◌≡◌, refl, ap, sym, subst, ◌∙◌}
use mathlib.Core.Bool.{Bool, true, false, cond}
use Prim.Native.Nat.{ℕ, ◌+◌, ◌-◌, ◌*◌, ◌/◌, ◌%◌, ◌<◌, ◌≤◌}
use native.Mathlib.Nat.{div-add-mod, div-eq_of_lt, mod-eq_of_lt, mul-add-div_right, mul-add-mod_self_right, mul_comm, suc-mul, mul-le-mul_left, mul-le-mul_right, add-zero}
use lib.Dec.{ltb, leb}
use native.Mathlib.Omega.{arith}
use Rattle.laws.proofs.Cases.{by_lt, by_le, split}
use Rattle.machine.specs.declared.ZXMachine.{ZXMachine}
use Rattle.machine.specs.declared.ZXSpecs.{ZXSpecs}
use Rattle.machine.specs.declared.Delay.{Delay}
use Rattle.machine.specs.declared.Delay.TheVariants.{Held, Outside}
use Rattle.machine.specs.Numbers.{specs_of}
use Rattle.machine.specs.Timing.{delay_in_line, delay_at, clocks_held, delay}
use Rattle.machine.specs.Why.{InPicture, number_before, Why}
use Rattle.machine.proofs.Pattern.{worked_out}
use Rattle.machine.proofs.Numbered.{regular}

-- ---- the number
-- "Zero .. Otherwise": the number of an answer picked by three tests is the number picked by them
pick_number : (a b c : Bool) (line x k : ℕ) → clocks_held (cond a Outside (cond b Outside (cond c Outside (Held line x k)))) ≡ cond a 0 (cond b 0 (cond c 0 k))
pick_number true b c line x k = refl
pick_number false true c line x k = refl
pick_number false false true line x k = refl
pick_number false false false line x k = refl

pub number_is : (s : ZXSpecs) (t : ℕ) → delay s t ≡ number_before s t
unfolding delay_at delay_in_line
number_is s t = pick_number (ltb t s.contention) (leb (s.contention + 192 * s.line) t) (leb 128 ((t - s.contention) % s.line)) _ _ _

-- ---- the place
module _ (s : ZXSpecs) (w : 160 ≤ s.line) (t : ℕ) where
  -- a clock in the picture lies between the origin and 192 lines after it, and its line and x are those that document 01 divides out
  pub record Found (line x : ℕ) : Type 0 where
    pub from : s.contention ≤ t
    pub before : t < s.contention + 192 * s.line
    pub line_is : (t - s.contention) / s.line ≡ line
    pub x_is : (t - s.contention) % s.line ≡ x

  pub found : (line x : ℕ) → InPicture s t line x → Found line x
  found line x i =
      let l = s.line in
      let e : t - s.contention ≡ line * l + x = omega (arith, i.at) in
      let h : x < l = omega (arith, i.clocks) in
      record {
        from = omega (arith, i.at);
        before = omega (arith, i.at, mul-le-mul_right l i.lines, suc-mul line l);
        line_is = rw e (mul-add-div_right {m = l} (omega arith) line x ∙ rw (div-eq_of_lt {n = x} {m = l} h, add-zero line));
        x_is = rw e (mul-add-mod_self_right line l x ∙ mod-eq_of_lt {n = x} {m = l} h);
      }

  abbrev Nowhere : Type 0
  Nowhere = (line x : ℕ) → InPicture s t line x → ⊥

  -- A FACT ABOUT THE ANSWER, by whether the clock is in the picture, where the number is 6 - x mod 8
  pub by_why : (P : Delay → Type 0) → ((line x : ℕ) → InPicture s t line x → P (Held line x (6 - x % 8))) → (Nowhere → P Outside) → P (delay_at s t)
  unfolding delay_at delay_in_line
  by_why P inside out =
      let l = s.line in
      let c = t - s.contention in
      let q = c / l in
      let r = c % l in
      by_lt P t s.contention (λ h. out (λ line x i. omega (arith, (found line x i).from)))
      (λ h. by_le P (s.contention + 192 * l) t (λ k. out (λ line x i. omega (arith, (found line x i).before)))
      (λ k. by_le P 128 r (λ g. out (λ line x i. omega (arith, (found line x i).x_is, i.clocks)))
      (λ g. let d : l * q + r ≡ c = div-add-mod c l in
      let f : q < 192 = split 192 q (λ z. absurd (omega (arith, mul-le-mul_left l z))) (λ z. z) in
      rw (worked_out r) (inside q r (record { lines = f; clocks = g; at = omega (arith, mul_comm l q) })))))

  -- the number of a clock in the picture
  pub number_in : (line x : ℕ) → InPicture s t line x → delay s t ≡ 6 - x % 8
  number_in line x i =
      let f = found line x i in
      by_why (λ (d : Delay). clocks_held d ≡ 6 - x % 8)
      (λ line' x' j. let g = found line' x' j in rw (sym g.x_is ∙ f.x_is))
      (λ n. absurd (n line x i))

  abbrev IsHeld : Delay → Type 0
  IsHeld (Held line x clocks) = Unit {0}
  IsHeld Outside = ⊥

  abbrev line_of : Delay → ℕ
  line_of (Held line x clocks) = line
  line_of Outside = 0

  abbrev x_of : Delay → ℕ
  x_of (Held line x clocks) = x
  x_of Outside = 0

  moved : (line x line' x' : ℕ) → line ≡ line' → x ≡ x' → InPicture s t line x → InPicture s t line' x'
  moved line x line' x' p q i = record { lines = omega (arith, i.lines); clocks = omega (arith, i.clocks); at = rw (← p, ← q) i.at }

  -- HELD AT A LINE AND AN X EXACTLY WHEN THE CLOCK IS THERE, OUTSIDE EXACTLY OTHERWISE
  pub why : Why s t
  why =
      record {
        held = λ line x clocks.
            by_why (λ (d : Delay). d ≡ Held line x clocks → InPicture s t line x)
            (λ line' x' i e. moved line' x' line x (ap line_of e) (ap x_of e) i)
            (λ n e. absurd (subst IsHeld (sym e) tt));
        there = λ line x i.
            let f = found line x i in
            by_why (λ (d : Delay). d ≡ Held line x (clocks_held d))
            (λ line' x' j. let g = found line' x' j in rw (sym g.line_is ∙ f.line_is, sym g.x_is ∙ f.x_is))
            (λ n. absurd (n line x i));
        outside =
            by_why (λ (d : Delay). d ≡ Outside → Nowhere)
            (λ line x i e. absurd (subst IsHeld e tt))
            (λ n e. n);
        otherwise = λ n. by_why (λ (d : Delay). d ≡ Outside) (λ line x i. absurd (n line x i)) (λ m. refl);
        number = number_is s t;
      }

-- on both machines
pub why_on : (m : ZXMachine) (t : ℕ) → Why (specs_of m) t
why_on m t = why (specs_of m) (regular m).wide t
