-- The loop keeps that the bytes passed spell the clock so far (`Read`); each way out is a law of proofs/Reading.antt.
-- Assumes nothing.
use Prim.Native.Nat.{ℕ, ◌<◌, ◌≤◌}
use Rattle.std.specs.Char.{IsNotAsciiDigit}
use mathlib.Core.Path.{◌≡◌}
use lib.ListN.{length, get_or}
use borrow.Author.Rules.{rules}
use native.Mathlib.Omega.{arith}
use Rattle.std.proofs.lemmas.Bool.Decides.{nat_tests}
use Rattle.beam.proofs.Reading.{empty, zero_first, no_digit, large, next, ended, ended_past}
use Rattle.beam.proofs.clock_meaning.Goals as goal
use Rattle.beam.proofs.clock_meaning.Goals.{else-text-gt1-via-then-text-gt1+else-text-eq48, else-text-gt1-via-else-text-gt1}
use Rattle.beam.proofs.clock_meaning.Goals.{then-not-is_ascii_digit-via-then-not-is_ascii_digit, then-not-is_ascii_digit-via-else-not-is_ascii_digit+then-frame-clock}

pub returns-then-is_empty : goal.returns-then-is_empty
returns-then-is_empty c = search (empty, rules)

pub returns-then-text-eq48 : goal.returns-then-text-eq48
returns-then-text-eq48 c = search (zero_first, rules)

outside : {b : ℕ} → IsNotAsciiDigit b → (48 ≤ b) × (b ≤ 57) → ⊥
outside h d = grind arith

pub returns-then-not-is_ascii_digit : goal.returns-then-not-is_ascii_digit
returns-then-not-is_ascii_digit c =
    elim c.then-not-is_ascii_digit.branch [
      | then-not-is_ascii_digit-via-then-not-is_ascii_digit w ↦ no_digit _ _ c.loop-digit.digit-index c.loop-digit-test.true (λ d. outside w.if-not-is_ascii_digit.ensures.cases d)
      | then-not-is_ascii_digit-via-else-not-is_ascii_digit+then-frame-clock w ↦ large _ _ _ _ c.loop-digit.invariant _ (search rules) w.if-frame-clock.true
    ]

pub loop-digit-preserved : goal.loop-digit-preserved
loop-digit-preserved c =
    let d = c.if-not-is_ascii_digit.ensures.cases in
    let no_zero = λ (h : 1 < length c.args.text.now). elim c.else-text-gt1.branch as (λ x. get_or c.args.text.now 0 0 ≡ 48 → ⊥) [
      | else-text-gt1-via-then-text-gt1+else-text-eq48 w ↦ w.if-text-eq48.false
      | else-text-gt1-via-else-text-gt1 w ↦ absurd (omega arith)
    ] in
    rw c.from.ensures (next _ _ _ c.loop-digit.invariant no_zero (search rules) d.0 d.1)

pub returns-then-clock-frame : goal.returns-then-clock-frame
returns-then-clock-frame c = ended _ _ _ _ c.loop-digit.invariant c.specs-frame.result.frame (search rules) (search rules) (grind (arith, nat_tests)) (search rules)

pub returns-else-clock-frame : goal.returns-else-clock-frame
returns-else-clock-frame c = search (ended_past, rules)
