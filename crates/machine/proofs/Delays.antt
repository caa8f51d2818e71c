-- When a delay is due and when none is: it ends within its frame, and none is due in the clocks that are left over past a frame's end.
-- Assumes nothing.
use mathlib.Core.Path.{◌≡◌, sym, ◌∙◌}
use Prim.Native.Nat.{ℕ, ◌+◌, ◌-◌, ◌*◌, ◌<◌, ◌≤◌}
use native.Mathlib.Nat.{suc-mul, mul-le-mul_right}
use native.Mathlib.Omega.{arith}
use borrow.Author.Tests.{lt-ltb, le-ltb, le-leb}
use Rattle.laws.proofs.Cases.{split}
use Rattle.machine.specs.declared.ZXSpecs.{ZXSpecs}
use Rattle.machine.specs.declared.Delay.{Delay}
use Rattle.machine.specs.Numbers.{Regular}
use Rattle.machine.specs.Timing.{delay_at, clocks_held, delay}
use Rattle.machine.proofs.Why.{by_why}

-- A delay above 0 ends within the 192 lines that have delays, for it ends before its line does,
pub delay_ends : (s : ZXSpecs) → 160 ≤ s.line → (t : ℕ) → 0 < delay s t → t + delay s t < s.contention + 192 * s.line
delay_ends s w t =
    by_why s w t (λ (d : Delay). 0 < clocks_held d → t + clocks_held d < s.contention + 192 * s.line)
    (λ line x i p. omega (arith, i.at, i.clocks, mul-le-mul_right s.line i.lines, suc-mul line s.line))
    (λ n p. absurd (omega arith))

-- and they end with the frame or before it: where adding the delay would reach the frame's end, none is due.
pub delay_in_frame : (s : ZXSpecs) → Regular s → (t : ℕ) → 0 < delay s t → t + delay s t < s.frame
delay_in_frame s r t p = omega (arith, delay_ends s r.wide t p, r.held_in_frame)

-- So a step of the delay, from within the frame, closes no frame.
pub delay_inside : (s : ZXSpecs) → Regular s → (t : ℕ) → t < s.frame → t + delay s t < s.frame
delay_inside s r t h = split 1 (delay s t) (λ p. delay_in_frame s r t p) (λ p. omega arith)

-- ---- no delay before the contention origin, and none from 192 lines after it

pub delay_before : (s : ZXSpecs) (t : ℕ) → t < s.contention → delay s t ≡ 0
unfolding delay_at
delay_before s t h = rw (lt-ltb t s.contention h)

pub delay_past : (s : ZXSpecs) (t : ℕ) → s.contention + 192 * s.line ≤ t → delay s t ≡ 0
unfolding delay_at
delay_past s t h = rw (le-ltb t s.contention (omega arith), le-leb (s.contention + 192 * s.line) t h)

-- So past a frame's end no delay is due, counted on from that frame,
pub delay_over : (s : ZXSpecs) → Regular s → (t : ℕ) → s.frame ≤ t → delay s t ≡ 0
delay_over s r t h = delay_past s t (omega (arith, r.held_in_frame))

-- and in the new frame none is due either, up to its contention origin: the two counts of a clock agree there.
pub delay_left_over : (s : ZXSpecs) → Regular s → (t : ℕ) → s.frame ≤ t → t - s.frame < s.contention → delay s (t - s.frame) ≡ delay s t
delay_left_over s r t h k = delay_before s (t - s.frame) k ∙ sym (delay_over s r t h)
