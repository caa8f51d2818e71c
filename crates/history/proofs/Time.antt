-- The clock stays inside the frame, and the clocks of the operations are the completed frames' and the frame clock's.
-- Assumes nothing.
use Prim.Native.Nat.{ℕ, ◌+◌, ◌*◌, ◌≤◌, ◌<◌}
use mathlib.Core.Bool.{Bool, true, false, cond}
use mathlib.Core.Path.{◌≡◌, refl}
use native.Mathlib.Omega.{arith}
use lib.ListN.{length}
use Rattle.machine.specs.declared.ZXMachine.{ZXMachine}
use Rattle.machine.specs.Numbers.{specs_of}
use Rattle.bus.specs.World.{Core}
use Rattle.bus.specs.Time.{lasts, Op, step, tick, colour, silent, closes, in_core}
use Rattle.bus.specs.Turns.{clocks_of, closed_by}
use Rattle.bus.proofs.OneStep.{frame_long, closes_at, goes_on_at, core_closed, core_goes}
use Rattle.history.specs.Log.{Log, noted, frame_ends, frame_goes_on}

-- the log of a step that closes the frame, and of one that does not
module _ (m : ZXMachine) (n : ℕ) (c : Core) where
  pub log_closed : (l : Log) → closes m n c ≡ true → noted m (tick n) c l ≡ frame_ends m n c l
  unfolding noted
  log_closed l e = rw e

  pub log_goes : (l : Log) → closes m n c ≡ false → noted m (tick n) c l ≡ frame_goes_on m n c l
  unfolding noted
  log_goes l e = rw e

-- no operation of a call is a step of more than 65,535 + 6 clocks
abbrev pub Small : Op → Type 0
Small (step h n) = lasts h n ≤ 65541
Small (colour k) = Unit {0}
Small (silent o) = Unit {0}

-- a closing counts one
abbrev pub count : Bool → ℕ
count t = cond t 1 0

-- T clocks and F closings so far
pub record Clocked (m : ZXMachine) (T F : ℕ) (c : Core) (l : Log) : Type 0 where
  pub frames : F ≡ length l.done
  pub inside : c.clock < (specs_of m).frame
  pub sum : T ≡ length l.done * (specs_of m).frame + c.clock

module _ (m : ZXMachine) where
  clocked_tick : (n T F : ℕ) (c : Core) (l : Log) → n ≤ 65541 → (b : Bool) → closes m n c ≡ b → Clocked m T F c l
      → Clocked m (T + n) (F + count (closes m n c)) (in_core m (tick n) c) (noted m (tick n) c l)
  clocked_tick n T F c l small true e t =
      let k = closes_at m n c e in
      let g = frame_long m in
      rw (core_closed m n c e, log_closed m n c l e, e) (record { frames = omega arith; inside = omega arith; sum = omega arith })
  clocked_tick n T F c l small false e t =
      let k = goes_on_at m n c e in
      rw (core_goes m n c e, log_goes m n c l e, e) (record { frames = omega arith; inside = omega arith; sum = omega arith })

  pub clocked : (o : Op) (T F : ℕ) (c : Core) (l : Log) → Small o → Clocked m T F c l
      → Clocked m (T + clocks_of o) (F + count (closed_by m o c)) (in_core m o c) (noted m o c l)
  unfolding clocks_of closed_by in_core noted
  clocked (step h n) T F c l small t = clocked_tick (lasts h n) T F c l small (closes m (lasts h n) c) refl t
  clocked (colour k) T F c l small t = record { frames = omega arith; inside = t.inside; sum = omega arith }
  clocked (silent o) T F c l small t = record { frames = omega arith; inside = t.inside; sum = omega arith }
