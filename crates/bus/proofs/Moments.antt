-- WHEN a read takes its value and when a write acts: "the value taken before the final step"; "writes act between first and last part".
-- Firmware that samples an extender, the AY or the tape goes by these (docs/DUTIES.md, duties 8 and 9).
-- Assumes nothing.
use mathlib.Core.Path.{◌≡◌, refl, ◌∙◌}
use mathlib.Core.List.{List, [], ◌∷◌, ◌++◌}
use mathlib.Core.Logic.{⊎_elim}
use Prim.Native.Nat.{ℕ, ◌+◌, ◌-◌, ◌<◌, ◌≤◌}
use native.Mathlib.Omega.{arith}
use Rattle.std.specs.Prelude.{None}
use Rattle.machine.specs.declared.ZXMachine.{ZXMachine}
use Rattle.machine.specs.Numbers.{specs_of}
use Rattle.ports.specs.declared.Devices.{Devices}
use Rattle.ports.specs.Order.{read_order}
use Rattle.ports.specs.Hearers.{hearers}
use Rattle.ports.specs.Floating.{floating_place, floating_address}
use Rattle.bus.specs.World.{Core}
use Rattle.bus.specs.Time.{Op, tick, in_core}
use Rattle.bus.specs.Turns.{clocks_of, core_after, and_then}
use Rattle.bus.specs.Calls.{first_part, last_part, final_step, read_before, port_read, floating_byte, floating_bus, read_value, acted_on, port_write}
use Rattle.bus.proofs.OneStep.{op_moves}
use Rattle.bus.proofs.Runs.{clocks_in, clocks_append}

module _ (m : ZXMachine) where
  -- inside a frame the clock after some operations is the clock before, and their clocks
  pub clock_after : (os : List Op) (c : Core) → c.clock + clocks_in os < (specs_of m).frame → (core_after m os c).clock ≡ c.clock + clocks_in os
  unfolding clocks_in core_after
  clock_after [] c h = omega arith
  clock_after (o ∷ os) c h =
      ⊎_elim
      (λ (p : ((in_core m o c).clock ≡ c.clock + clocks_of o) × ((in_core m o c).passed ≤ c.passed)).
      clock_after os (in_core m o c) (omega arith) ∙ omega arith)
      (λ (p : ((specs_of m).frame ≤ c.clock + clocks_of o) × ((in_core m o c).clock + (specs_of m).frame ≡ c.clock + clocks_of o)). absurd (omega arith))
      (op_moves m o c)

  module _ (port : ℕ) (c : Core) where
    -- all but the last clock of a read have passed when its value is taken
    pub read_clocks : clocks_in (port_read m port c) ≡ clocks_in (read_before m port c) + 1
    unfolding and_then clocks_in clocks_of
    read_clocks = clocks_append (read_before m port c) (tick 1 ∷ [])

    -- THE VALUE'S MOMENT: what the floating bus gives a read is the byte of the place at the clock of the call's start + its clocks - 1,
    -- with the memory and the paging of that moment.
    pub read_moment : (d : Devices) → read_order d port ≡ None → c.clock + clocks_in (port_read m port c) ≤ (specs_of m).frame
        → read_value m d port c
        ≡ floating_byte m (floating_address (floating_place (specs_of m) (c.clock + clocks_in (port_read m port c) - 1))) (core_after m (read_before m port c) c)
    unfolding read_value floating_bus
    read_moment d e h =
        let n = read_clocks in
        let k = clock_after (read_before m port c) c (omega arith) in
        let t : (core_after m (read_before m port c) c).clock ≡ c.clock + clocks_in (port_read m port c) - 1 = k ∙ omega arith in
        rw (e, t)

    -- THE WRITE'S MOMENT: the steps of the first part, then what the write does, then the steps of the last part and the final one.
    pub write_moment : (d : Devices) (v : ℕ) → let c₁ = core_after m (first_part m port c) c in
        port_write m d port v c
        ≡ first_part m port c ++ (acted_on m (hearers m d port) v c₁ ++ and_then m (last_part m port) final_step (core_after m (acted_on m (hearers m d port) v c₁) c₁))
    unfolding and_then
    write_moment d v = refl
