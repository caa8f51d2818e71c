-- WHERE A Z80 THAT WAS HELD GOES ON, in the bus's own steps: the delay of a wait at an address, or of a port call's first part, ends at the clock at
-- which the ULA fetches the last byte of the two columns that the delay's answer names.
-- Assumes nothing.
use mathlib.Core.Path.{◌≡◌, ap, ◌∙◌}
use mathlib.Core.Bool.{true}
use Prim.Native.Nat.{ℕ, ◌+◌, ◌<◌}
use native.Mathlib.Omega.{arith}
use Rattle.machine.specs.declared.ZXMachine.{ZXMachine}
use Rattle.machine.specs.declared.Delay.TheVariants.{Held}
use Rattle.machine.specs.Numbers.{specs_of}
use Rattle.machine.specs.Timing.{delay_at, clocks_held, first_column}
use Rattle.machine.specs.Pages.{page_of}
use Rattle.machine.proofs.Numbered.{regular}
use Rattle.ports.specs.Pages.{attribute_at}
use Rattle.ports.proofs.Columns.{fetching_on}
use Rattle.bus.specs.World.{Core}
use Rattle.bus.specs.Time.{due}
use Rattle.bus.specs.Turns.{core_after}
use Rattle.bus.specs.Calls.{contended, delayed}
use Rattle.bus.proofs.PortClocks.{due_inside, stays}

pub goes_on_lem : (m : ZXMachine) (addr : ℕ) (c : Core) → contended m addr c ≡ true
    → (line x clocks : ℕ) → delay_at (specs_of m) c.clock ≡ Held line x clocks → 0 < clocks
    → (core_after m (delayed m addr c) c).clock ≡ attribute_at (page_of m) line (first_column x + 1)
unfolding delayed core_after
goes_on_lem m addr c h line x clocks q p =
    let n : clocks_held (delay_at (specs_of m) c.clock) ≡ clocks = ap clocks_held q in
    let i = due_inside (specs_of m) (regular m) c.clock (omega arith) in
    rw h (stays m (due (delay_at (specs_of m) c.clock)) 0 c (omega arith) ∙ omega (arith, (fetching_on m c.clock line x clocks q).goes_on p))
