-- Where a history may begin.
-- Assumes nothing.
use Rattle.std.specs.Prelude.{false, ◌≡◌, length}
use Rattle.machine.specs.declared.ZXMachine.{ZXMachine}
use Rattle.machine.specs.Numbers.{specs_of}
use Rattle.record.specs.Sound.{Sound}
use Rattle.bus.specs.World.{World, bus_of, clear_picture, clear_border}

-- A machine that is about to begin a frame with pictures and border cleared, as "Start clears RAM, pictures and border to 0" leaves it. What stands
-- in RAM, which colours beam and report have, what is paged, how many frames have passed and the phase are open, within a sound record.
pub record Fresh (m : ZXMachine) (w : World) : Type 0 where
  pub sound : Sound (bus_of m w)
  pub ram : length w.core.ram ≡ (specs_of m).ram
  pub clock : w.core.clock ≡ 0
  pub painted : w.screen.painted ≡ 0
  pub pairs : w.edge.pairs ≡ 0
  pub unblocked : w.edge.blocked ≡ false
  pub a : w.screen.a ≡ clear_picture
  pub b : w.screen.b ≡ clear_picture
  pub pixels : w.edge.pixels ≡ clear_border
