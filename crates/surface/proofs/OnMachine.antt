-- What is shown of the Rust's machines, said of ours by the equation between them.
-- Assumes nothing.
use Prim.Native.Nat.{ℕ}
use mathlib.Core.Path.{◌≡◌, sym, subst}
use mathlib.Core.List.{List}
use Rattle.machine.specs.declared.ZXMachine as ours
use Rattle.machine.specs.Timing.{interrupt}
use Rattle.bus.specs.World.{World}
use Rattle.bus.specs.Turns.{Part, fresh, ran_by}
use Rattle.bus.proofs.Kept.{SoundWorld}
use Rattle.bus.proofs.TimedCalls.{TimedPart}
use Rattle.rustzx.specs.Panics.{Ends}
use Rattle.rustzx.specs.Machine.{ZXMachine}
use Rattle.rustzx.specs.Controller.{ZXController}
use Rattle.rustzx.specs.Related.{our_machine, Related}
use Rattle.rustzx.specs.Calls.{Call, performed, answer_of, after, Accepted, TimedByRust}
use Rattle.rustzx.proofs.Demand.{call_agrees, reports_agree}

-- a state is related by its own machine
pub own : (z : ZXMachine) (rom : List ℕ) (c : ZXController) (w : World) → Related z rom c w → Related c.machine rom c w
own z rom c w r = subst (λ (n : ZXMachine). Related n rom c w) (sym r.machine) r

module _ (m : ours.ZXMachine) (rom : List ℕ) (c : ZXController) (w : World) (its : our_machine c.machine ≡ m) (r : Related c.machine rom c w) where
  -- one accepted call
  pub agrees : (k : Call) → SoundWorld m w → Accepted m k w
      → Ends (performed k c) (λ g. (g.answer ≡ answer_of m rom k w) × Related c.machine rom g.controller (after m k w))
  agrees k =
      subst (λ (n : ours.ZXMachine). SoundWorld n w → Accepted n k w
      → Ends (performed k c) (λ g. (g.answer ≡ answer_of n rom k w) × Related c.machine rom g.controller (after n k w)))
      its (call_agrees c.machine rom c w r k)

  -- what a timed call reports
  pub reports : (f : Part) (c' : ZXController) → TimedPart m f → SoundWorld m w → Related c.machine rom c' (ran_by f (fresh m w)).world
      → TimedByRust c c' (ran_by f (fresh m w)).clocks (ran_by f (fresh m w)).blocks (ran_by f (fresh m w)).closed (interrupt (ran_by f (fresh m w)).world.core.clock)
  reports f c' =
      subst (λ (n : ours.ZXMachine). TimedPart n f → SoundWorld n w → Related c.machine rom c' (ran_by f (fresh n w)).world
      → TimedByRust c c' (ran_by f (fresh n w)).clocks (ran_by f (fresh n w)).blocks (ran_by f (fresh n w)).closed (interrupt (ran_by f (fresh n w)).world.core.clock))
      its (λ t s r'. reports_agree c.machine rom f t c c' w s r r')
