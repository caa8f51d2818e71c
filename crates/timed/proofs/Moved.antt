-- What a call that was one step leaves of the record: within the frame clock and painted blocks have moved, and nothing else.
-- Assumes nothing.
use Prim.Native.Nat.{ℕ, ◌+◌}
use mathlib.Core.Path.{◌≡◌, refl, sym, ap, ◌∙◌}
use mathlib.Core.Bool.{Bool, true, false, false≢true}
use mathlib.Core.List.{List}
use Rattle.record.specs.declared.Bus.{Bus}
use Rattle.record.specs.Record.{record_bytes, advanced}
use Rattle.record.proofs.Round.{moved_to, advanced_bytes}
use Rattle.steps.specs.declared.Turning.{Turning}
use Rattle.bus.specs.World.{world_of, bus_of}
use Rattle.bus.specs.Time.{tick, closes, look_at, shows_a, caught_up}
use Rattle.bus.specs.Turns.{Turn, turned, ran, closed_by, fresh, ran_by}
use Rattle.bus.specs.Calls.{plain_wait, address_wait, port_read}
use Rattle.bus.specs.Clocks.{due_at, part_clocks}
use Rattle.bus.proofs.OneStep.{goes_on_at}
use Rattle.bus.proofs.Merge.{address_merge}
use Rattle.bus.proofs.PortSteps.{read_step}
use Rattle.steps.specs.Turned.{turn_of, Ready}
use Rattle.steps.proofs.CodeStep.{tick_on}

module _ (bus : Bus) (begun turn : Turning) (n : ℕ) (state ram a b border a' b' border' : List ℕ)
    (starts : turn_of begun ram a b border ≡ fresh bus.machine (world_of bus ram a b border))
    (runs : turn_of turn ram a' b' border' ≡ turned (tick n) (turn_of begun ram a b border))
    (bytes : record_bytes bus ≡ state) where
  abbrev before : Turn
  before = fresh bus.machine (world_of bus ram a b border)

  step_is : turn_of turn ram a' b' border' ≡ turned (tick n) before
  step_is = runs ∙ ap (λ (t : Turn). turned (tick n) t) starts

  bytes_by : (k : Bool) → closes bus.machine n before.world.core ≡ k → turn.closed ≡ false
      → advanced state turn.bus.clock turn.bus.painted ≡ record_bytes turn.bus
  unfolding turned closed_by
  bytes_by true e quiet = absurd (false≢true (sym quiet ∙ ap (λ (t : Turn). t.closed) step_is ∙ e))
  bytes_by false e quiet =
      let place = (caught_up (look_at bus.machine (bus.clock + n) before.world.core) (shows_a bus.phase) before.world.screen).painted in
      let moved : turn.bus ≡ moved_to bus (bus.clock + n) place
      = ap (λ (t : Turn). bus_of t.machine t.world) (step_is ∙ tick_on before n (goes_on_at bus.machine n before.world.core e)) in
      rw (moved, ← bytes) (advanced_bytes bus (bus.clock + n) place)

  -- Where the step closed no frame, the record's bytes with the new clock and the new painted blocks are the bytes of the new record.
  pub step_bytes : turn.closed ≡ false → advanced state turn.bus.clock turn.bus.painted ≡ record_bytes turn.bus
  step_bytes = bytes_by (closes bus.machine n before.world.core) refl

-- Plain waits, waits at an address and port reads are such calls.
module _ (t u : Turn) where
  pub plain_step : (n : ℕ) → u ≡ ran_by (plain_wait n) t → u ≡ turned (tick n) t
  unfolding ran
  plain_step n e = e

  pub address_step : (addr n steps clocks : ℕ) → Ready t steps clocks → u ≡ ran_by (address_wait t.machine addr n) t
      → u ≡ turned (tick (due_at t.machine t.world.core.paging addr t.world.core.clock + n)) t
  unfolding ran
  address_step addr n steps clocks r e = e ∙ address_merge t addr n r.in_frame r.in_place

  pub port_step : (port steps clocks : ℕ) → Ready t steps clocks → u ≡ ran_by (port_read t.machine port) t
      → u ≡ turned (tick (part_clocks t.machine t.world.core.paging port t.world.core.clock + 1)) t
  port_step port steps clocks r e = e ∙ read_step t r.in_frame r.in_place port
