-- The waits, the port read and the port write of the C surface are the Rust's.
-- Assumes nothing.
use Prim.Native.Nat.{ℕ, ◌<◌}
use mathlib.Core.Path.{◌≡◌, refl, sym, ap, ◌∙◌, subst}
use mathlib.Core.Bool.{true}
use mathlib.Core.List.{List, [], ◌∷◌}
use native.Mathlib.Omega.{arith}
use lib.Dec.{ltb}
use lib.ListN.{length}
use borrow.Author.Tests.{ltb-true}
use Rattle.std.specs.Prelude.{Result, Ok}
use Rattle.laws.proofs.Conjunction.{each}
use Rattle.machine.specs.declared.ZXMachine.{ZXMachine}
use Rattle.machine.specs.Timing.{interrupt}
use Rattle.record.specs.declared.Bus.{Bus}
use Rattle.ports.specs.Devices.{devices_of, flags_of, device_byte}
use Rattle.bus.specs.World.{Core, World}
use Rattle.bus.specs.Turns.{Turn, Part, fresh, ran_by}
use Rattle.bus.specs.Calls.{plain_wait, address_wait, port_read, read_value, port_write, write_code}
use Rattle.bus.proofs.Runs.{ran_machine}
use Rattle.bus.proofs.Kept.{SoundWorld}
use Rattle.bus.proofs.TimedCalls.{TimedPart, plain_timed, address_timed, read_timed, write_timed}
use Rattle.judgement.specs.declared.Refusal.{Refusal}
use Rattle.judgement.proofs.Accepted.{ready_wait, ready_port}
use Rattle.contracts.specs.Timed as ulb
use Rattle.contracts.specs.Timed.{Lent, lent_by, lent_world, timed_call, no_value, judge_wait_of, judge_port_of}
use Rattle.rustzx.specs.Controller.{ZXController}
use Rattle.rustzx.specs.Related.{our_machine, Related}
use Rattle.rustzx.specs.Calls.{Call, wait_internal, wait_mreq, wait_no_mreq, read_io, write_io, Given, part_of, answer_of}
use Rattle.rustzx.specs.Calls as rust
use Rattle.rustzx.proofs.Demand.{kept}
use Rattle.surface.specs.Same.{NoValue, ItsValue, SameTimed}
use Rattle.surface.proofs.OnMachine.{agrees, reports}

module _ (l : Lent) (bus : Bus) (rom : List ℕ) (c : ZXController) (its : our_machine c.machine ≡ bus.machine) (r : Related c.machine rom c (lent_world bus l)) where
  abbrev m : ZXMachine
  m = bus.machine

  abbrev w : World
  w = lent_world bus l

  -- any timed call: what the definition of the C call says when it is accepted, beside the Rust's
  same_timed : (k : Call) (Valued : Given → ℕ → Type 0) (part : ZXMachine → Part) (value : ZXMachine → Core → ℕ) (answer : List ℕ) (v : Result Bus Refusal) → v ≡ Ok bus
      → TimedPart m (part m) → part_of m k ≡ part m → SoundWorld m w → rust.Accepted m k w
      → ((g : Given) → g.answer ≡ answer_of m rom k w → Valued g (value m w.core))
      → SameTimed rom k Valued c (timed_call part value l answer v)
  unfolding timed_call
  same_timed k Valued part value answer v e t same sound a f =
      let turn : Turn = ran_by (part m) (fresh m w) in
      let g = agrees m rom c w its r k sound a in
      let there : Related c.machine rom g.value.controller turn.world =
      subst (λ (p : Part). Related c.machine rom g.value.controller (ran_by p (fresh m w)).world) same g.holds.1 in
      rw e
      (record {
        given = g.value;
        world = turn.world;
        value = value m w.core;
        clocks = turn.clocks;
        blocks = turn.blocks;
        closed = turn.closed;
        int = interrupt turn.world.core.clock;
        ends = g.ends;
        related = there;
        sound = subst (λ (n : ZXMachine). SoundWorld n turn.world) (sym its) (subst (λ (p : Part). SoundWorld m (ran_by p (fresh m w)).world) same (kept m w sound k a));
        code = refl;
        slices = ap (λ (n : ZXMachine). lent_by n turn.world) (ran_machine (part m w.core) (fresh m w) ∙ sym its);
        answer = refl;
        valued = f g.value g.holds.0;
        by_rust = reports m rom c w its r (part m) g.value.controller t sound there;
      })

  -- ULB_WAIT_INTERNAL is wait_internal.
  pub wait_same : (n : ℕ) (answer : List ℕ) → judge_wait_of l n answer ≡ Ok bus → SameTimed rom (wait_internal n) NoValue c (ulb.wait_internal l n answer)
  unfolding ulb.wait_internal part_of
  wait_same n answer e =
      let h = ready_wait l.state bus (length l.ram) (length l.a) (length l.b) (length l.border) n (length answer) e in
      same_timed (wait_internal n) NoValue (λ k. plain_wait n) no_value answer (judge_wait_of l n answer) e
      (plain_timed m n (omega (arith, h.short))) refl h.on_record.sound (h.short, h.room) (λ g q. refl)

  -- ULB_WAIT_MREQ is wait_mreq, and ULB_WAIT_NO_MREQ wait_no_mreq.
  pub mreq_same : (addr n : ℕ) (answer : List ℕ) → judge_wait_of l n answer ≡ Ok bus → SameTimed rom (wait_mreq addr n) NoValue c (ulb.wait_at l addr n answer)
  unfolding ulb.wait_at part_of
  mreq_same addr n answer e =
      let h = ready_wait l.state bus (length l.ram) (length l.a) (length l.b) (length l.border) n (length answer) e in
      same_timed (wait_mreq addr n) NoValue (λ k. address_wait k addr n) no_value answer (judge_wait_of l n answer) e
      (address_timed m addr n h.short) refl h.on_record.sound (h.short, h.room) (λ g q. refl)

  pub no_mreq_same : (addr n : ℕ) (answer : List ℕ) → judge_wait_of l n answer ≡ Ok bus → SameTimed rom (wait_no_mreq addr n) NoValue c (ulb.wait_at l addr n answer)
  unfolding ulb.wait_at part_of
  no_mreq_same addr n answer e =
      let h = ready_wait l.state bus (length l.ram) (length l.a) (length l.b) (length l.border) n (length answer) e in
      same_timed (wait_no_mreq addr n) NoValue (λ k. address_wait k addr n) no_value answer (judge_wait_of l n answer) e
      (address_timed m addr n h.short) refl h.on_record.sound (h.short, h.room) (λ g q. refl)

  -- a tape bit that passed the flags' test is 0 or 1
  tape_small : (devices : List ℕ) → flags_of devices ≡ true → (devices_of devices).tape < 2
  unfolding devices_of
  tape_small devices e =
      ltb-true (device_byte devices 24) 2
      (each (ltb (device_byte devices 24) 2) (ltb (device_byte devices 25) 2 ∷ ltb (device_byte devices 27) 2 ∷ ltb (device_byte devices 29) 2 ∷ ltb (device_byte devices 31) 2 ∷ []) e 0)

  -- ULB_READ_IO is read_io, its value among the answer's bytes.
  pub read_same : (devices : List ℕ) (port : ℕ) (answer : List ℕ) → judge_port_of l devices answer ≡ Ok bus
      → SameTimed rom (read_io (devices_of devices) port) ItsValue c (ulb.read_io l devices port answer)
  unfolding ulb.read_io part_of answer_of
  read_same devices port answer e =
      let h = ready_port l.state bus devices (length l.ram) (length l.a) (length l.b) (length l.border) (length answer) e in
      same_timed (read_io (devices_of devices) port) ItsValue (λ k. port_read k port) (λ k. read_value k (devices_of devices) port) answer (judge_port_of l devices answer) e
      (read_timed m port) refl h.on_record.sound (tape_small devices h.flags, h.room) (λ g q. q)

  -- ULB_WRITE_IO is write_io, with a byte for its value; its code among the answer's bytes is that of whom write_io reached.
  pub write_same : (devices : List ℕ) (port value : ℕ) (answer : List ℕ) → value < 256 → judge_port_of l devices answer ≡ Ok bus
      → SameTimed rom (write_io (devices_of devices) port value) ItsValue c (ulb.write_io l devices port value answer)
  unfolding ulb.write_io part_of answer_of
  write_same devices port value answer byte e =
      let h = ready_port l.state bus devices (length l.ram) (length l.a) (length l.b) (length l.border) (length answer) e in
      same_timed (write_io (devices_of devices) port value) ItsValue (λ k. port_write k (devices_of devices) port value) (λ k. write_code k (devices_of devices) port value) answer (judge_port_of l devices answer) e
      (write_timed m (devices_of devices) port value byte) refl h.on_record.sound (byte, h.room) (λ g q. q)
