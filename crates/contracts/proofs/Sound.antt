-- SOUNDNESS: the record that any call leaves is held as sound if the record that it was lent is; an accepted call leaves a sound one whatever
-- it was lent. So refusal 3 meets only records that the firmware damaged. Calls that are lent the record by `&` cannot change it.
-- And a 7FFD write that is not taken, on 48K or when locked, leaves the record as it was, byte for byte.
-- Assumes nothing.
use Prim.Native.Nat.{ℕ, ◌<◌}
use mathlib.Core.Path.{◌≡◌, refl, sym, ap, subst, ◌∙◌}
use mathlib.Core.Bool.{true}
use mathlib.Core.List.{List, []}
use native.Mathlib.Omega.{arith}
use lib.ListN.{length}
use Rattle.std.specs.Prelude.{Result, Ok, Err}
use Rattle.laws.proofs.Cases.{by_bool}
use Rattle.machine.specs.declared.ZXMachine.{ZXMachine}
use Rattle.machine.specs.declared.ZXMachine.TheVariants.{Sinclair48K, Sinclair128K}
use Rattle.record.specs.declared.Bus.{Bus}
use Rattle.record.specs.Record.{record_bytes, held_by, machine_of, with_paging, with_passed, HasRoom}
use Rattle.record.specs.Sound.{Sound}
use Rattle.record.proofs.Soundness.{facts_sound}
use Rattle.record.specs.Words.{Bytes}
use Rattle.record.proofs.Round.{held_encode}
use Rattle.memory.specs.declared.Paged.{Paged}
use Rattle.memory.specs.Paging.{bit_set, write7ffd, paging_after}
use Rattle.ports.specs.Devices.{devices_of}
use Rattle.bus.specs.World.{Core, world_of, bus_of}
use Rattle.bus.specs.Time.{in_core, in_screen, in_edge}
use Rattle.bus.specs.Turns.{Part, fresh, ran_by}
use Rattle.bus.specs.Calls.{plain_wait, address_wait, port_read, port_write}
use Rattle.bus.proofs.Runs.{ran_machine}
use Rattle.bus.proofs.TimedCalls.{TimedPart, plain_timed, address_timed, read_timed, write_timed}
use Rattle.bus.proofs.Kept.{unpass_kept, call_kept}
use Rattle.judgement.specs.declared.Refusal.{Refusal}
use Rattle.judgement.specs.Judges.{judge_state, judge_told}
use Rattle.judgement.proofs.Accepted.{accepted_bytes, ready_wait, ready_port, ready_told, ready_state}
use Rattle.contracts.specs.Timed.{Lent, lent_world, Outcome, timed_call, judge_wait_of, judge_port_of, wait_internal, wait_at, read_io, write_io}
use Rattle.contracts.specs.Plain.{Changed, change, Repaged, repage, write7ffd_call, reset_frames}
use Rattle.contracts.specs.Calls.{Start, asked_machine, started_world, started_by, start_again}
use Rattle.contracts.proofs.Ranges.{Typed}
use Rattle.contracts.proofs.Refusals.{not_zero}
use Rattle.contracts.proofs.Starts.{start_left, begun_sound}

-- these bytes are held as a sound record
abbrev pub Good : List ℕ → Type 0
Good state = (bus : Bus) × (held_by state ≡ Ok bus)

good : (bus : Bus) → Sound bus → Good (record_bytes bus)
good bus s = (bus, held_encode bus (facts_sound bus s))

-- ---- timed calls
-- what an accepted one has: a sound record, with room for a frame, and operations that take less than a frame
record Runs (part : ZXMachine → Part) (bus : Bus) : Type 0 where
  sound : Sound bus
  room : HasRoom bus.passed
  brief : TimedPart bus.machine (part bus.machine)

module _ (part : ZXMachine → Part) (value : ZXMachine → Core → ℕ) (l : Lent) (answer : List ℕ) where
  accepted_good : (bus : Bus) → Runs part bus → Good (timed_call part value l answer (Ok bus)).slices.state
  unfolding timed_call
  accepted_good bus r =
      let m = bus.machine in
      let w = lent_world bus l in
      let f = part m in
      let after = ran_by f (fresh m w) in
      let k : Sound (bus_of m after.world) = call_kept m f r.brief w r.sound r.room in
      good (bus_of after.machine after.world) (subst (λ (x : ZXMachine). Sound (bus_of x after.world)) (sym (ran_machine (f w.core) (fresh m w))) k)

  timed_sound : (v : Result Bus Refusal) (o : Outcome) → o ≡ timed_call part value l answer v → ((bus : Bus) → v ≡ Ok bus → Runs part bus)
      → o.code ≡ 0 → Good o.slices.state
  unfolding timed_call
  timed_sound (Err e) o p r c = absurd (not_zero e (sym (ap (λ (x : Outcome). x.code) p) ∙ c))
  timed_sound (Ok bus) o p r c = subst (λ (x : Outcome). Good x.slices.state) (sym p) (accepted_good bus (r bus refl))

  timed_keeps : (v : Result Bus Refusal) (o : Outcome) → o ≡ timed_call part value l answer v → ((bus : Bus) → v ≡ Ok bus → Runs part bus)
      → Good l.state → Good o.slices.state
  unfolding timed_call
  timed_keeps (Err e) o p r g = subst (λ (x : Outcome). Good x.slices.state) (sym p) g
  timed_keeps (Ok bus) o p r g = subst (λ (x : Outcome). Good x.slices.state) (sym p) (accepted_good bus (r bus refl))

wait_runs : (l : Lent) (clocks : ℕ) (answer : List ℕ) (bus : Bus) → judge_wait_of l clocks answer ≡ Ok bus → Runs (λ m. plain_wait clocks) bus
wait_runs l clocks answer bus p =
    let r = ready_wait l.state bus (length l.ram) (length l.a) (length l.b) (length l.border) clocks (length answer) p in
    let n = r.short in
    record { sound = r.on_record.sound; room = r.room; brief = plain_timed bus.machine clocks (omega arith) }

at_runs : (l : Lent) (addr clocks : ℕ) (answer : List ℕ) (bus : Bus) → judge_wait_of l clocks answer ≡ Ok bus → Runs (λ m. address_wait m addr clocks) bus
at_runs l addr clocks answer bus p =
    let r = ready_wait l.state bus (length l.ram) (length l.a) (length l.b) (length l.border) clocks (length answer) p in
    record { sound = r.on_record.sound; room = r.room; brief = address_timed bus.machine addr clocks r.short }

read_runs : (l : Lent) (devices : List ℕ) (port : ℕ) (answer : List ℕ) (bus : Bus) → judge_port_of l devices answer ≡ Ok bus → Runs (λ m. port_read m port) bus
read_runs l devices port answer bus p =
    let r = ready_port l.state bus devices (length l.ram) (length l.a) (length l.b) (length l.border) (length answer) p in
    record { sound = r.on_record.sound; room = r.room; brief = read_timed bus.machine port }

write_runs : (l : Lent) (devices : List ℕ) (port value : ℕ) (answer : List ℕ) (bus : Bus) → value < 256 → judge_port_of l devices answer ≡ Ok bus
    → Runs (λ m. port_write m (devices_of devices) port value) bus
write_runs l devices port value answer bus h p =
    let r = ready_port l.state bus devices (length l.ram) (length l.a) (length l.b) (length l.border) (length answer) p in
    record { sound = r.on_record.sound; room = r.room; brief = write_timed bus.machine (devices_of devices) port value h }

pub wait_internal_sound : (l : Lent) (clocks : ℕ) (answer : List ℕ) → (wait_internal l clocks answer).code ≡ 0 → Good (wait_internal l clocks answer).slices.state
unfolding wait_internal
wait_internal_sound l clocks answer c = timed_sound _ _ _ _ (judge_wait_of l clocks answer) (wait_internal l clocks answer) refl (wait_runs l clocks answer) c

pub wait_internal_keeps : (l : Lent) (clocks : ℕ) (answer : List ℕ) → Good l.state → Good (wait_internal l clocks answer).slices.state
unfolding wait_internal
wait_internal_keeps l clocks answer g = timed_keeps _ _ _ _ (judge_wait_of l clocks answer) (wait_internal l clocks answer) refl (wait_runs l clocks answer) g

pub wait_at_sound : (l : Lent) (addr clocks : ℕ) (answer : List ℕ) → (wait_at l addr clocks answer).code ≡ 0 → Good (wait_at l addr clocks answer).slices.state
unfolding wait_at
wait_at_sound l addr clocks answer c = timed_sound _ _ _ _ (judge_wait_of l clocks answer) (wait_at l addr clocks answer) refl (at_runs l addr clocks answer) c

pub wait_at_keeps : (l : Lent) (addr clocks : ℕ) (answer : List ℕ) → Good l.state → Good (wait_at l addr clocks answer).slices.state
unfolding wait_at
wait_at_keeps l addr clocks answer g = timed_keeps _ _ _ _ (judge_wait_of l clocks answer) (wait_at l addr clocks answer) refl (at_runs l addr clocks answer) g

pub read_io_sound : (l : Lent) (devices : List ℕ) (port : ℕ) (answer : List ℕ) → (read_io l devices port answer).code ≡ 0 → Good (read_io l devices port answer).slices.state
unfolding read_io
read_io_sound l devices port answer c = timed_sound _ _ _ _ (judge_port_of l devices answer) (read_io l devices port answer) refl (read_runs l devices port answer) c

pub read_io_keeps : (l : Lent) (devices : List ℕ) (port : ℕ) (answer : List ℕ) → Good l.state → Good (read_io l devices port answer).slices.state
unfolding read_io
read_io_keeps l devices port answer g = timed_keeps _ _ _ _ (judge_port_of l devices answer) (read_io l devices port answer) refl (read_runs l devices port answer) g

pub write_io_sound : (l : Lent) (devices : List ℕ) (port value : ℕ) (answer : List ℕ) → value < 256 → (write_io l devices port value answer).code ≡ 0 → Good (write_io l devices port value answer).slices.state
unfolding write_io
write_io_sound l devices port value answer h c = timed_sound _ _ _ _ (judge_port_of l devices answer) (write_io l devices port value answer) refl (λ bus p. write_runs l devices port value answer bus h p) c

pub write_io_keeps : (l : Lent) (devices : List ℕ) (port value : ℕ) (answer : List ℕ) → value < 256 → Good l.state → Good (write_io l devices port value answer).slices.state
unfolding write_io
write_io_keeps l devices port value answer h g = timed_keeps _ _ _ _ (judge_port_of l devices answer) (write_io l devices port value answer) refl (λ bus p. write_runs l devices port value answer bus h p) g

-- ---- the other calls that write the record
pub start_sound : (how : Start) (l : Lent) → Typed (start_again how) → (started_by how l).code ≡ 0 → Good (started_by how l).slices.state
start_sound how l typed c =
    let bus = bus_of (machine_of (asked_machine how)) (started_world how) in
    subst (λ (x : Lent). Good x.state) (sym (start_left how l c)) (good bus (begun_sound how l typed c))

reset_good : (bus : Bus) → Sound bus → Good (record_bytes (with_passed 0 bus))
unfolding in_core in_screen in_edge
reset_good bus s = good (with_passed 0 bus) (unpass_kept bus.machine (world_of bus [] [] [] []) s)

reset_by : (state : List ℕ) (v : Result Bus Refusal) (o : Changed) → o ≡ change (λ bus. record_bytes (with_passed 0 bus)) state v
    → ((bus : Bus) → v ≡ Ok bus → Sound bus) → Good state → Good o.slice
reset_by state (Err e) o p s g = subst (λ (x : Changed). Good x.slice) (sym p) g
reset_by state (Ok bus) o p s g = subst (λ (x : Changed). Good x.slice) (sym p) (reset_good bus (s bus refl))

pub reset_frames_keeps : (state : List ℕ) → Good state → Good (reset_frames state).slice
unfolding reset_frames
reset_frames_keeps state g = reset_by state (judge_state state) (reset_frames state) refl (λ bus p. (ready_state state bus p).sound) g

-- a 7FFD byte stays a byte, and 0 on 48K
never_48 : {A : Type 0} → Sinclair128K ≡ Sinclair48K → A
never_48 p = let z : ◌≡◌ {A = ℕ} 0 1 = cc in absurd (omega (arith, z))

paged_small : (m : ZXMachine) (h v : ℕ) → h < 256 → v < 256 → paging_after (write7ffd m h v) h < 256
unfolding write7ffd
paged_small Sinclair48K h v p q = p
paged_small Sinclair128K h v p q = by_bool (λ (x : Paged). paging_after x h < 256) (bit_set 5 h) (λ e. p) (λ e. q)

paged_none : (m : ZXMachine) (h v : ℕ) → (m ≡ Sinclair48K → h ≡ 0) → m ≡ Sinclair48K → paging_after (write7ffd m h v) h ≡ 0
unfolding write7ffd
paged_none Sinclair48K h v f e = f refl
paged_none Sinclair128K h v f e = never_48 e

paged_good : (bus : Bus) (v : ℕ) → v < 256 → Sound bus
    → Good (record_bytes (with_paging (paging_after (write7ffd bus.machine bus.paging v) bus.paging) bus))
paged_good bus v h s =
    good (with_paging (paging_after (write7ffd bus.machine bus.paging v) bus.paging) bus)
    (record {
      passed = s.passed;
      phase = s.phase;
      paging = paged_small bus.machine bus.paging v s.paging h;
      reported = s.reported;
      colour = s.colour;
      clock = s.clock;
      painted = s.painted;
      pairs = s.pairs;
      at_end = s.at_end;
      no_pairs = s.no_pairs;
      unpaged = paged_none bus.machine bus.paging v s.unpaged;
    })

paged_by : (state answer : List ℕ) (value : ℕ) → value < 256 → (v : Result Bus Refusal) (o : Repaged) → o ≡ repage value state answer v
    → ((bus : Bus) → v ≡ Ok bus → Sound bus) → Good state → Good o.state
paged_by state answer value h (Err e) o p s g = subst (λ (x : Repaged). Good x.state) (sym p) g
paged_by state answer value h (Ok bus) o p s g = subst (λ (x : Repaged). Good x.state) (sym p) (paged_good bus value h (s bus refl))

pub write_7ffd_keeps : (state : List ℕ) (value : ℕ) (answer : List ℕ) → value < 256 → Good state → Good (write7ffd_call state value answer).state
unfolding write7ffd_call
write_7ffd_keeps state value answer h g =
    paged_by state answer value h (judge_told state (length answer)) (write7ffd_call state value answer) refl
    (λ bus p. (ready_told state bus (length answer) p).on_record.sound) g

-- "on 48K 0 with nothing changed"; and nothing changes where paging is locked
not_taken : (state answer : List ℕ) (value : ℕ) (bus : Bus) → Bytes state → judge_told state (length answer) ≡ Ok bus
    → paging_after (write7ffd bus.machine bus.paging value) bus.paging ≡ bus.paging → (write7ffd_call state value answer).state ≡ state
unfolding write7ffd_call
not_taken state answer value bus b p e =
    rw (p, e) (accepted_bytes state bus b (ready_told state bus (length answer) p).on_record)

absent_48 : (m : ZXMachine) (h v : ℕ) → m ≡ Sinclair48K → paging_after (write7ffd m h v) h ≡ h
unfolding write7ffd
absent_48 Sinclair48K h v e = refl
absent_48 Sinclair128K h v e = never_48 e

pub nothing_on_48k : (state answer : List ℕ) (value : ℕ) (bus : Bus) → Bytes state → judge_told state (length answer) ≡ Ok bus
    → bus.machine ≡ Sinclair48K → (write7ffd_call state value answer).state ≡ state
nothing_on_48k state answer value bus b p e = not_taken state answer value bus b p (absent_48 bus.machine bus.paging value e)

locked_keeps : (m : ZXMachine) (h v : ℕ) → bit_set 5 h ≡ true → paging_after (write7ffd m h v) h ≡ h
unfolding write7ffd
locked_keeps Sinclair48K h v e = refl
locked_keeps Sinclair128K h v e = rw e

pub nothing_if_locked : (state answer : List ℕ) (value : ℕ) (bus : Bus) → Bytes state → judge_told state (length answer) ≡ Ok bus
    → bit_set 5 bus.paging ≡ true → (write7ffd_call state value answer).state ≡ state
nothing_if_locked state answer value bus b p e = not_taken state answer value bus b p (locked_keeps bus.machine bus.paging value e)
