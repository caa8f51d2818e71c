-- FROM BYTES TO OPERATIONS: an accepted call on the buffers of a sound machine leaves, byte for byte, the world after its operations, which is
-- sound again and has its lengths.
-- Assumes nothing.
use Prim.Native.Nat.{ℕ, ◌+◌, ◌≤◌, ◌<◌}
use mathlib.Core.Bool.{false}
use mathlib.Core.List.{List, [], ◌∷◌}
use mathlib.Core.Path.{◌≡◌, refl, sym, ◌∙◌, ap, subst}
use native.Mathlib.Omega.{arith}
use lib.ListN.{length}
use borrow.Author.Tests.{eqb-false, ltb-false}
use Rattle.std.specs.Prelude.{Result, Ok}
use Rattle.laws.proofs.Cases.{by_bool}
use Rattle.machine.specs.declared.ZXMachine.{ZXMachine}
use Rattle.machine.specs.declared.ZXMachine.TheVariants.{Sinclair48K, Sinclair128K}
use Rattle.machine.specs.Limits.{longest_wait}
use Rattle.machine.specs.Timing.{interrupt}
use Rattle.record.specs.declared.Bus.{Bus}
use Rattle.record.specs.Record.{record_bytes, record_of, with_paging, with_passed, last_frame, no_room, HasRoom}
use Rattle.memory.specs.declared.Place.{Place}
use Rattle.memory.specs.declared.Place.TheVariants as place
use Rattle.memory.specs.declared.Paged.{Paged}
use Rattle.memory.specs.declared.Paged.TheVariants as paging
use Rattle.memory.specs.Paging.{bit_set, write7ffd, paging_after}
use Rattle.memory.specs.Memory.{place_of, poked_in, poked, loaded}
use Rattle.ports.specs.Devices.{devices_of}
use Rattle.bus.specs.World.{Core, World, bus_of, Sized}
use Rattle.bus.specs.Time.{paged, unpass, Op, silent, in_core, in_screen, in_edge, world_after}
use Rattle.bus.specs.Turns.{clocks_of, fresh, ran_by}
use Rattle.bus.specs.Calls.{read_value, write_code, paging_ops}
use Rattle.bus.specs.Pokes.{poking, page_load}
use Rattle.bus.proofs.Runs.{clocks_in, blocks_in, closed_in, ran_is, ran_world, fresh_blocks}
use Rattle.bus.proofs.TimedCalls.{TimedPart, plain_timed, address_timed, read_timed, write_timed}
use Rattle.bus.proofs.Lengths.{SameLengths, lengths_kept, call_lengths}
use Rattle.bus.proofs.Kept.{SoundWorld, InRange, op_kept, call_kept}
use Rattle.bus.proofs.Reports.{call_fits}
use Rattle.judgement.specs.declared.Refusal.{Refusal}
use Rattle.judgement.specs.Answers.{timed_answer}
use Rattle.judgement.specs.Order.{NoneHolds}
use Rattle.judgement.proofs.Order.{state_ordered, wait_ordered, port_ordered, told_ordered, write_ordered, load_ordered, load_scr_ordered}
use Rattle.contracts.specs.Timed.{Lent, lent_by, no_value, Outcome, outcome, timed_call, timed_end, judge_wait_of, judge_port_of, wait_internal, wait_at, read_io, write_io}
use Rattle.contracts.specs.Plain.{change, repage, write_internal, write7ffd_call, reset_frames, load_page, load_scr}
use Rattle.contracts.specs.Calls.{TimedCall, plain, mreq, no_mreq, port_in, port_out, Call, start_again, take_time, write_byte, write_paging, reset_passed, load_ram, load_screen, ask, with_ram, with_state, waited, timed_ops, ops_of, performed, timed_causes, causes_of, NotStarted}
use Rattle.contracts.proofs.Ranges.{Typed}
use Rattle.contracts.proofs.Wholes.{record_of_lem}

-- the value or code of a timed call, as the core decides it
abbrev pub timed_value : TimedCall → ZXMachine → Core → ℕ
timed_value (plain n) m = no_value m
timed_value (mreq addr n) m = no_value m
timed_value (no_mreq addr n) m = no_value m
timed_value (port_in devices port) m = read_value m (devices_of devices) port
timed_value (port_out devices port value) m = write_code m (devices_of devices) port value

-- what operations keep of a world
pub record Kept (m : ZXMachine) (os : List Op) (w : World) : Type 0 where
  pub sound : SoundWorld m (world_after m os w)
  pub lengths : SameLengths w (world_after m os w)
  pub brief : clocks_in os ≤ 65541

-- a 7FFD byte is taken on 128K only, and then it is the byte that was written
abbrev Takes : ZXMachine → ℕ → Paged → Type 0
Takes m v p = (u : ℕ) → p ≡ paging.Taken u → (u ≡ v) × (m ≡ Sinclair128K)

takes : (m : ZXMachine) (held v : ℕ) → Takes m v (write7ffd m held v)
unfolding write7ffd
takes Sinclair48K held v = λ u e. let z : ◌≡◌ {A = ℕ} 0 1 = cc in absurd (omega (arith, z))
takes Sinclair128K held v =
    by_bool (Takes Sinclair128K v) (bit_set 5 held)
    (λ b u e. let z : ◌≡◌ {A = ℕ} 0 1 = cc in absurd (omega (arith, z)))
    (λ b u e. (cc, refl))

pub sized_kept : (m : ZXMachine) (w w' : World) → Sized m w → SameLengths w w' → Sized m w'
sized_kept m w w' s h = record { ram = h.ram ∙ s.ram; a = h.a ∙ s.a; b = h.b ∙ s.b; pixels = h.pixels ∙ s.pixels }

module _ (m : ZXMachine) (w : World) (sound : SoundWorld m w) (sized : Sized m w) where
  abbrev l : Lent
  l = lent_by m w

  abbrev here : record_of l.state ≡ bus_of m w
  here = record_of_lem m w sound sized

  -- ---- timed calls
  module _ (t : TimedCall) (answer : List ℕ) (h : NoneHolds (timed_causes t l answer)) where
    -- an accepted timed call is its operations
    waited_is : waited t l answer ≡ timed_end (ran_by (timed_ops t m) (fresh m w)) (timed_value t m w.core)
    unfolding waited wait_internal wait_at read_io write_io timed_call
    waited_is = by t h where
      wait : (k : ℕ) → NoneHolds (timed_causes (plain k) l answer) → judge_wait_of l k answer ≡ Ok (bus_of m w)
      wait k h = (wait_ordered l.state (length l.ram) (length l.a) (length l.b) (length l.border) k (length answer)).none_accepts h ∙ ap Ok here

      port : (devices : List ℕ) → NoneHolds (timed_causes (port_in devices 0) l answer) → judge_port_of l devices answer ≡ Ok (bus_of m w)
      port devices h = (port_ordered l.state devices (length l.ram) (length l.a) (length l.b) (length l.border) (length answer)).none_accepts h ∙ ap Ok here

      by : (t : TimedCall) → NoneHolds (timed_causes t l answer) → waited t l answer ≡ timed_end (ran_by (timed_ops t m) (fresh m w)) (timed_value t m w.core)
      by (plain k) h = ap (timed_call (timed_ops (plain k)) (timed_value (plain k)) l answer) (wait k h)
      by (mreq addr k) h = ap (timed_call (timed_ops (mreq addr k)) (timed_value (mreq addr k)) l answer) (wait k h)
      by (no_mreq addr k) h = ap (timed_call (timed_ops (no_mreq addr k)) (timed_value (no_mreq addr k)) l answer) (wait k h)
      by (port_in devices port') h = ap (timed_call (timed_ops (port_in devices port')) (timed_value (port_in devices port')) l answer) (port devices h)
      by (port_out devices port' value) h = ap (timed_call (timed_ops (port_out devices port' value)) (timed_value (port_out devices port' value)) l answer) (port devices h)

    -- of operations of a timed call, within refusal 5's limit
    pub part_timed : Typed (take_time t answer) → TimedPart m (timed_ops t m)
    part_timed typed = by t h typed where
      by : (t : TimedCall) → NoneHolds (timed_causes t l answer) → Typed (take_time t answer) → TimedPart m (timed_ops t m)
      by (plain k) h typed = plain_timed m k (omega (arith, ltb-false longest_wait k h.1.1.1.0))
      by (mreq addr k) h typed = address_timed m addr k (ltb-false longest_wait k h.1.1.1.0)
      by (no_mreq addr k) h typed = address_timed m addr k (ltb-false longest_wait k h.1.1.1.0)
      by (port_in devices port) h typed = read_timed m port
      by (port_out devices port value) h typed = write_timed m (devices_of devices) port value typed.1

    -- with passed frames that have room
    room_left : HasRoom w.core.passed
    room_left = by t h where
      less : (bus : Bus) → bus ≡ bus_of m w → no_room bus.passed ≡ false → HasRoom w.core.passed
      less bus e f = let z = eqb-false bus.passed last_frame f in let same : bus.passed ≡ w.core.passed = ap (λ (b : Bus). b.passed) e in omega (arith, sound.passed, same)

      by : (t : TimedCall) → NoneHolds (timed_causes t l answer) → HasRoom w.core.passed
      by (plain k) h = less (record_of l.state) here h.1.1.1.1.0
      by (mreq addr k) h = less (record_of l.state) here h.1.1.1.1.0
      by (no_mreq addr k) h = less (record_of l.state) here h.1.1.1.1.0
      by (port_in devices port) h = less (record_of l.state) here h.1.1.1.1.0
      by (port_out devices port value) h = less (record_of l.state) here h.1.1.1.1.0

    abbrev os : List Op
    os = timed_ops t m w.core

    pub timed_kept : Typed (take_time t answer) → Kept m os w
    timed_kept typed =
        let same = ran_world os (fresh m w) in
        let timed = part_timed typed in
        record {
          sound = subst (SoundWorld m) same (call_kept m (timed_ops t m) timed w sound room_left);
          lengths = subst (SameLengths w) same (call_lengths m (timed_ops t m) w);
          brief = timed.brief w.core;
        }

    -- WHAT AN ACCEPTED TIMED CALL LEAVES: the world after its operations, and their report.
    pub timed_left : waited t l answer
        ≡ outcome 0 (lent_by m (world_after m os w))
        (timed_answer (timed_value t m w.core) (closed_in m os w.core) (interrupt (world_after m os w).core.clock) (0 + clocks_in os) (0 + blocks_in m os w))
    timed_left = waited_is ∙ ap (λ turn. timed_end turn (timed_value t m w.core)) (ran_is os (fresh m w))

    pub few_blocks : Typed (take_time t answer) → blocks_in m os w ≤ 12288
    few_blocks typed = rw (fresh_blocks os m w) at (call_fits m (timed_ops t m) (part_timed typed) w sound).1

  -- ---- calls that take no time
  no_lengths : SameLengths w w
  no_lengths = record { ram = refl; a = refl; b = refl; pixels = refl }

  none_kept : Kept m [] w
  unfolding world_after clocks_in
  none_kept = record { sound = sound; lengths = no_lengths; brief = omega arith }

  one_kept : (o : Op) → InRange m o → clocks_of o ≡ 0 → Kept m (o ∷ []) w
  unfolding world_after clocks_in
  one_kept o r z =
      record {
        sound = op_kept m o w sound r (omega (arith, sound.clock)) (λ h. absurd (omega (arith, sound.clock)));
        lengths = lengths_kept m o w;
        brief = omega arith;
      }

  -- what an accepted call leaves of the machine
  pub record Acted (k : Call) : Type 0 where
    pub slices : (performed k l).slices ≡ lent_by m (world_after m (ops_of m k w.core) w)
    pub kept : Kept m (ops_of m k w.core) w

  poke_kept : (p : Place) (value : ℕ) → Kept m (poking p value) w
  unfolding clocks_of
  poke_kept (place.Rom at) value = none_kept
  poke_kept (place.Ram at) value = one_kept _ tt refl

  poke_world : (p : Place) (value : ℕ) → with_ram l (poked_in p w.core.ram value) ≡ lent_by m (world_after m (poking p value) w)
  unfolding world_after in_core in_screen in_edge
  poke_world (place.Rom at) value = refl
  poke_world (place.Ram at) value = refl

  write_acted : (addr value : ℕ) → NoneHolds (causes_of (write_byte addr value) l) → Acted (write_byte addr value)
  unfolding performed ops_of write_internal
  write_acted addr value h =
      let p = place_of m w.core.paging addr in
      let new : Bus → List ℕ = λ bus. poked bus.machine bus.paging w.core.ram addr value in
      record {
        slices =
            ap (λ (v : Result Bus Refusal). with_ram l (change new w.core.ram v).slice) ((write_ordered l.state (length l.ram)).none_accepts h ∙ ap Ok here)
            ∙ poke_world p value;
        kept = poke_kept p value;
      }

  load_world : (bytes : List ℕ) (page : ℕ) → with_ram l (loaded page bytes w.core.ram) ≡ lent_by m (world_after m (page_load page bytes w.core) w)
  unfolding world_after in_core in_screen in_edge
  load_world bytes page = refl

  -- bytes loaded from a page's first byte on, by a page load or from a screen file
  stored_acted : (k : Call) (bytes : List ℕ) (page : ℕ) → ops_of m k w.core ≡ page_load page bytes w.core
      → (performed k l).slices ≡ with_ram l (loaded page bytes w.core.ram) → Acted k
  unfolding clocks_of
  stored_acted k bytes page ops left =
      record {
        slices = left ∙ load_world bytes page ∙ ap (λ (os : List Op). lent_by m (world_after m os w)) (sym ops);
        kept = rw ops (one_kept _ tt refl);
      }

  load_acted : (bytes : List ℕ) (page : ℕ) → NoneHolds (causes_of (load_ram bytes page) l) → Acted (load_ram bytes page)
  unfolding performed ops_of load_page
  load_acted bytes page h =
      stored_acted (load_ram bytes page) bytes page refl
      (ap (λ (v : Result Bus Refusal). with_ram l (change (λ bus. loaded page bytes w.core.ram) w.core.ram v).slice)
      ((load_ordered l.state (length l.ram) (length bytes) page).none_accepts h))

  screen_acted : (file : List ℕ) (page : ℕ) → NoneHolds (causes_of (load_screen file page) l) → Acted (load_screen file page)
  unfolding performed ops_of load_scr
  screen_acted file page h =
      stored_acted (load_screen file page) file page refl
      (ap (λ (v : Result Bus Refusal). with_ram l (change (λ bus. loaded page file w.core.ram) w.core.ram v).slice)
      ((load_scr_ordered l.state (length l.ram) (length file) page).none_accepts h))

  reset_world : with_state l (record_bytes (with_passed 0 (bus_of m w))) ≡ lent_by m (world_after m (silent unpass ∷ []) w)
  unfolding world_after in_core in_screen in_edge
  reset_world = refl

  reset_acted : NoneHolds (causes_of reset_passed l) → Acted reset_passed
  unfolding performed ops_of reset_frames clocks_of
  reset_acted h =
      let new : Bus → List ℕ = λ bus. record_bytes (with_passed 0 bus) in
      record {
        slices = ap (λ (v : Result Bus Refusal). with_state l (change new l.state v).slice) ((state_ordered l.state).none_accepts h ∙ ap Ok here) ∙ reset_world;
        kept = one_kept (silent unpass) tt refl;
      }

  paged_world : (p : Paged) → with_state l (record_bytes (with_paging (paging_after p w.core.paging) (bus_of m w))) ≡ lent_by m (world_after m (paging_ops p) w)
  unfolding world_after in_core in_screen in_edge
  paged_world paging.Absent = refl
  paged_world paging.Locked = refl
  paged_world (paging.Taken v) = refl

  paged_kept : (v : ℕ) → v < 256 → (p : Paged) → Takes m v p → Kept m (paging_ops p) w
  unfolding clocks_of
  paged_kept v h paging.Absent f = none_kept
  paged_kept v h paging.Locked f = none_kept
  paged_kept v h (paging.Taken u) f = let g = f u refl in one_kept (silent (paged u)) (omega (arith, g.0), g.1) refl

  paging_acted : (v : ℕ) (answer : List ℕ) → v < 256 → NoneHolds (causes_of (write_paging v answer) l) → Acted (write_paging v answer)
  unfolding performed ops_of write7ffd_call
  paging_acted v answer byte h =
      let p = write7ffd m w.core.paging v in
      record {
        slices =
            ap (λ (x : Result Bus Refusal). with_state l (repage v l.state answer x).state) ((told_ordered l.state (length answer)).none_accepts h ∙ ap Ok here)
            ∙ paged_world p;
        kept = paged_kept v byte p (takes m w.core.paging v);
      }

  -- EVERY ACCEPTED CALL, whichever it is.
  pub acted : (k : Call) → NotStarted k 0 → Typed k → NoneHolds (causes_of k l) → Acted k
  unfolding ops_of performed world_after
  acted (start_again how) first typed h = absurd (first refl)
  acted (take_time t answer) first typed h = record { slices = ap (λ (o : Outcome). o.slices) (timed_left t answer h); kept = timed_kept t answer h typed }
  acted (write_byte addr value) first typed h = write_acted addr value h
  acted (write_paging value answer) first typed h = paging_acted value answer typed h
  acted reset_passed first typed h = reset_acted h
  acted (load_ram bytes page) first typed h = load_acted bytes page h
  acted (load_screen file page) first typed h = screen_acted file page h
  acted (ask q out) first typed h = record { slices = refl; kept = none_kept }
