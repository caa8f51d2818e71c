-- DEMAND 2: "On the stated domain every answer, delay, paged byte and pixel equals the Rust's."
-- Assumes nothing.
use mathlib.Core.Path.{◌≡◌, refl, sym, ap, ap₂, ◌∙◌, subst}
use mathlib.Core.Bool.{Bool, true, cond}
use mathlib.Core.List.{List, [], ◌∷◌}
use Prim.Native.Nat.{ℕ, ◌+◌, ◌*◌, ◌%◌, ◌<◌}
use native.Mathlib.Omega.{arith}
use lib.Dec.{ltb, leb}
use lib.ListN.{length, get_or}
use borrow.Author.Tests.{le-ltb}
use Rattle.laws.proofs.Cases.{by_bool}
use Rattle.machine.specs.Numbers.{specs_of}
use Rattle.machine.specs.Timing.{interrupt}
use Rattle.record.specs.Record.{flag_byte}
use Rattle.memory.specs.declared.Paged.{Paged}
use Rattle.memory.specs.declared.Place.{Place}
use Rattle.memory.specs.declared.Place.TheVariants as place
use Rattle.memory.specs.Paging as paging
use Rattle.memory.specs.Paging.{bit_set, page_at, page_exists, paged_code}
use Rattle.memory.specs.Memory.{place_of, Holds, ram_page, page_part}
use Rattle.memory.proofs.Places.{map_holds}
use Rattle.bus.specs.World.{World, started}
use Rattle.bus.specs.Time.{Silent, paged, unpass, silent, does, world_after}
use Rattle.bus.specs.Turns.{clocks_of, Part, fresh, ran_by}
use Rattle.bus.specs.Calls.{plain_wait, address_wait, port_read, paging_ops, paging_write, port_write}
use Rattle.bus.proofs.OneStep.{frame_long}
use Rattle.bus.proofs.Runs.{ran_world}
use Rattle.bus.proofs.Kept.{SoundWorld, InRange, started_sound, op_kept, call_kept}
use Rattle.bus.proofs.Reports.{call_moved}
use Rattle.bus.proofs.TimedCalls.{TimedPart, plain_timed, address_timed, read_timed, write_timed}
use Rattle.machine.specs.declared.ZXMachine as ours
use Rattle.machine.specs.declared.ZXMachine.TheVariants as our
use Rattle.rustzx.specs.Panics.{OrPanic, done, on_done, Ends}
use Rattle.rustzx.specs.Machine.{ZXMachine, specs}
use Rattle.rustzx.specs.Memory.{Page, Rom, Ram, ZXMemory, ram_page_data, page_data, block_data}
use Rattle.rustzx.specs.Controller as rust
use Rattle.rustzx.specs.Controller.{ZXController, Reached, Wrote, new, with_rom}
use Rattle.rustzx.specs.Related.{our_machine, our_page, attached_of, Related}
use Rattle.bus.specs.Pokes.{poking, byte_write, page_load, passed_reset}
use Rattle.rustzx.specs.Calls.{Call, wait_internal, wait_mreq, wait_no_mreq, read_io, write_io, read_internal, write_internal, write7ffd, read7ffd, int_active, frames_count, reset_frame_counter, load_page, ram_page_of, block_of, screen_buffer, border_buffer, Given, reached_code, paging_code, gives, acted, wrote, hands_out, performed, part_of, answer_of, after, Accepted, Seen, all_performed, all_answers, after_all, AllAccepted, TimedByRust}
use Rattle.rustzx.proofs.Timing.{frame_is, interrupt_is}
use Rattle.rustzx.proofs.Pages.{block_page, read_is, bank_type_is, page_data_is}
use Rattle.rustzx.proofs.Steps.{unpass_related}
use Rattle.rustzx.proofs.Stores.{paging_related, poke_related, load_related}
use Rattle.rustzx.proofs.PortCalls.{behind, plain_follows, wait_follows, read_follows, write_follows}
use Rattle.rustzx.proofs.Starts.{start_related}

-- what is shown of one call: the Rust does not panic, its answer is document 01's, and the two machines are related again
abbrev pub Agrees : ZXMachine → List ℕ → Call → ZXController → World → Type 0
Agrees m rom k c w = Ends (performed k c) (λ g. (g.answer ≡ answer_of (our_machine m) rom k w) × Related m rom g.controller (after (our_machine m) k w))

module _ (m : ZXMachine) (rom : List ℕ) where
  -- a run's world is what its operations leave
  to_ran : (f : Part) (c : ZXController) (w : World) → Related m rom c (behind (our_machine m) f w) → Related m rom c (ran_by f (fresh (our_machine m) w)).world
  to_ran f c w r = subst (Related m rom c) (sym (ran_world (f w.core) (fresh (our_machine m) w))) r

  stays : (c : ZXController) (w : World) → Related m rom c w → Related m rom c (ran_by (λ x. []) (fresh (our_machine m) w)).world
  unfolding world_after
  stays c w r = to_ran (λ x. []) c w r

  -- a call that acts and answers nothing
  acted_ends : (f : Part) (w : World) (x : OrPanic ZXController) → Ends x (λ c'. Related m rom c' (behind (our_machine m) f w))
      → Ends (acted x) (λ g. (g.answer ≡ []) × Related m rom g.controller (ran_by f (fresh (our_machine m) w)).world)
  acted_ends f w x e =
      record {
        value = gives e.value [];
        ends = ap acted e.ends;
        holds = (refl, to_ran f e.value w e.holds);
      }

  -- a write, whom it reached by its code
  wrote_ends : (f : Part) (w : World) (code : Reached → ℕ) (n : ℕ) (x : OrPanic Wrote)
      → Ends x (λ y. (code y.reached ≡ n) × Related m rom y.controller (behind (our_machine m) f w))
      → Ends (wrote code x) (λ g. (g.answer ≡ n ∷ []) × Related m rom g.controller (ran_by f (fresh (our_machine m) w)).world)
  wrote_ends f w code n x e =
      record {
        value = gives e.value.controller (code e.value.reached ∷ []);
        ends = ap (wrote code) e.ends;
        holds = (ap (λ (k : ℕ). k ∷ []) e.holds.0, to_ran f e.value.controller w e.holds.1);
      }

  -- a call that tells bytes and changes nothing
  told_ends : (c : ZXController) (w : World) (x : OrPanic (List ℕ)) (bytes : List ℕ) → Related m rom c w → x ≡ done bytes
      → Ends (hands_out c x) (λ g. (g.answer ≡ bytes) × Related m rom g.controller (ran_by (λ y. []) (fresh (our_machine m) w)).world)
  told_ends c w x bytes r e = record { value = gives c bytes; ends = ap (hands_out c) e; holds = (refl, stays c w r) }

-- a page of the map is there, in ROM or RAM
data_is : (mem : ZXMemory) (p : Page) → Holds (our_page p) (length mem.rom) (length mem.ram) → page_data mem p ≡ done (page_part (our_page p) mem.rom mem.ram)
data_is mem (Rom p) h =
    let e : p * 16384 ≡ 16384 * p = omega arith in
    let l = le-ltb (length mem.rom) ((p + 1) * 16384) (omega arith) in
    rw (l, e)
data_is mem (Ram p) h =
    let e : p * 16384 ≡ 16384 * p = omega arith in
    let l = le-ltb (length mem.ram) ((p + 1) * 16384) (omega arith) in
    rw (l, e)

module _ (m : ZXMachine) (rom : List ℕ) (c : ZXController) (w : World) (r : Related m rom c w) where
  -- the memory of related states, by page
  abbrev ram : List ℕ
  ram = w.core.ram

  abbrev last : ℕ
  last = w.core.paging

  block_is : (block : ℕ) → leb block 3 ≡ true → block_data c.memory block ≡ done (page_part (page_at (our_machine m) last block) rom ram)
  block_is block h =
      let p : Page = get_or c.memory.map block (Rom 0) in
      let at = block_page (our_machine m) rom ram last c.memory r.memory block in
      ap (λ (x : OrPanic Page). on_done x (λ q. page_data c.memory q)) (rw h at (bank_type_is c.memory block))
      ∙ data_is c.memory p (rw (at, r.memory.rom, r.memory.ram, r.rom_long, r.ram_long) (map_holds (our_machine m) last block))
      ∙ ap done (rw (r.memory.rom, r.memory.ram, at))

  ram_long_lem : length c.memory.ram ≡ (specs_of (our_machine m)).ram
  ram_long_lem = ap length r.memory.ram ∙ r.ram_long

  page_is : (p : ℕ) → page_exists (our_machine m) p ≡ true → ram_page_data c.memory p ≡ done (ram_page p ram)
  page_is p h = (rw h at (page_data_is m c.memory ram_long_lem p)) ∙ ap (λ (l : List ℕ). done (ram_page p l)) r.memory.ram

  int_at : w.core.clock < (specs_of (our_machine m)).frame → rust.int_active c ≡ interrupt w.core.clock
  int_at inside =
      ap₂ (λ (n : ZXMachine) (t : ℕ). ltb (t % (specs n).clocks_frame) (specs n).interrupt_length) r.machine r.clock
      ∙ interrupt_is m w.core.clock inside

  reset_follows : Related m rom (rust.reset_frame_counter c) (behind (our_machine m) passed_reset w)
  unfolding world_after
  reset_follows = unpass_related m rom c w r

  load_follows : (p : ℕ) (bytes : List ℕ) → page_exists (our_machine m) p ≡ true → length bytes ≡ 16384
      → Ends (rust.load_and_refresh p bytes c) (λ c'. Related m rom c' (behind (our_machine m) (page_load p bytes) w))
  unfolding world_after
  load_follows p bytes h l = load_related m rom c w p bytes r h l

  -- ONE CALL: on related states an accepted call does not panic in the Rust, answers the same, and leaves related states.
  pub call_agrees : (k : Call) → SoundWorld (our_machine m) w → Accepted (our_machine m) k w → Agrees m rom k c w
  unfolding performed part_of answer_of
  call_agrees (wait_internal n) s a =
      record { value = gives (rust.wait_internal n c) []; ends = refl; holds = (refl, to_ran m rom (plain_wait n) _ w (plain_follows m rom n c w r)) }
  call_agrees (wait_mreq addr n) s a =
      record { value = gives (rust.wait_mreq addr n c) []; ends = refl; holds = (refl, to_ran m rom (address_wait (our_machine m) addr n) _ w (wait_follows m rom addr n c w r)) }
  call_agrees (wait_no_mreq addr n) s a =
      record { value = gives (rust.wait_mreq addr n c) []; ends = refl; holds = (refl, to_ran m rom (address_wait (our_machine m) addr n) _ w (wait_follows m rom addr n c w r)) }
  call_agrees (read_io d port) s a =
      let e = read_follows m rom d port a.0 c w r in
      record {
        value = gives e.value.controller (e.value.value ∷ []);
        ends = ap (λ (x : OrPanic rust.Answered). on_done x (λ y. done (gives y.controller (y.value ∷ [])))) e.ends;
        holds = (ap (λ (v : ℕ). v ∷ []) e.holds.0, to_ran m rom (port_read (our_machine m) port) _ w e.holds.1);
      }
  call_agrees (write_io d port value) s a =
      wrote_ends m rom (port_write (our_machine m) d port value) w reached_code _ (rust.write_io (attached_of d) port value c) (write_follows m rom d port value c w r)
  call_agrees (read_internal addr) s a =
      record {
        value = gives c (rust.read_internal addr c ∷ []);
        ends = refl;
        holds = (ap (λ (v : ℕ). v ∷ []) (read_is (our_machine m) rom w.core.ram w.core.paging c.memory r.memory addr), stays m rom c w r);
      }
  call_agrees (write_internal addr value) s a = acted_ends m rom (byte_write (our_machine m) addr value) w _ (poke_related m rom c w addr value r)
  call_agrees (write7ffd value) s a =
      subst (λ (n : ZXMachine). Ends (wrote (paging_code n) (rust.write7ffd value c)) (λ g. (g.answer ≡ paged_code (paging.write7ffd (our_machine m) w.core.paging value) ∷ []) × Related m rom g.controller (after (our_machine m) (write7ffd value) w))) (sym r.machine)
      (wrote_ends m rom (paging_write (our_machine m) value) w (paging_code m) _ (rust.write7ffd value c) (paging_related m rom c w value r))
  call_agrees read7ffd s a =
      record { value = gives c (c.current_port7ffd ∷ []); ends = refl; holds = (ap (λ (v : ℕ). v ∷ []) r.port, stays m rom c w r) }
  call_agrees int_active s a =
      record { value = gives c (flag_byte (rust.int_active c) ∷ []); ends = refl; holds = (ap (λ (t : Bool). flag_byte t ∷ []) (int_at s.clock), stays m rom c w r) }
  call_agrees frames_count s a =
      record { value = gives c (c.passed_frames ∷ []); ends = refl; holds = (ap (λ (v : ℕ). v ∷ []) r.passed, stays m rom c w r) }
  call_agrees reset_frame_counter s a =
      record { value = gives (rust.reset_frame_counter c) []; ends = refl; holds = (refl, to_ran m rom passed_reset _ w reset_follows) }
  call_agrees (load_page p bytes) s a = acted_ends m rom (page_load p bytes) w _ (load_follows p bytes a.0 a.1)
  call_agrees (ram_page_of p) s a = told_ends m rom c w _ _ r (page_is p a)
  call_agrees (block_of block) s a = told_ends m rom c w _ _ r (block_is block a)
  call_agrees screen_buffer s a = record { value = gives c c.screen.buffer; ends = refl; holds = (r.screen.shown, stays m rom c w r) }
  call_agrees border_buffer s a = record { value = gives c c.border.buffer; ends = refl; holds = (r.border.pixels, stays m rom c w r) }

by_machine : (m : ours.ZXMachine) (w : World) → SoundWorld m w → (v : ℕ) → v < 256 → SoundWorld m (world_after m (paging_ops (paging.write7ffd m w.core.paging v)) w)
unfolding paging.write7ffd world_after clocks_of
by_machine our.Sinclair48K w s v h = s
by_machine our.Sinclair128K w s v h =
    let l = frame_long our.Sinclair128K in
    let k = s.clock in
    by_bool (λ (p : Paged). SoundWorld our.Sinclair128K (world_after our.Sinclair128K (paging_ops p) w)) (bit_set 5 w.core.paging) (λ e. s)
    (λ e. op_kept our.Sinclair128K (silent (paged v)) w s (h, refl) (omega arith) (λ f. absurd (omega arith)))

-- ---- soundness goes on, so that the next call is in the domain again
module _ (m : ours.ZXMachine) (w : World) (s : SoundWorld m w) where
  -- an operation that takes no clocks
  at_once : (o : Silent) → InRange m (silent o) → SoundWorld m (does m (silent o) w)
  unfolding clocks_of
  at_once o i =
      let l = frame_long m in
      let k = s.clock in
      op_kept m (silent o) w s i (omega arith) (λ h. absurd (omega arith))

  paging_kept : (v : ℕ) → v < 256 → SoundWorld m (behind m (paging_write m v) w)
  unfolding paging.write7ffd world_after clocks_of
  paging_kept v h = by_machine m w s v h

  poke_kept : (p : Place) (v : ℕ) → SoundWorld m (world_after m (poking p v) w)
  unfolding world_after clocks_of
  poke_kept (place.Rom at) v = s
  poke_kept (place.Ram at) v = at_once _ tt

  load_kept : (p : ℕ) (bytes : List ℕ) → SoundWorld m (behind m (page_load p bytes) w)
  unfolding world_after clocks_of
  load_kept p bytes = at_once _ tt

  reset_kept : SoundWorld m (behind m passed_reset w)
  unfolding world_after clocks_of
  reset_kept = at_once unpass tt

  from_ran : (f : Part) → SoundWorld m (behind m f w) → SoundWorld m (ran_by f (fresh m w)).world
  from_ran f k = subst (SoundWorld m) (sym (ran_world (f w.core) (fresh m w))) k

  nothing_kept : SoundWorld m (ran_by (λ x. []) (fresh m w)).world
  unfolding world_after
  nothing_kept = from_ran (λ x. []) s

  pub kept : (k : Call) → Accepted m k w → SoundWorld m (after m k w)
  unfolding part_of
  kept (wait_internal n) a = call_kept m (plain_wait n) (plain_timed m n (omega (arith, a.0))) w s a.1
  kept (wait_mreq addr n) a = call_kept m (address_wait m addr n) (address_timed m addr n a.0) w s a.1
  kept (wait_no_mreq addr n) a = call_kept m (address_wait m addr n) (address_timed m addr n a.0) w s a.1
  kept (read_io d port) a = call_kept m (port_read m port) (read_timed m port) w s a.1
  kept (write_io d port value) a = call_kept m (port_write m d port value) (write_timed m d port value a.0) w s a.1
  kept (read_internal addr) a = nothing_kept
  kept (write_internal addr value) a = from_ran (byte_write m addr value) (poke_kept (place_of m w.core.paging addr) value)
  kept (write7ffd value) a = from_ran (paging_write m value) (paging_kept value a)
  kept read7ffd a = nothing_kept
  kept int_active a = nothing_kept
  kept frames_count a = nothing_kept
  kept reset_frame_counter a = from_ran passed_reset reset_kept
  kept (load_page p bytes) a = from_ran (page_load p bytes) (load_kept p bytes)
  kept (ram_page_of p) a = nothing_kept
  kept (block_of block) a = nothing_kept
  kept screen_buffer a = nothing_kept
  kept border_buffer a = nothing_kept

-- WHAT A TIMED CALL REPORTS of clocks, closing, blocks and interrupt is what the Rust's own state says: for the Rust before the call, and any
-- state of it that is related to what the call leaves.
pub reports_agree : (m : ZXMachine) (rom : List ℕ) (f : Part) → TimedPart (our_machine m) f → (c c' : ZXController) (w : World) → SoundWorld (our_machine m) w
    → Related m rom c w → Related m rom c' (ran_by f (fresh (our_machine m) w)).world
    → TimedByRust c c' (ran_by f (fresh (our_machine m) w)).clocks (ran_by f (fresh (our_machine m) w)).blocks (ran_by f (fresh (our_machine m) w)).closed (interrupt (ran_by f (fresh (our_machine m) w)).world.core.clock)
reports_agree m rom f t c c' w s r r' =
    let x = call_moved (our_machine m) f t w s in
    let w' = (ran_by f (fresh (our_machine m) w)).world in
    let closed = (ran_by f (fresh (our_machine m) w)).closed in
    let frame : (specs c.machine).clocks_frame ≡ (specs_of (our_machine m)).frame = ap (λ (n : ZXMachine). (specs n).clocks_frame) r.machine ∙ frame_is m in
    record {
      clock =
          ap (λ (t : ℕ). t + (ran_by f (fresh (our_machine m) w)).clocks) r.clock ∙ x.clock
          ∙ ap₂ (λ (a b : ℕ). cond closed a 0 + b) (sym frame) (sym r'.clock);
      passed = r'.passed ∙ x.passed ∙ ap (λ (n : ℕ). n + cond closed 1 0) (sym r.passed);
      painted =
          ap (λ (n : ℕ). n + (ran_by f (fresh (our_machine m) w)).blocks) r.screen.position ∙ x.painted
          ∙ ap (λ (n : ℕ). cond closed 6144 0 + n) (sym r'.screen.position);
      interrupt = int_at m rom c' w' r' x.inside;
    }

-- ANY LIST OF ACCEPTED CALLS, from any related and sound states: the Rust does not panic, every answer is the same, and what they leave is
-- related: clock, passed frames, 7FFD byte, RAM, both pictures and the border.
pub calls_agree : (m : ZXMachine) (rom : List ℕ) (ks : List Call) (c : ZXController) (w : World) → Related m rom c w → SoundWorld (our_machine m) w → AllAccepted (our_machine m) ks w
    → Ends (all_performed ks c) (λ s. (s.answers ≡ all_answers (our_machine m) rom ks w) × Related m rom s.controller (after_all (our_machine m) ks w))
unfolding all_performed all_answers after_all
calls_agree m rom [] c w r s a = record { value = record { controller = c; answers = [] }; ends = refl; holds = (refl, r) }
calls_agree m rom (k ∷ ks) c w r s a =
    let one = call_agrees m rom c w r k s a.0 in
    let rest = calls_agree m rom ks one.value.controller (after (our_machine m) k w) one.holds.1 (kept (our_machine m) w s k a.0) a.1 in
    record {
      value = record { controller = rest.value.controller; answers = one.value.answer ∷ rest.value.answers };
      ends =
          ap (λ (x : OrPanic Given). on_done x (λ g. on_done (all_performed ks g.controller) (λ s. done (record { controller = s.controller; answers = g.answer ∷ s.answers })))) one.ends
          ∙ ap (λ (x : OrPanic Seen). on_done x (λ s. done (record { controller = s.controller; answers = one.value.answer ∷ s.answers }))) rest.ends;
      holds = (ap₂ (λ (x : List ℕ) (y : List (List ℕ)). x ∷ y) one.holds.0 rest.holds.0, rest.holds.1);
    }

-- FROM THE START with colour 7, with the ROM that the host loads, on either machine.
pub demand_2 : (m : ZXMachine) (rom : List ℕ) → length rom ≡ (specs_of (our_machine m)).rom → (ks : List Call) → AllAccepted (our_machine m) ks (started (our_machine m) 7)
    → Ends (all_performed ks (with_rom rom (new m))) (λ s. (s.answers ≡ all_answers (our_machine m) rom ks (started (our_machine m) 7)) × Related m rom s.controller (after_all (our_machine m) ks (started (our_machine m) 7)))
demand_2 m rom long ks a = calls_agree m rom ks (with_rom rom (new m)) (started (our_machine m) 7) (start_related m rom long) (started_sound (our_machine m) 7 (omega arith)) a
