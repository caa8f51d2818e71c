-- The calls of the C surface that take no time are the Rust's. Each is lent a part of the machine; the rest is any: RAM, pictures or border.
-- Assumes nothing.
use Prim.Native.Nat.{ℕ, ◌+◌, ◌*◌, ◌<◌, ◌≤◌}
use native.Mathlib.Omega.{arith}
use mathlib.Core.Path.{◌≡◌, refl, sym, ap, ◌∙◌, subst}
use mathlib.Core.List.{List, [], ◌∷◌}
use lib.ListN.{length}
use mathlib.Core.Bool.{true}
use borrow.Author.Tests.{le-leb}
use Rattle.std.specs.Prelude.{Result, Ok}
use Rattle.machine.specs.declared.ZXMachine.{ZXMachine}
use Rattle.machine.specs.Timing.{interrupt}
use Rattle.record.specs.declared.Bus.{Bus}
use Rattle.record.specs.Sound.{Sound}
use Rattle.record.specs.Record.{record_bytes, flag_byte, with_paging, with_passed}
use Rattle.memory.specs.declared.Place.{Place}
use Rattle.memory.specs.declared.Place.TheVariants.{Rom, Ram}
use Rattle.memory.specs.declared.Paged.{Paged}
use Rattle.memory.specs.declared.Paged.TheVariants as paging
use Rattle.memory.specs.Paging.{write7ffd, paged_code, paging_after, shown_page}
use Rattle.memory.specs.Memory.{place_of, poked_in, poked, peeked, ram_page, loaded}
use Rattle.memory.proofs.Places.{shown_exists, exists_fits}
use Rattle.memory.proofs.Stored.{front_long, loaded_front}
use Rattle.bus.specs.World.{World, world_of}
use Rattle.bus.specs.Time.{in_core, in_screen, in_edge, world_after}
use Rattle.bus.specs.Turns.{fresh}
use Rattle.bus.specs.Calls.{paging_ops, paging_write}
use Rattle.bus.proofs.Runs.{ran_world}
use Rattle.bus.proofs.Kept.{SoundWorld}
use Rattle.judgement.specs.declared.Refusal.{Refusal}
use Rattle.judgement.specs.Judges.{judge_state, judge_told, judge_read, judge_write, judge_load, judge_ram_page, judge_block, judge_shown, judge_save_scr, judge_load_scr}
use Rattle.judgement.proofs.Accepted.{ready_state, ready_told, ready_read, ready_write, ready_load, ready_ram_page, ready_block, ready_shown, ready_save_scr, ready_load_scr}
use Rattle.contracts.specs.Plain as ulb
use Rattle.contracts.specs.Plain.{tell}
use Rattle.rustzx.specs.Controller.{ZXController}
use Rattle.rustzx.specs.Related.{our_machine, Related}
use Rattle.bus.specs.Pokes.{poking, byte_write, page_load, passed_reset}
use Rattle.rustzx.specs.Calls as rust
use Rattle.rustzx.specs.Calls.{Call, part_of, answer_of, after}
use Rattle.rustzx.proofs.Demand.{kept}
use Rattle.surface.specs.Same.{SameTold, SamePart, SameMove}
use Rattle.surface.specs.Chain.{with_front, SameFile}
use Rattle.surface.proofs.OnMachine.{agrees}

module _ (bus : Bus) (ram a b border rom : List ℕ) (c : ZXController) (its : our_machine c.machine ≡ bus.machine) (r : Related c.machine rom c (world_of bus ram a b border)) where
  abbrev m : ZXMachine
  m = bus.machine

  abbrev w : World
  w = world_of bus ram a b border

  -- ---- numbers
  same_told : (k : Call) (number : Bus → ℕ) (answer : List ℕ) (v : Result Bus Refusal) → v ≡ Ok bus → Sound bus → rust.Accepted m k w
      → answer_of m rom k w ≡ number bus ∷ [] → SameTold k c (tell number answer v)
  same_told k number answer v e sound ok same =
      let g = agrees m rom c w its r k sound ok in
      rw e (record { given = g.value; number = number bus; ends = g.ends; code = refl; answer = refl; valued = g.holds.0 ∙ same })

  -- ULB_READ_INTERNAL is read_internal, where the ROM that is lent is the Rust's.
  pub read_internal_same : (state : List ℕ) (addr : ℕ) (answer : List ℕ) → judge_read state (length rom) (length ram) (length answer) ≡ Ok bus
      → SameTold (rust.read_internal addr) c (ulb.read_internal state rom ram addr answer)
  unfolding ulb.read_internal answer_of
  read_internal_same state addr answer e =
      same_told (rust.read_internal addr) (λ x. peeked x.machine x.paging rom ram addr) answer (judge_read state (length rom) (length ram) (length answer)) e
      (ready_read state bus (length rom) (length ram) (length answer) e).on_record.sound tt refl

  -- ULB_READ_7FFD, ULB_INT_ACTIVE and ULB_FRAMES_COUNT are read_7ffd, int_active and frames_count.
  pub read_7ffd_same : (state answer : List ℕ) → judge_told state (length answer) ≡ Ok bus → SameTold rust.read7ffd c (ulb.read7ffd state answer)
  unfolding ulb.read7ffd answer_of
  read_7ffd_same state answer e =
      same_told rust.read7ffd (λ x. x.paging) answer (judge_told state (length answer)) e (ready_told state bus (length answer) e).on_record.sound tt refl

  pub int_active_same : (state answer : List ℕ) → judge_told state (length answer) ≡ Ok bus → SameTold rust.int_active c (ulb.int_active state answer)
  unfolding ulb.int_active answer_of
  int_active_same state answer e =
      same_told rust.int_active (λ x. flag_byte (interrupt x.clock)) answer (judge_told state (length answer)) e
      (ready_told state bus (length answer) e).on_record.sound tt refl

  pub frames_count_same : (state answer : List ℕ) → judge_told state (length answer) ≡ Ok bus → SameTold rust.frames_count c (ulb.frames_count state answer)
  unfolding ulb.frames_count answer_of
  frames_count_same state answer e =
      same_told rust.frames_count (λ x. x.passed) answer (judge_told state (length answer)) e (ready_told state bus (length answer) e).on_record.sound tt refl

  -- ---- parts
  same_part : (k : Call) (bytes : List ℕ) → Sound bus → rust.Accepted m k w → answer_of m rom k w ≡ bytes → SamePart k c bytes
  same_part k bytes sound ok same =
      let g = agrees m rom c w its r k sound ok in
      record { given = g.value; ends = g.ends; valued = g.holds.0 ∙ same }

  -- The RAM page by number is ram_page_data; the 16 KiB at a block is the data of the page that get_bank_type names; the shown picture is the
  -- screen's frame_buffer.
  pub ram_page_same : (state : List ℕ) (number : ℕ) → judge_ram_page state (length ram) number true ≡ Ok bus
      → SamePart (rust.ram_page_of number) c (ulb.ram_page_part state ram number)
  unfolding ulb.ram_page_part answer_of
  ram_page_same state number e =
      let h = ready_ram_page state bus (length ram) number true e in
      rw e (same_part (rust.ram_page_of number) _ h.on_record.sound h.exists refl)

  pub block_same : (state : List ℕ) (block : ℕ) → judge_block state (length rom) (length ram) block true ≡ Ok bus
      → SamePart (rust.block_of block) c (ulb.block_part state rom ram block)
  unfolding ulb.block_part answer_of
  block_same state block e =
      let h = ready_block state bus (length rom) (length ram) block true e in
      rw e (same_part (rust.block_of block) _ h.on_record.sound (le-leb block 3 h.block_in) refl)

  pub shown_same : (state : List ℕ) → judge_shown state (length a) (length b) true ≡ Ok bus → SamePart rust.screen_buffer c (ulb.shown_part state a b)
  unfolding ulb.shown_part answer_of
  shown_same state e = rw e (same_part rust.screen_buffer _ (ready_shown state bus (length a) (length b) true e).on_record.sound tt refl)

  -- ---- moves
  same_move : (k : Call) (w' : World) → Sound bus → rust.Accepted m k w → after m k w ≡ w' → SameMove rom k c w'
  same_move k w' sound ok same =
      let g = agrees m rom c w its r k sound ok in
      record {
        given = g.value;
        ends = g.ends;
        related = subst (Related c.machine rom g.value.controller) same g.holds.1;
        sound = subst (λ (n : ZXMachine). SoundWorld n w') (sym its) (subst (SoundWorld m) same (kept m w sound k ok));
      }

  poked_is : (p : Place) (value : ℕ) → world_after m (poking p value) w ≡ world_of bus (poked_in p ram value) a b border
  unfolding world_after in_core in_screen in_edge
  poked_is (Rom at) value = refl
  poked_is (Ram at) value = refl

  -- ULB_WRITE_INTERNAL is write_internal: the RAM that it leaves is the Rust's, with the rest of the machine as it was.
  pub write_internal_same : (state : List ℕ) (addr value : ℕ) → judge_write state (length ram) ≡ Ok bus
      → SameMove rom (rust.write_internal addr value) c (world_of bus (ulb.write_internal state ram addr value).slice a b border)
  unfolding ulb.write_internal part_of
  write_internal_same state addr value e =
      rw e
      (same_move (rust.write_internal addr value) (world_of bus (poked m bus.paging ram addr value) a b border) (ready_write state bus (length ram) e).on_record.sound tt
      (ran_world (byte_write m addr value w.core) (fresh m w) ∙ poked_is (place_of m bus.paging addr) value))

  loaded_is : (number : ℕ) (bytes : List ℕ) → world_after m (page_load number bytes w.core) w ≡ world_of bus (loaded number bytes ram) a b border
  unfolding world_after in_core in_screen in_edge
  loaded_is number bytes = refl

  -- ULB_LOAD_PAGE is the copy into ram_page_data_mut and the refresh that follows it.
  pub load_page_same : (state bytes : List ℕ) (number : ℕ) → judge_load state (length ram) (length bytes) number ≡ Ok bus
      → SameMove rom (rust.load_page number bytes) c (world_of bus (ulb.load_page state ram bytes number).slice a b border)
  unfolding ulb.load_page part_of
  load_page_same state bytes number e =
      let h = ready_load state bus (length ram) (length bytes) number e in
      rw e
      (same_move (rust.load_page number bytes) (world_of bus (loaded number bytes ram) a b border) h.on_record.sound (h.exists, h.bytes_is)
      (ran_world (page_load number bytes w.core) (fresh m w) ∙ loaded_is number bytes))

  -- ULB_LOAD_SCR is the same load of the page's bytes with the file in front.
  pub load_scr_same : (state file : List ℕ) (number : ℕ) → judge_load_scr state (length ram) (length file) number ≡ Ok bus
      → SameMove rom (rust.load_page number (with_front file (ram_page number ram))) c (world_of bus (ulb.load_scr state ram file number).slice a b border)
  unfolding ulb.load_scr part_of
  load_scr_same state file number e =
      let h = ready_load_scr state bus (length ram) (length file) number e in
      let fits : 16384 * number + 16384 ≤ length ram = rw h.ram_is (exists_fits m number h.exists) in
      let whole = with_front file (ram_page number ram) in
      let few : length file ≤ 16384 = omega (arith, h.file_is) in
      rw e
      (same_move (rust.load_page number whole) (world_of bus (loaded number file ram) a b border) h.on_record.sound (h.exists, front_long number file ram fits few)
      (ran_world (page_load number whole w.core) (fresh m w) ∙ loaded_is number whole
      ∙ ap (λ (x : List ℕ). world_of bus x a b border) (sym (loaded_front number file ram fits few))))

  -- ULB_SAVE_SCR is the file of what ram_page_data gives for the Rust's own screen_bank.
  pub save_scr_same : (state file : List ℕ) → judge_save_scr state (length ram) (length file) ≡ Ok bus → SameFile c (ulb.save_scr state ram file).slice
  unfolding ulb.save_scr answer_of
  save_scr_same state file e =
      let h = ready_save_scr state bus (length ram) (length file) e in
      let shown = shown_page m bus.paging in
      let bank : c.screen_bank ≡ shown = r.bank ∙ ap (λ (n : ZXMachine). shown_page n bus.paging) its in
      let page : SamePart (rust.ram_page_of shown) c (ram_page shown ram) = same_part (rust.ram_page_of shown) _ h.on_record.sound (shown_exists m bus.paging) refl in
      (ram_page shown ram, subst (λ (n : ℕ). SamePart (rust.ram_page_of n) c (ram_page shown ram)) (sym bank) page, rw e)

  reset_is : world_after m (passed_reset w.core) w ≡ world_of (with_passed 0 bus) ram a b border
  unfolding world_after in_core in_screen in_edge
  reset_is = refl

  -- ULB_RESET_FRAME_COUNTER is reset_frame_counter: the record that it leaves is that of the Rust's state.
  pub reset_same : (state : List ℕ) → judge_state state ≡ Ok bus
      → ((ulb.reset_frames state).slice ≡ record_bytes (with_passed 0 bus)) × SameMove rom rust.reset_frame_counter c (world_of (with_passed 0 bus) ram a b border)
  unfolding ulb.reset_frames part_of
  reset_same state e =
      rw e (
        refl,
        same_move rust.reset_frame_counter (world_of (with_passed 0 bus) ram a b border) (ready_state state bus e).sound tt (ran_world (passed_reset w.core) (fresh m w) ∙ reset_is),
      )

  repaged_is : (p : Paged) → world_after m (paging_ops p) w ≡ world_of (with_paging (paging_after p bus.paging) bus) ram a b border
  unfolding world_after in_core in_screen in_edge
  repaged_is paging.Absent = refl
  repaged_is paging.Locked = refl
  repaged_is (paging.Taken v) = refl

  -- ULB_WRITE_7FFD is write_7ffd, of a byte; its number is 5 or 6 by whether the Rust's paging was enabled, and 0 on 48K.
  pub write_7ffd_same : (state : List ℕ) (value : ℕ) (answer : List ℕ) → value < 256 → judge_told state (length answer) ≡ Ok bus
      → ((ulb.write7ffd_call state value answer).state ≡ record_bytes (with_paging (paging_after (write7ffd m bus.paging value) bus.paging) bus))
      × SameTold (rust.write7ffd value) c (ulb.told (ulb.write7ffd_call state value answer).code (ulb.write7ffd_call state value answer).answer)
      × SameMove rom (rust.write7ffd value) c (world_of (with_paging (paging_after (write7ffd m bus.paging value) bus.paging) bus) ram a b border)
  unfolding ulb.write7ffd_call part_of answer_of
  write_7ffd_same state value answer byte e =
      let sound = (ready_told state bus (length answer) e).on_record.sound in
      let number : Bus → ℕ = λ x. paged_code (write7ffd x.machine x.paging value) in
      rw e (
        refl,
        same_told (rust.write7ffd value) number answer (Ok bus) refl sound byte refl,
        same_move (rust.write7ffd value) (world_of (with_paging (paging_after (write7ffd m bus.paging value) bus.paging) bus) ram a b border) sound byte
            (ran_world (paging_write m value w.core) (fresh m w) ∙ repaged_is (write7ffd m bus.paging value)),
      )
