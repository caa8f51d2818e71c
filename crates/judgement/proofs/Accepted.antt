-- What an accepted judgement tells: the record is sound and is the one that the bytes stand for, and every length and number is right.
-- Assumes nothing.
use Prim.Native.Nat.{ℕ, ◌≤◌}
use mathlib.Core.Path.{◌≡◌}
use mathlib.Core.Bool.{Bool, true, false, ◌&&◌}
use mathlib.Core.List.{List, [], ◌∷◌}
use native.Mathlib.Omega.{arith}
use borrow.Author.Tests.{eqb-true, eqb-false, ltb-false, not-false}
use lib.Dec.{eqb}
use lib.ListN.{length}
use Rattle.std.specs.Prelude.{Ok, Result, Err}
use Rattle.laws.proofs.Cases.{and_left, and_right, and_both}
use Rattle.laws.proofs.Conjunction.{each}
use Rattle.machine.specs.declared.ZXMachine.{ZXMachine}
use Rattle.machine.specs.Numbers.{specs_of}
use Rattle.machine.specs.Limits.{picture_length, border_length, page_length, longest_wait}
use Rattle.record.specs.declared.Bus.{Bus}
use Rattle.record.specs.declared.BadRecord.{BadRecord}
use Rattle.record.specs.Record.{record_length, machine_of, record_bytes, held_by, last_frame, no_room, HasRoom}
use Rattle.record.proofs.Soundness.{sound_facts}
use Rattle.record.specs.Words.{Bytes}
use Rattle.record.proofs.Round.{held_decode, held_sound, held_bytes}
use Rattle.memory.specs.Paging.{page_exists}
use Rattle.memory.specs.Screens.{screen_length, video_page}
use Rattle.ports.specs.Devices.{flags_of, devices_length}
use Rattle.snapshot.specs.File.{due_size, paging_in}
use Rattle.snapshot.specs.Kept.{registers_length}
use Rattle.judgement.specs.Refusals.{Cause, judged_held, judge}
use Rattle.judgement.specs.Judges.{ram_fits, rom_fits, picture_fits, border_fits, timed_fits, number_fits, lent_fit, start_fits, judge_start, judge_wait, judge_port, judge_state, judge_told, judge_read, judge_write, judge_load, judge_ram_page, judge_block, judge_shown, judge_still, judge_save_scr, judge_load_scr, judge_load_sna, judge_save_sna}
use Rattle.judgement.specs.Order.{NoneHolds}
use Rattle.judgement.specs.Ready.{OnRecord, Fit, StartFit, ReadyStart, ReadyWait, ReadyPort, ReadyTold, ReadyRead, ReadyWrite, ReadyLoad, ReadyRamPage, ReadyBlock, ReadyShown, ReadyStill, ReadySaveScr, ReadyLoadScr, ReadyLoadSna, ReadySaveSna}
use Rattle.judgement.specs.Answers.{timed_length, number_length}
use Rattle.judgement.proofs.Order.{accepted_by_none_lem, start_colour_ordered, load_sna_ordered}

by_held : (h : Result Bus BadRecord) (causes : Bus → List Cause) (bus : Bus) → judged_held h causes ≡ Ok bus → (h ≡ Ok bus) × NoneHolds (causes bus)
by_held (Err bad) causes bus p = cc
by_held (Ok b) causes bus p =
    let n = accepted_by_none_lem (causes b) b bus p in
    (rw n.1, rw n.1 n.0)

on_record_lem : (state : List ℕ) (bus : Bus) → held_by state ≡ Ok bus → OnRecord state bus
on_record_lem state bus h =
    let d = held_decode state bus h in
    record { long = d.0; is_held = h; decodes = d.2; sound = sound_facts bus (held_sound state bus h) }

-- an accepted call: the record is sound, and no cause holds
pub accepted : (state : List ℕ) (causes : Bus → List Cause) (bus : Bus) → judge state causes ≡ Ok bus → OnRecord state bus × NoneHolds (causes bus)
accepted state causes bus p = let h = by_held (held_by state) causes bus p in (on_record_lem state bus h.0, h.1)

-- the bytes of the accepted record are those that were lent, as every element of a slice of bytes in code is a byte
pub accepted_bytes : (state : List ℕ) (bus : Bus) → Bytes state → OnRecord state bus → record_bytes bus ≡ state
accepted_bytes state bus b r = held_bytes state bus b r.is_held

-- lengths that fit together
fits : (bus : Bus) (ram a b border answer : ℕ) → (lent_fit bus ram a b border && timed_fits answer) ≡ true → Fit bus ram a b border answer
fits bus ram a b border answer e =
    let test = each (ram_fits bus ram) (picture_fits a ∷ picture_fits b ∷ border_fits border ∷ timed_fits answer ∷ []) e in
    record {
      ram_is = eqb-true ram (specs_of bus.machine).ram (test 0);
      a_is = eqb-true a picture_length (test 1);
      b_is = eqb-true b picture_length (test 2);
      border_is = eqb-true border border_length (test 3);
      answer_is = eqb-true answer timed_length (test 4);
    }

-- passed frames are not at their last number
has_room : (bus : Bus) → bus.passed ≤ last_frame → no_room bus.passed ≡ false → HasRoom bus.passed
has_room bus h e = let n = eqb-false bus.passed last_frame e in omega (arith, h, n)

-- the slices of a start
start_fit : (m : ZXMachine) (state ram a b border : ℕ) → start_fits m state ram a b border ≡ true → StartFit m state ram a b border
start_fit m state ram a b border e =
    let test = each (eqb state record_length) (eqb ram (specs_of m).ram ∷ picture_fits a ∷ picture_fits b ∷ border_fits border ∷ []) e in
    record {
      state_is = eqb-true state record_length (test 0);
      ram_is = eqb-true ram (specs_of m).ram (test 1);
      a_is = eqb-true a picture_length (test 2);
      b_is = eqb-true b picture_length (test 3);
      border_is = eqb-true border border_length (test 4);
    }

-- ---- every judgement
pub ready_start : (state ram a b border machine colour : ℕ) (bus : Bus) → judge_start state ram a b border machine colour ≡ Ok bus
    → ReadyStart state ram a b border machine colour bus
ready_start state ram a b border machine colour bus p =
    let r = (start_colour_ordered state ram a b border machine colour).accepted_by_none bus p in
    record {
      known = ltb-false 1 machine r.0.0;
      fit = start_fit (machine_of machine) state ram a b border (not-false (start_fits (machine_of machine) state ram a b border) r.0.1.0);
      colour_in = ltb-false 7 colour r.0.1.1.0;
      writes = r.1;
    }

pub ready_load_sna : (state ram registers a b border machine : ℕ) (file : List ℕ) (bus : Bus) → judge_load_sna state ram registers a b border machine file ≡ Ok bus
    → ReadyLoadSna state ram registers a b border machine file bus
ready_load_sna state ram registers a b border machine file bus p =
    let m = machine_of machine in
    let r = (load_sna_ordered state ram registers a b border machine file).accepted_by_none bus p in
    let fits = start_fits m state ram a b border in
    let test = not-false (fits && eqb registers registers_length) r.0.1.0 in
    record {
      known = ltb-false 1 machine r.0.0;
      fit = start_fit m state ram a b border (and_left fits (eqb registers registers_length) test);
      registers_is = eqb-true registers registers_length (and_right fits (eqb registers registers_length) test);
      file_is = eqb-true (length file) (due_size m (paging_in m file)) (not-false _ r.0.1.1.0);
      copies_equal = r.0.1.1.1.0;
      writes = r.1;
    }

module _ (state : List ℕ) (bus : Bus) where
  pub ready_wait : (ram a b border clocks answer : ℕ) → judge_wait state ram a b border clocks answer ≡ Ok bus
      → ReadyWait state ram a b border clocks answer bus
  unfolding judge_wait
  ready_wait ram a b border clocks answer p =
      let r = accepted state _ bus p in
      record {
        on_record = r.0;
        fit = fits bus ram a b border answer (not-false (lent_fit bus ram a b border && timed_fits answer) r.1.0);
        short = ltb-false longest_wait clocks r.1.1.0;
        room = has_room bus r.0.sound.passed r.1.1.1.0;
      }

  pub ready_port : (devices : List ℕ) (ram a b border answer : ℕ) → judge_port state devices ram a b border answer ≡ Ok bus
      → ReadyPort state devices ram a b border answer bus
  unfolding judge_port
  ready_port devices ram a b border answer p =
      let r = accepted state _ bus p in
      let test = each (eqb (length devices) devices_length) (lent_fit bus ram a b border ∷ timed_fits answer ∷ []) (not-false _ r.1.0) in
      record {
        on_record = r.0;
        fit = fits bus ram a b border answer (and_both (lent_fit bus ram a b border) (timed_fits answer) (test 1) (test 2));
        devices_is = eqb-true (length devices) devices_length (test 0);
        flags = not-false (flags_of devices) r.1.1.0;
        room = has_room bus r.0.sound.passed r.1.1.1.0;
      }

  pub ready_state : judge_state state ≡ Ok bus → OnRecord state bus
  unfolding judge_state
  ready_state p = (accepted state _ bus p).0

  pub ready_told : (answer : ℕ) → judge_told state answer ≡ Ok bus → ReadyTold state answer bus
  unfolding judge_told
  ready_told answer p =
      let r = accepted state _ bus p in
      record { on_record = r.0; answer_is = eqb-true answer number_length (not-false (number_fits answer) r.1.0) }

  pub ready_read : (rom ram answer : ℕ) → judge_read state rom ram answer ≡ Ok bus → ReadyRead state rom ram answer bus
  unfolding judge_read
  ready_read rom ram answer p =
      let r = accepted state _ bus p in
      let test = each (rom_fits bus rom) (ram_fits bus ram ∷ number_fits answer ∷ []) (not-false _ r.1.0) in
      record {
        on_record = r.0;
        rom_is = eqb-true rom (specs_of bus.machine).rom (test 0);
        ram_is = eqb-true ram (specs_of bus.machine).ram (test 1);
        answer_is = eqb-true answer number_length (test 2);
      }

  pub ready_write : (ram : ℕ) → judge_write state ram ≡ Ok bus → ReadyWrite state ram bus
  unfolding judge_write
  ready_write ram p =
      let r = accepted state _ bus p in
      record { on_record = r.0; ram_is = eqb-true ram (specs_of bus.machine).ram (not-false (ram_fits bus ram) r.1.0) }

  pub ready_load : (ram bytes page : ℕ) → judge_load state ram bytes page ≡ Ok bus → ReadyLoad state ram bytes page bus
  unfolding judge_load
  ready_load ram bytes page p =
      let r = accepted state _ bus p in
      let test = each (ram_fits bus ram) (eqb bytes page_length ∷ []) (not-false _ r.1.0) in
      record {
        on_record = r.0;
        ram_is = eqb-true ram (specs_of bus.machine).ram (test 0);
        bytes_is = eqb-true bytes page_length (test 1);
        exists = not-false (page_exists bus.machine page) r.1.1.0;
      }

  pub ready_ram_page : (ram page : ℕ) (fits : Bool) → judge_ram_page state ram page fits ≡ Ok bus → ReadyRamPage state ram page fits bus
  unfolding judge_ram_page
  ready_ram_page ram page fits p =
      let r = accepted state _ bus p in
      let test = each (ram_fits bus ram) (fits ∷ []) (not-false _ r.1.0) in
      record {
        on_record = r.0;
        ram_is = eqb-true ram (specs_of bus.machine).ram (test 0);
        answer_fits = test 1;
        exists = not-false (page_exists bus.machine page) r.1.1.0;
      }

  pub ready_block : (rom ram block : ℕ) (fits : Bool) → judge_block state rom ram block fits ≡ Ok bus → ReadyBlock state rom ram block fits bus
  unfolding judge_block
  ready_block rom ram block fits p =
      let r = accepted state _ bus p in
      let test = each (rom_fits bus rom) (ram_fits bus ram ∷ fits ∷ []) (not-false _ r.1.0) in
      record {
        on_record = r.0;
        rom_is = eqb-true rom (specs_of bus.machine).rom (test 0);
        ram_is = eqb-true ram (specs_of bus.machine).ram (test 1);
        answer_fits = test 2;
        block_in = ltb-false 3 block r.1.1.0;
      }

  pub ready_shown : (a b : ℕ) (fits : Bool) → judge_shown state a b fits ≡ Ok bus → ReadyShown state a b fits bus
  unfolding judge_shown
  ready_shown a b fits p =
      let r = accepted state _ bus p in
      let test = each (picture_fits a) (picture_fits b ∷ fits ∷ []) (not-false _ r.1.0) in
      record { on_record = r.0; a_is = eqb-true a picture_length (test 0); b_is = eqb-true b picture_length (test 1); answer_fits = test 2 }

  pub ready_still : (ram picture flash : ℕ) → judge_still state ram picture flash ≡ Ok bus → ReadyStill state ram picture flash bus
  unfolding judge_still
  ready_still ram picture flash p =
      let r = accepted state _ bus p in
      let test = each (ram_fits bus ram) (picture_fits picture ∷ []) (not-false _ r.1.0) in
      record {
        on_record = r.0;
        ram_is = eqb-true ram (specs_of bus.machine).ram (test 0);
        picture_is = eqb-true picture picture_length (test 1);
        flash_in = ltb-false 1 flash r.1.1.0;
      }

  pub ready_save_scr : (ram file : ℕ) → judge_save_scr state ram file ≡ Ok bus → ReadySaveScr state ram file bus
  unfolding judge_save_scr
  ready_save_scr ram file p =
      let r = accepted state _ bus p in
      let test = each (ram_fits bus ram) (eqb file screen_length ∷ []) (not-false _ r.1.0) in
      record { on_record = r.0; ram_is = eqb-true ram (specs_of bus.machine).ram (test 0); file_is = eqb-true file screen_length (test 1) }

  pub ready_load_scr : (ram file page : ℕ) → judge_load_scr state ram file page ≡ Ok bus → ReadyLoadScr state ram file page bus
  unfolding judge_load_scr
  ready_load_scr ram file page p =
      let r = accepted state _ bus p in
      let test = each (ram_fits bus ram) (eqb file screen_length ∷ []) (not-false _ r.1.0) in
      record {
        on_record = r.0;
        ram_is = eqb-true ram (specs_of bus.machine).ram (test 0);
        file_is = eqb-true file screen_length (test 1);
        exists = not-false (page_exists bus.machine page) r.1.1.0;
        video = not-false (video_page bus.machine page) r.1.1.1.0;
      }

  pub ready_save_sna : (ram file registers : ℕ) → judge_save_sna state ram file registers ≡ Ok bus → ReadySaveSna state ram file registers bus
  unfolding judge_save_sna
  ready_save_sna ram file registers p =
      let r = accepted state _ bus p in
      let test = each (ram_fits bus ram) (eqb registers registers_length ∷ []) (not-false _ r.1.0) in
      record {
        on_record = r.0;
        ram_is = eqb-true ram (specs_of bus.machine).ram (test 0);
        registers_is = eqb-true registers registers_length (test 1);
        file_is = eqb-true file (due_size bus.machine bus.paging) (not-false _ r.1.1.0);
      }
