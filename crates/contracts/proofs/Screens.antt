-- SCREEN FILES, OF THE CALLS (02, Q-2): "Reading what was written back into the page it came from changes no byte of RAM, and two different files never
-- leave the same page"; and the picture of a page into which a file was read is the file's.
-- Assumes nothing.
use Prim.Native.Nat.{ℕ, ◌+◌, ◌*◌, ◌≤◌, ◌<◌}
use mathlib.Core.Bool.{Bool, not}
use mathlib.Core.Logic.{◌⊎◌}
use mathlib.Core.List.{List}
use mathlib.Core.Path.{◌≡◌, sym, ap, ◌∙◌}
use native.Mathlib.Omega.{arith}
use lib.ListN.{length, get_or}
use lib.Seq.{length-sets}
use borrow.Author.Tests.{eq-eqb}
use Rattle.std.specs.Prelude.{Ok}
use Rattle.laws.proofs.Cases.{and_both}
use Rattle.machine.specs.Numbers.{specs_of}
use Rattle.record.specs.declared.Bus.{Bus}
use Rattle.record.specs.Record.{record_of}
use Rattle.memory.specs.Paging.{shown_page}
use Rattle.memory.specs.Memory.{ram_page, loaded}
use Rattle.memory.specs.Screens.{screen_length, screen_file}
use Rattle.memory.proofs.Places.{exists_fits, shown_exists}
use Rattle.memory.proofs.Stored.{loaded_out}
use Rattle.memory.proofs.Screens.{file_long, saved_loaded, loaded_saved, file_bytes, shown_is_video}
use Rattle.paint.specs.Paint.{blocks}
use Rattle.paint.proofs.Fronts.{front_blocks}
use Rattle.judgement.specs.Judges.{ram_fits, judge_save_scr, judge_load_scr}
use Rattle.judgement.specs.Ready.{ReadyLoadScr}
use Rattle.judgement.proofs.Order.{save_scr_ordered, load_scr_ordered}
use Rattle.judgement.proofs.Accepted.{ready_save_scr, ready_load_scr}
use Rattle.contracts.specs.Plain.{Changed, changed, still_of, save_scr, load_scr}
use Rattle.contracts.proofs.Refusals.{save_scr_numbered, load_scr_numbered}

module _ (state : List ℕ) where
  -- the record that an accepted call was lent
  abbrev bus : Bus
  bus = record_of state

  abbrev shown : ℕ
  shown = shown_page bus.machine bus.paging

  -- ---- what an accepted call leaves
  module _ (ram file : List ℕ) where
    save_accepted : (save_scr state ram file).code ≡ 0 → judge_save_scr state (length ram) (length file) ≡ Ok bus
    save_accepted z = (save_scr_ordered state (length ram) (length file)).none_accepts ((save_scr_numbered state ram file).zero_by_none z)

    pub saved_is : (save_scr state ram file).code ≡ 0 → save_scr state ram file ≡ changed 0 (screen_file (ram_page shown ram))
    unfolding save_scr
    saved_is z = rw (save_accepted z)

    pub loaded_by : (page : ℕ) → judge_load_scr state (length ram) (length file) page ≡ Ok bus → load_scr state ram file page ≡ changed 0 (loaded page file ram)
    unfolding load_scr
    loaded_by page e = rw e

    module _ (page : ℕ) (z : (load_scr state ram file page).code ≡ 0) where
      load_accepted : judge_load_scr state (length ram) (length file) page ≡ Ok bus
      load_accepted = (load_scr_ordered state (length ram) (length file) page).none_accepts ((load_scr_numbered state ram file page).zero_by_none z)

      pub load_ready : ReadyLoadScr state (length ram) (length file) page bus
      load_ready = ready_load_scr state bus (length ram) (length file) page load_accepted

      pub loaded_is : load_scr state ram file page ≡ changed 0 (loaded page file ram)
      loaded_is = loaded_by page load_accepted

      pub page_whole : 16384 * page + 16384 ≤ length ram
      page_whole = rw load_ready.ram_is (exists_fits bus.machine page load_ready.exists)

      -- "the page's other bytes stay", and so does the rest of RAM
      pub others_stay : (j : ℕ) → (j < 16384 * page) ⊎ (16384 * page + screen_length ≤ j) → get_or (load_scr state ram file page).slice j 0 ≡ get_or ram j 0
      others_stay j h =
          ap (λ (c : Changed). get_or c.slice j 0) loaded_is
          ∙ loaded_out page file ram (omega (arith, page_whole, load_ready.file_is)) j (rw load_ready.file_is h)

      pub ram_long_lem : length (load_scr state ram file page).slice ≡ length ram
      ram_long_lem = ap (λ (c : Changed). length c.slice) loaded_is ∙ length-sets ram (16384 * page) file

      -- the page's file is then the one that was read
      pub file_there : screen_file (ram_page page (load_scr state ram file page).slice) ≡ file
      file_there = ap (λ (c : Changed). screen_file (ram_page page c.slice)) loaded_is ∙ loaded_saved page ram page_whole file load_ready.file_is

  -- WHAT WAS SAVED, LOADED BACK INTO THE PAGE THAT IT CAME FROM, is accepted and CHANGES NO BYTE OF RAM.
  pub save_then_load : (ram file : List ℕ) → (save_scr state ram file).code ≡ 0 → load_scr state ram (save_scr state ram file).slice shown ≡ changed 0 ram
  save_then_load ram file z =
      let r = ready_save_scr state bus (length ram) (length file) (save_accepted ram file z) in
      let m = bus.machine in
      let fits : 16384 * shown + 16384 ≤ length ram = rw r.ram_is (exists_fits m shown (shown_exists m bus.paging)) in
      let saved = screen_file (ram_page shown ram) in
      let h = (save_scr_numbered state ram file).zero_by_none z in
      let accepted : judge_load_scr state (length ram) (length saved) shown ≡ Ok bus =
      (load_scr_ordered state (length ram) (length saved) shown).none_accepts (
        h.0,
        (
          h.1.0,
          (
            ap not (and_both (ram_fits bus (length ram)) _ (eq-eqb (length ram) (specs_of m).ram r.ram_is) (eq-eqb (length saved) screen_length (file_long shown ram fits))),
            (ap not (shown_exists m bus.paging), (ap not (shown_is_video m bus.paging), tt)),
          ),
        ),
      ) in
      ap (λ (c : Changed). load_scr state ram c.slice shown) (saved_is ram file z) ∙ loaded_by ram saved shown accepted ∙ ap (changed 0) (saved_loaded shown ram fits)

  -- and what was loaded into the shown page is what is saved then, into any file of its length
  pub load_then_save : (ram file old : List ℕ) → (load_scr state ram file shown).code ≡ 0 → (save_scr state (load_scr state ram file shown).slice old).code ≡ 0
      → save_scr state (load_scr state ram file shown).slice old ≡ changed 0 file
  load_then_save ram file old z s = saved_is (load_scr state ram file shown).slice old s ∙ ap (changed 0) (file_there ram file shown z)

  -- THE STILL PICTURE AFTER IT IS THE FILE'S, whatever else stands in RAM.
  pub still_of_file : (ram file : List ℕ) → (load_scr state ram file shown).code ≡ 0 → (flash : Bool)
      → still_of bus (load_scr state ram file shown).slice flash ≡ blocks file flash 0 6144
  still_of_file ram file z flash =
      let left = (load_scr state ram file shown).slice in
      front_blocks (ram_page shown left) file (file_bytes shown left file (file_there ram file shown z)) flash 0 6144 (omega arith)

-- TWO DIFFERENT FILES NEVER LEAVE THE SAME PAGE, whichever machines they are read into and whatever stood in RAM.
pub two_files : (state state' ram ram' file file' : List ℕ) (page : ℕ) → (load_scr state ram file page).code ≡ 0 → (load_scr state' ram' file' page).code ≡ 0
    → ram_page page (load_scr state ram file page).slice ≡ ram_page page (load_scr state' ram' file' page).slice → file ≡ file'
two_files state state' ram ram' file file' page z z' same =
    sym (file_there state ram file page z) ∙ ap screen_file same ∙ file_there state' ram' file' page z'
