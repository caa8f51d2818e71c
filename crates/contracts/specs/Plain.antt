-- Document 01, and document 02, Q-2: the calls that take no time, as C calls them, and the three that hand back a part.
-- Assumes nothing.
use Rattle.std.specs.Prelude.{ℕ, Bool, true, cond, List, [], eqb, length, Result, Ok, Err}
use Rattle.machine.specs.Timing.{interrupt}
use Rattle.machine.specs.Limits.{picture_length}
use Rattle.record.specs.declared.Bus.{Bus}
use Rattle.record.specs.Record.{record_bytes, flag_byte, with_paging, with_passed}
use Rattle.memory.specs.declared.Page.TheVariants as page
use Rattle.memory.specs.Paging.{page_at, shown_page, write7ffd, paged_code, paging_after}
use Rattle.memory.specs.Memory.{peeked, poked, ram_page, page_part, part_start, loaded}
use Rattle.memory.specs.Screens.{screen_file}
use Rattle.paint.specs.Paint.{blocks}
use Rattle.bus.specs.Time.{shows_a}
use Rattle.judgement.specs.declared.Refusal.{Refusal}
use Rattle.judgement.specs.Refusals.{refusal_number}
use Rattle.judgement.specs.Judges.{judge_state, judge_told, judge_read, judge_write, judge_load, number_fits, judge_ram_page, judge_block, judge_shown, judge_still, judge_save_scr, judge_load_scr}
use Rattle.judgement.specs.Answers.{number_answer, refused_answer, number_length}

-- "Every call .. returns its refusal number, 0 if accepted."
abbrev pub code_of : Result Bus Refusal → ℕ
code_of (Err e) = refusal_number e
code_of (Ok bus) = 0

-- what a call with a number to give returns, and its answer
pub record Told : Type 0 where
  pub code : ℕ
  pub answer : List ℕ

abbrev pub told : ℕ → List ℕ → Told
told code answer = record { code = code; answer = answer }

abbrev pub tell : (Bus → ℕ) → List ℕ → Result Bus Refusal → Told
tell number answer (Err e) = told (refusal_number e) (refused_answer number_length (refusal_number e) answer)
tell number answer (Ok bus) = told 0 (number_answer (number bus))

-- what a call that changes one lent slice returns, and that slice
pub record Changed : Type 0 where
  pub code : ℕ
  pub slice : List ℕ

abbrev pub changed : ℕ → List ℕ → Changed
changed code slice = record { code = code; slice = slice }

-- "A refused call .. writes nothing else."
abbrev pub change : (Bus → List ℕ) → List ℕ → Result Bus Refusal → Changed
change new old (Err e) = changed (refusal_number e) old
change new old (Ok bus) = changed 0 (new bus)

-- ulb_read_internal: byte read
unfoldable pub read_internal : List ℕ → List ℕ → List ℕ → ℕ → List ℕ → Told
read_internal state rom ram addr answer =
    tell (λ bus. peeked bus.machine bus.paging rom ram addr) answer (judge_read state (length rom) (length ram) (length answer))

-- ulb_write_internal: byte write; RAM afterwards
unfoldable pub write_internal : List ℕ → List ℕ → ℕ → ℕ → Changed
write_internal state ram addr value =
    change (λ bus. poked bus.machine bus.paging ram addr value) ram (judge_write state (length ram))

-- what a 7FFD write leaves: the number returned, the state record and the answer
pub record Repaged : Type 0 where
  pub code : ℕ
  pub state : List ℕ
  pub answer : List ℕ

abbrev pub repaged : ℕ → List ℕ → List ℕ → Repaged
repaged code state answer = record { code = code; state = state; answer = answer }

abbrev pub repage : ℕ → List ℕ → List ℕ → Result Bus Refusal → Repaged
repage value state answer (Err e) = repaged (refusal_number e) state (refused_answer number_length (refusal_number e) answer)
repage value state answer (Ok bus) =
    let p = write7ffd bus.machine bus.paging value in
    repaged 0 (record_bytes (with_paging (paging_after p bus.paging) bus)) (number_answer (paged_code p))

-- ulb_write_7ffd: "The 7FFD write answers 5, 6, or on 48K 0 with nothing changed."
unfoldable pub write7ffd_call : List ℕ → ℕ → List ℕ → Repaged
write7ffd_call state value answer = repage value state answer (judge_told state (length answer))

-- ulb_read_7ffd, ulb_int_active, ulb_frames_count: 7FFD read, interrupt, passed frames
unfoldable pub read7ffd : List ℕ → List ℕ → Told
read7ffd state answer = tell (λ bus. bus.paging) answer (judge_told state (length answer))

unfoldable pub int_active : List ℕ → List ℕ → Told
int_active state answer = tell (λ bus. flag_byte (interrupt bus.clock)) answer (judge_told state (length answer))

unfoldable pub frames_count : List ℕ → List ℕ → Told
frames_count state answer = tell (λ bus. bus.passed) answer (judge_told state (length answer))

-- ulb_reset_frame_counter: passed frames' reset; the state record afterwards
unfoldable pub reset_frames : List ℕ → Changed
reset_frames state = change (λ bus. record_bytes (with_passed 0 bus)) state (judge_state state)

-- ulb_load_page: "page load (16,384 lent bytes into a RAM page)"; RAM afterwards
unfoldable pub load_page : List ℕ → List ℕ → List ℕ → ℕ → Changed
load_page state ram bytes number = change (λ bus. loaded number bytes ram) ram (judge_load state (length ram) (length bytes) number)

-- ulb_save_scr: a screen file, "from the shown page into a lent slice" (02, Q-2); the file afterwards
unfoldable pub save_scr : List ℕ → List ℕ → List ℕ → Changed
save_scr state ram file =
    change (λ bus. screen_file (ram_page (shown_page bus.machine bus.paging) ram)) file (judge_save_scr state (length ram) (length file))

-- ulb_load_scr: a screen file read "into a named video page" (02, Q-2); RAM afterwards
unfoldable pub load_scr : List ℕ → List ℕ → List ℕ → ℕ → Changed
load_scr state ram file number = change (λ bus. loaded number file ram) ram (judge_load_scr state (length ram) (length file) number)

-- the still picture, "whole .. with a given flash bit", of "the page now shown, by bit 3 of the 7FFD byte" (02, Q-1): the page that catch-up
-- paints from
abbrev pub still_of : Bus → List ℕ → Bool → List ℕ
still_of bus ram flash = blocks (ram_page (shown_page bus.machine bus.paging) ram) flash 0 6144

-- ulb_still_picture; the picture afterwards
unfoldable pub still_picture : List ℕ → List ℕ → List ℕ → ℕ → Changed
still_picture state ram picture flash =
    change (λ bus. still_of bus ram (eqb flash 1)) picture (judge_still state (length ram) (length picture) flash)

-- ---- the three that hand back a part: "returns .. an empty part where a part is due"
abbrev pub part : (Bus → List ℕ) → Result Bus Refusal → List ℕ
part whole (Err e) = []
part whole (Ok bus) = whole bus

-- "RAM page by number"
unfoldable pub ram_page_part : List ℕ → List ℕ → ℕ → List ℕ
ram_page_part state ram number = part (λ bus. ram_page number ram) (judge_ram_page state (length ram) number true)

-- "the 16 KiB at a block as a part of the lent ROM or RAM"
unfoldable pub block_part : List ℕ → List ℕ → List ℕ → ℕ → List ℕ
block_part state rom ram block =
    part (λ bus. page_part (page_at bus.machine bus.paging block) rom ram) (judge_block state (length rom) (length ram) block true)

-- "the shown picture handed back from the two lent pictures"
unfoldable pub shown_part : List ℕ → List ℕ → List ℕ → List ℕ
shown_part state a b = part (λ bus. cond (shows_a bus.phase) a b) (judge_shown state (length a) (length b) true)

-- ulb_ram_page, ulb_block, ulb_shown_picture: "a part reaches C by a 5-byte answer with its start as the number, RAM counted after ROM, B after A"
unfoldable pub ram_page_told : List ℕ → List ℕ → ℕ → List ℕ → Told
ram_page_told state ram number answer =
    tell (λ bus. part_start bus.machine (page.Ram number)) answer (judge_ram_page state (length ram) number (number_fits (length answer)))

unfoldable pub block_told : List ℕ → List ℕ → List ℕ → ℕ → List ℕ → Told
block_told state rom ram block answer =
    tell (λ bus. part_start bus.machine (page_at bus.machine bus.paging block)) answer
    (judge_block state (length rom) (length ram) block (number_fits (length answer)))

unfoldable pub shown_told : List ℕ → List ℕ → List ℕ → List ℕ → Told
shown_told state a b answer =
    tell (λ bus. cond (shows_a bus.phase) 0 picture_length) answer (judge_shown state (length a) (length b) (number_fits (length answer)))
