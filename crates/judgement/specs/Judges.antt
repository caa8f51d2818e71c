-- Document 01, "Eight refusals", and document 02, Q-2, Q-3 and Q-4: the causes of each call, in the stated order, over the sound record that it was lent; and the judgement by
-- them, once the record itself is judged. A slice comes in by its length; the state, the device record and a snapshot that is read by their bytes.
-- Assumes nothing.
use Rattle.std.specs.Prelude.{ℕ, Bool, not, ◌&&◌, List, [], ◌∷◌, ◌++◌, eqb, ltb, length, Result}
use Rattle.machine.specs.declared.ZXMachine.{ZXMachine}
use Rattle.machine.specs.Numbers.{specs_of}
use Rattle.machine.specs.Limits.{picture_length, border_length, page_length, longest_wait}
use Rattle.record.specs.declared.Bus.{Bus}
use Rattle.record.specs.Record.{no_room, record_length, machine_of, start_record}
use Rattle.memory.specs.Paging.{page_exists}
use Rattle.memory.specs.Screens.{screen_length, video_page}
use Rattle.ports.specs.Devices.{flags_of, devices_length}
use Rattle.snapshot.specs.File.{due_size, paging_in, copies_differ}
use Rattle.snapshot.specs.Kept.{registers_length, snapshot_record}
use Rattle.judgement.specs.declared.Refusal.{Refusal}
use Rattle.judgement.specs.declared.Refusal.TheVariants.{BadMachine, BadLength, BadFlag, LongWait, FramesFull, BadPage, NoVideoPage, BadNumber, WrongSize, UnequalCopies}
use Rattle.judgement.specs.Refusals.{Cause, cause, judged, judge}
use Rattle.judgement.specs.Answers.{timed_length, number_length}

-- the lengths that are right: "RAM, ROM bytes" by the machine, "two pictures A and B of 49,152 bytes", "the border of 76,800 bytes"
abbrev pub ram_fits : Bus → ℕ → Bool
ram_fits bus ram = eqb ram (specs_of bus.machine).ram

abbrev pub rom_fits : Bus → ℕ → Bool
rom_fits bus rom = eqb rom (specs_of bus.machine).rom

abbrev pub picture_fits : ℕ → Bool
picture_fits picture = eqb picture picture_length

abbrev pub border_fits : ℕ → Bool
border_fits border = eqb border border_length

-- "Timed calls .. fill a 10-byte answer", "Other calls with a number to give fill a 5-byte answer"
abbrev pub timed_fits : ℕ → Bool
timed_fits answer = eqb answer timed_length

abbrev pub number_fits : ℕ → Bool
number_fits answer = eqb answer number_length

-- the slices of a timed call
abbrev pub lent_fit : Bus → ℕ → ℕ → ℕ → ℕ → Bool
lent_fit bus ram a b border = ram_fits bus ram && picture_fits a && picture_fits b && border_fits border

-- "a lent slice has the wrong length"
abbrev pub unless : Bool → Cause
unless fit = cause BadLength (not fit)

-- "a timed call with passed frames at 4,294,967,295"
abbrev pub frames_full : Bus → Cause
frames_full bus = cause FramesFull (no_room bus.passed)

-- "a wait above 65,535 clocks"
abbrev pub long_wait : ℕ → Cause
long_wait clocks = cause LongWait (ltb longest_wait clocks)

-- "a RAM page above 2 (48K) or 7 (128K)"
abbrev pub bad_page : Bus → ℕ → Cause
bad_page bus page = cause BadPage (not (page_exists bus.machine page))

-- "a page that isn't a video page" (02, Q-2)
abbrev pub no_video_page : Bus → ℕ → Cause
no_video_page bus page = cause NoVideoPage (not (video_page bus.machine page))

-- "a helper's number outside its range (.. block 3, still-picture flash 1)": a number above the last
abbrev pub above : ℕ → ℕ → Cause
above last number = cause BadNumber (ltb last number)

-- start: "start: machine above 1", then the lengths of that machine's slices; "a start only writes it and doesn't judge it", of the record
abbrev pub start_fits : ZXMachine → ℕ → ℕ → ℕ → ℕ → ℕ → Bool
start_fits m state ram a b border =
    eqb state record_length && eqb ram (specs_of m).ram && picture_fits a && picture_fits b && border_fits border

abbrev pub start_causes : ℕ → ℕ → ℕ → ℕ → ℕ → ℕ → List Cause
start_causes state ram a b border machine = cause BadMachine (ltb 1 machine) ∷ unless (start_fits (machine_of machine) state ram a b border) ∷ []

-- the start that takes the beam colour: "colour above 7 is 8, after 1 and 2" (02, Q-3)
abbrev pub start_colour_causes : ℕ → ℕ → ℕ → ℕ → ℕ → ℕ → ℕ → List Cause
start_colour_causes state ram a b border machine colour = start_causes state ram a b border machine ++ (above 7 colour ∷ [])

-- accepted, with the record that it writes
unfoldable pub judge_start : ℕ → ℕ → ℕ → ℕ → ℕ → ℕ → ℕ → Result Bus Refusal
judge_start state ram a b border machine colour =
    judged (start_colour_causes state ram a b border machine colour) (start_record (machine_of machine) colour)

-- the three waits
abbrev pub wait_causes : ℕ → ℕ → ℕ → ℕ → ℕ → ℕ → Bus → List Cause
wait_causes ram a b border clocks answer bus =
    unless (lent_fit bus ram a b border && timed_fits answer) ∷ long_wait clocks ∷ frames_full bus ∷ []

unfoldable pub judge_wait : List ℕ → ℕ → ℕ → ℕ → ℕ → ℕ → ℕ → Result Bus Refusal
judge_wait state ram a b border clocks answer = judge state (wait_causes ram a b border clocks answer)

-- port read and port write: "a device flag or the tape bit is above 1"
abbrev pub port_causes : List ℕ → ℕ → ℕ → ℕ → ℕ → ℕ → Bus → List Cause
port_causes devices ram a b border answer bus =
    unless (eqb (length devices) devices_length && lent_fit bus ram a b border && timed_fits answer)
    ∷ cause BadFlag (not (flags_of devices)) ∷ frames_full bus ∷ []

unfoldable pub judge_port : List ℕ → List ℕ → ℕ → ℕ → ℕ → ℕ → ℕ → Result Bus Refusal
judge_port state devices ram a b border answer = judge state (port_causes devices ram a b border answer)

-- the record alone
abbrev pub no_causes : Bus → List Cause
no_causes bus = []

unfoldable pub judge_state : List ℕ → Result Bus Refusal
judge_state state = judge state no_causes

-- the record with a number to give
abbrev pub told_causes : ℕ → Bus → List Cause
told_causes answer bus = unless (number_fits answer) ∷ []

unfoldable pub judge_told : List ℕ → ℕ → Result Bus Refusal
judge_told state answer = judge state (told_causes answer)

-- byte read and byte write
abbrev pub read_causes : ℕ → ℕ → ℕ → Bus → List Cause
read_causes rom ram answer bus = unless (rom_fits bus rom && ram_fits bus ram && number_fits answer) ∷ []

unfoldable pub judge_read : List ℕ → ℕ → ℕ → ℕ → Result Bus Refusal
judge_read state rom ram answer = judge state (read_causes rom ram answer)

abbrev pub write_causes : ℕ → Bus → List Cause
write_causes ram bus = unless (ram_fits bus ram) ∷ []

unfoldable pub judge_write : List ℕ → ℕ → Result Bus Refusal
judge_write state ram = judge state (write_causes ram)

-- page load
abbrev pub load_causes : ℕ → ℕ → ℕ → Bus → List Cause
load_causes ram bytes page bus = unless (ram_fits bus ram && eqb bytes page_length) ∷ bad_page bus page ∷ []

unfoldable pub judge_load : List ℕ → ℕ → ℕ → ℕ → Result Bus Refusal
judge_load state ram bytes page = judge state (load_causes ram bytes page)

-- the three that hand back a part: `fits` says that the answer has its length, which C lends and a Rattle caller does not; there it is true
abbrev pub ram_page_causes : ℕ → ℕ → Bool → Bus → List Cause
ram_page_causes ram page fits bus = unless (ram_fits bus ram && fits) ∷ bad_page bus page ∷ []

unfoldable pub judge_ram_page : List ℕ → ℕ → ℕ → Bool → Result Bus Refusal
judge_ram_page state ram page fits = judge state (ram_page_causes ram page fits)

abbrev pub block_causes : ℕ → ℕ → ℕ → Bool → Bus → List Cause
block_causes rom ram block fits bus = unless (rom_fits bus rom && ram_fits bus ram && fits) ∷ above 3 block ∷ []

unfoldable pub judge_block : List ℕ → ℕ → ℕ → ℕ → Bool → Result Bus Refusal
judge_block state rom ram block fits = judge state (block_causes rom ram block fits)

abbrev pub shown_causes : ℕ → ℕ → Bool → Bus → List Cause
shown_causes a b fits bus = unless (picture_fits a && picture_fits b && fits) ∷ []

unfoldable pub judge_shown : List ℕ → ℕ → ℕ → Bool → Result Bus Refusal
judge_shown state a b fits = judge state (shown_causes a b fits)

-- the still picture
abbrev pub still_causes : ℕ → ℕ → ℕ → Bus → List Cause
still_causes ram picture flash bus = unless (ram_fits bus ram && picture_fits picture) ∷ above 1 flash ∷ []

unfoldable pub judge_still : List ℕ → ℕ → ℕ → ℕ → Result Bus Refusal
judge_still state ram picture flash = judge state (still_causes ram picture flash)

-- screen files (02, Q-2): "a lent file of 6,912"; saving judges no page, since "the shown page always is one"
abbrev pub screen_fits : Bus → ℕ → ℕ → Bool
screen_fits bus ram file = ram_fits bus ram && eqb file screen_length

abbrev pub save_scr_causes : ℕ → ℕ → Bus → List Cause
save_scr_causes ram file bus = unless (screen_fits bus ram file) ∷ []

unfoldable pub judge_save_scr : List ℕ → ℕ → ℕ → Result Bus Refusal
judge_save_scr state ram file = judge state (save_scr_causes ram file)

abbrev pub load_scr_causes : ℕ → ℕ → ℕ → Bus → List Cause
load_scr_causes ram file page bus = unless (screen_fits bus ram file) ∷ bad_page bus page ∷ no_video_page bus page ∷ []

unfoldable pub judge_load_scr : List ℕ → ℕ → ℕ → ℕ → Result Bus Refusal
judge_load_scr state ram file page = judge state (load_scr_causes ram file page)

-- snapshots (02, Q-4): "10 when the size is not the one due for the machine and, on 128K, for the file's 7FFD byte, or the record's when writing"
abbrev pub wrong_size : ZXMachine → ℕ → ℕ → Cause
wrong_size m byte file = cause WrongSize (not (eqb file (due_size m byte)))

-- the slices of an import but for its file, and those of an export but for its file and the record
abbrev pub import_fits : ZXMachine → ℕ → ℕ → ℕ → ℕ → ℕ → ℕ → Bool
import_fits m state ram registers a b border = start_fits m state ram a b border && eqb registers registers_length

abbrev pub export_fits : Bus → ℕ → ℕ → Bool
export_fits bus ram registers = ram_fits bus ram && eqb registers registers_length

-- an import, which judges no record either: "1 as for a start"; the lengths of a start's slices and of the registers; 10, "then 11 for unequal copies, both
-- after 2"
abbrev pub load_sna_causes : ℕ → ℕ → ℕ → ℕ → ℕ → ℕ → ℕ → List ℕ → List Cause
load_sna_causes state ram registers a b border machine file =
    cause BadMachine (ltb 1 machine)
    ∷ unless (import_fits (machine_of machine) state ram registers a b border)
    ∷ wrong_size (machine_of machine) (paging_in (machine_of machine) file) (length file)
    ∷ cause UnequalCopies (copies_differ (machine_of machine) file)
    ∷ []

-- accepted, with the record that it writes
unfoldable pub judge_load_sna : ℕ → ℕ → ℕ → ℕ → ℕ → ℕ → ℕ → List ℕ → Result Bus Refusal
judge_load_sna state ram registers a b border machine file =
    judged (load_sna_causes state ram registers a b border machine file) (snapshot_record (machine_of machine) file)

-- an export
abbrev pub save_sna_causes : ℕ → ℕ → ℕ → Bus → List Cause
save_sna_causes ram file registers bus =
    unless (export_fits bus ram registers) ∷ wrong_size bus.machine bus.paging file ∷ []

unfoldable pub judge_save_sna : List ℕ → ℕ → ℕ → ℕ → Result Bus Refusal
judge_save_sna state ram file registers = judge state (save_sna_causes ram file registers)
