-- ONE TYPE OF CALL: each function of the C surface with all that it is handed but the machine's own buffers; what it leaves, by its definition;
-- for which causes it is refused; and what the firmware lends of its buffers, by mistake too little or too much.
-- Assumes nothing.
use Rattle.std.specs.Prelude.{ℕ, Bool, not, List, [], ◌∷◌, ◌++◌, ◌≡◌, leb, length, take, drop, Option}
use Rattle.machine.specs.declared.ZXMachine.{ZXMachine}
use Rattle.ports.specs.Devices.{devices_of}
use Rattle.bus.specs.Turns.{Part}
use Rattle.bus.specs.Calls.{plain_wait, address_wait, port_read, port_write, paging_write}
use Rattle.bus.specs.Pokes.{byte_write, page_load, passed_reset}
use Rattle.record.specs.Record.{machine_of}
use Rattle.snapshot.specs.File.{border_in}
use Rattle.bus.specs.World.{World, started}
use Rattle.screen.specs.Address.{line_address, line_at, column_at, attribute_row, attribute_column, is_attribute}
use Rattle.screen.specs.Colour.{from_bits}
use Rattle.judgement.specs.declared.Refusal.TheVariants.{BadNumber}
use Rattle.judgement.specs.Refusals.{Cause, cause}
use Rattle.judgement.specs.Judges.{number_fits, unless, no_causes, start_causes, start_colour_causes, wait_causes, port_causes, told_causes, read_causes, write_causes, load_causes, ram_page_causes, block_causes, shown_causes, still_causes, save_scr_causes, load_scr_causes, load_sna_causes, save_sna_causes}
use Rattle.judgement.specs.Answers.{timed_length, number_length, refused_answer}
use Rattle.judgement.specs.Order.{all_causes}
use Rattle.contracts.specs.Timed.{Lent, Outcome, Started, start_leaves, black, start, start_colour, wait_internal, wait_at, read_io, write_io}
use Rattle.contracts.specs.Plain.{Told, told, read_internal, write_internal, write7ffd_call, read7ffd, int_active, frames_count, reset_frames, load_page, save_scr, load_scr, still_picture, ram_page_told, block_told, shown_told}
use Rattle.contracts.specs.Helpers.{helper_call, colour_helped}
use Rattle.contracts.specs.Snapshots.{imported_world, load_sna, save_sna}

-- ---- the calls, each with its numbers and with the contents of the slices that are not the machine's own: device record, ROM, page bytes, screen file,
-- snapshot and registers

-- the two starts: the machine's number, and in the second the beam's colour. "An import is a start" (02, Q-4): the machine's number, the file, and the
-- registers' slice that it fills.
pub data Start : Type 0 where
  plain_start : ℕ → Start
  colour_start : ℕ → ℕ → Start
  snapshot_start : ℕ → List ℕ → List ℕ → Start

-- the timed calls
pub data TimedCall : Type 0 where
  plain : ℕ → TimedCall
  mreq : ℕ → ℕ → TimedCall
  no_mreq : ℕ → ℕ → TimedCall
  port_in : List ℕ → ℕ → TimedCall
  port_out : List ℕ → ℕ → ℕ → TimedCall

-- the helpers
pub data Helper : Type 0 where
  line_addr : Helper
  line_of : Helper
  column_of : Helper
  attr_row_of : Helper
  attr_column_of : Helper
  colour_bits : Helper

-- what may be asked of a machine without a change of it; and of no machine, by a helper
pub data Question : Type 0 where
  byte_read : List ℕ → ℕ → Question
  paging_read : Question
  interrupt_asked : Question
  frames_asked : Question
  page_asked : ℕ → Question
  block_asked : List ℕ → ℕ → Question
  shown_asked : Question
  still_asked : ℕ → Question
  file_asked : Question
  snapshot_asked : List ℕ → Question
  help : Helper → ℕ → Question

-- any call; the last list of one is the slice that it fills: the answer, the still's picture, the screen file, the snapshot, or an import's registers
pub data Call : Type 0 where
  start_again : Start → Call
  take_time : TimedCall → List ℕ → Call
  write_byte : ℕ → ℕ → Call
  write_paging : ℕ → List ℕ → Call
  reset_passed : Call
  load_ram : List ℕ → ℕ → Call
  load_screen : List ℕ → ℕ → Call
  ask : Question → List ℕ → Call

-- what a call leaves: the number returned, the machine's slices, and the slice that it fills (none where it has none)
pub record Result : Type 0 where
  pub code : ℕ
  pub slices : Lent
  pub filled : List ℕ

abbrev pub result : ℕ → Lent → List ℕ → Result
result code slices filled = record { code = code; slices = slices; filled = filled }

abbrev pub with_ram : Lent → List ℕ → Lent
with_ram l ram = record { state = l.state; ram = ram; a = l.a; b = l.b; border = l.border }

abbrev pub with_state : Lent → List ℕ → Lent
with_state l state = record { state = state; ram = l.ram; a = l.a; b = l.b; border = l.border }

-- ---- each call by its definition, which its contract says of the code
-- of a start: the machine that is asked for, and "the start's colour being the first" (demand 3)
abbrev pub asked_machine : Start → ℕ
asked_machine (plain_start machine) = machine
asked_machine (colour_start machine colour) = machine
asked_machine (snapshot_start machine file registers) = machine

abbrev pub first_colour : Start → ℕ
first_colour (plain_start machine) = black
first_colour (colour_start machine colour) = colour
first_colour (snapshot_start machine file registers) = border_in file

-- the world that it leaves where it is accepted: "Demand 3 reads an import as a start whose RAM is the file's"
abbrev pub started_world : Start → World
started_world (plain_start machine) = started (machine_of machine) black
started_world (colour_start machine colour) = started (machine_of machine) colour
started_world (snapshot_start machine file registers) = imported_world (machine_of machine) file

abbrev pub started_by : Start → Lent → Started
started_by (plain_start machine) l = start l machine
started_by (colour_start machine colour) l = start_colour l machine colour
started_by (snapshot_start machine file registers) l = let i = load_sna l file registers machine in start_leaves i.code i.slices

-- and the registers' slice, where it has one: as it was lent, and afterwards
abbrev pub lent_to_fill : Start → List ℕ
lent_to_fill (plain_start machine) = []
lent_to_fill (colour_start machine colour) = []
lent_to_fill (snapshot_start machine file registers) = registers

abbrev pub filled_by : Start → Lent → List ℕ
filled_by (plain_start machine) l = []
filled_by (colour_start machine colour) l = []
filled_by (snapshot_start machine file registers) l = (load_sna l file registers machine).registers

unfoldable pub waited : TimedCall → Lent → List ℕ → Outcome
waited (plain n) l answer = wait_internal l n answer
waited (mreq addr n) l answer = wait_at l addr n answer
waited (no_mreq addr n) l answer = wait_at l addr n answer
waited (port_in devices port) l answer = read_io l devices port answer
waited (port_out devices port value) l answer = write_io l devices port value answer

-- the operations of a timed call, as the core decides them
abbrev pub timed_ops : TimedCall → ZXMachine → Part
timed_ops (plain n) m = plain_wait n
timed_ops (mreq addr n) m = address_wait m addr n
timed_ops (no_mreq addr n) m = address_wait m addr n
timed_ops (port_in devices port) m = port_read m port
timed_ops (port_out devices port value) m = port_write m (devices_of devices) port value

-- the operations of an accepted call; a second start has none
unfoldable pub ops_of : ZXMachine → Call → Part
ops_of m (start_again how) c = []
ops_of m (take_time t answer) c = timed_ops t m c
ops_of m (write_byte addr value) c = byte_write m addr value c
ops_of m (write_paging value answer) c = paging_write m value c
ops_of m reset_passed c = passed_reset c
ops_of m (load_ram bytes page) c = page_load page bytes c
ops_of m (load_screen file page) c = page_load page file c
ops_of m (ask q out) c = []

abbrev pub helped_by : Helper → ℕ → Option ℕ
helped_by line_addr n = line_address n
helped_by line_of n = line_at n
helped_by column_of n = column_at n
helped_by attr_row_of n = attribute_row n
helped_by attr_column_of n = attribute_column n
helped_by colour_bits n = colour_helped (from_bits n)

unfoldable pub replied : Question → Lent → List ℕ → Told
replied (byte_read rom addr) l answer = read_internal l.state rom l.ram addr answer
replied paging_read l answer = read7ffd l.state answer
replied interrupt_asked l answer = int_active l.state answer
replied frames_asked l answer = frames_count l.state answer
replied (page_asked page) l answer = ram_page_told l.state l.ram page answer
replied (block_asked rom block) l answer = block_told l.state rom l.ram block answer
replied shown_asked l answer = shown_told l.state l.a l.b answer
replied (still_asked flash) l picture =
    let c = still_picture l.state l.ram picture flash in
    told c.code c.slice
replied file_asked l file =
    let c = save_scr l.state l.ram file in
    told c.code c.slice
replied (snapshot_asked registers) l file =
    let c = save_sna l.state l.ram file registers in
    told c.code c.slice
replied (help h n) l answer = helper_call (helped_by h n) answer

unfoldable pub performed : Call → Lent → Result
performed (start_again how) l = let s = started_by how l in result s.code s.slices (filled_by how l)
performed (take_time t answer) l = let o = waited t l answer in result o.code o.slices o.answer
performed (write_byte addr value) l = let c = write_internal l.state l.ram addr value in result c.code (with_ram l c.slice) []
performed (write_paging value answer) l = let c = write7ffd_call l.state value answer in result c.code (with_state l c.state) c.answer
performed reset_passed l = let c = reset_frames l.state in result c.code (with_state l c.slice) []
performed (load_ram bytes page) l = let c = load_page l.state l.ram bytes page in result c.code (with_ram l c.slice) []
performed (load_screen file page) l = let c = load_scr l.state l.ram file page in result c.code (with_ram l c.slice) []
performed (ask q out) l = let t = replied q l out in result t.code l t.answer

-- ---- the causes for which a call is refused, in document 01's order
abbrev pub wait_causes_of : Lent → ℕ → List ℕ → List Cause
wait_causes_of l n answer = all_causes l.state (wait_causes (length l.ram) (length l.a) (length l.b) (length l.border) n (length answer))

abbrev pub port_causes_of : Lent → List ℕ → List ℕ → List Cause
port_causes_of l devices answer = all_causes l.state (port_causes devices (length l.ram) (length l.a) (length l.b) (length l.border) (length answer))

abbrev pub timed_causes : TimedCall → Lent → List ℕ → List Cause
timed_causes (plain n) l answer = wait_causes_of l n answer
timed_causes (mreq addr n) l answer = wait_causes_of l n answer
timed_causes (no_mreq addr n) l answer = wait_causes_of l n answer
timed_causes (port_in devices port) l answer = port_causes_of l devices answer
timed_causes (port_out devices port value) l answer = port_causes_of l devices answer

-- a start judges no record, nor does an import
abbrev pub start_causes_of : Start → Lent → List Cause
start_causes_of (plain_start machine) l = start_causes (length l.state) (length l.ram) (length l.a) (length l.b) (length l.border) machine
start_causes_of (colour_start machine colour) l =
    start_colour_causes (length l.state) (length l.ram) (length l.a) (length l.b) (length l.border) machine colour
start_causes_of (snapshot_start machine file registers) l =
    load_sna_causes (length l.state) (length l.ram) (length registers) (length l.a) (length l.b) (length l.border) machine file

-- the helpers: the answer's length, then 8, "a helper's number outside its range"
abbrev pub helper_range : Helper → ℕ → Bool
helper_range line_addr n = leb n 191
helper_range line_of n = leb n 0x17FF
helper_range column_of n = leb n 0x17FF
helper_range attr_row_of n = is_attribute n
helper_range attr_column_of n = is_attribute n
helper_range colour_bits n = leb n 7

abbrev pub helper_causes : Bool → List ℕ → List Cause
helper_causes within answer = unless (number_fits (length answer)) ∷ cause BadNumber (not within) ∷ []

abbrev pub question_causes : Question → Lent → List ℕ → List Cause
question_causes (byte_read rom addr) l answer = all_causes l.state (read_causes (length rom) (length l.ram) (length answer))
question_causes paging_read l answer = all_causes l.state (told_causes (length answer))
question_causes interrupt_asked l answer = all_causes l.state (told_causes (length answer))
question_causes frames_asked l answer = all_causes l.state (told_causes (length answer))
question_causes (page_asked page) l answer = all_causes l.state (ram_page_causes (length l.ram) page (number_fits (length answer)))
question_causes (block_asked rom block) l answer = all_causes l.state (block_causes (length rom) (length l.ram) block (number_fits (length answer)))
question_causes shown_asked l answer = all_causes l.state (shown_causes (length l.a) (length l.b) (number_fits (length answer)))
question_causes (still_asked flash) l picture = all_causes l.state (still_causes (length l.ram) (length picture) flash)
question_causes file_asked l file = all_causes l.state (save_scr_causes (length l.ram) (length file))
question_causes (snapshot_asked registers) l file = all_causes l.state (save_sna_causes (length l.ram) (length file) (length registers))
question_causes (help h n) l answer = helper_causes (helper_range h n) answer

abbrev pub causes_of : Call → Lent → List Cause
causes_of (start_again how) l = start_causes_of how l
causes_of (take_time t answer) l = timed_causes t l answer
causes_of (write_byte addr value) l = all_causes l.state (write_causes (length l.ram))
causes_of (write_paging value answer) l = all_causes l.state (told_causes (length answer))
causes_of reset_passed l = all_causes l.state no_causes
causes_of (load_ram bytes page) l = all_causes l.state (load_causes (length l.ram) (length bytes) page)
causes_of (load_screen file page) l = all_causes l.state (load_scr_causes (length l.ram) (length file) page)
causes_of (ask q out) l = question_causes q l out

-- "A refused call fills its answer, if that has its length, with the number and zeros": a still's picture, a screen file, a snapshot and an import's
-- registers are left as they were
abbrev pub refused_reply : Question → List ℕ → ℕ → List ℕ
refused_reply (byte_read rom addr) answer code = refused_answer number_length code answer
refused_reply paging_read answer code = refused_answer number_length code answer
refused_reply interrupt_asked answer code = refused_answer number_length code answer
refused_reply frames_asked answer code = refused_answer number_length code answer
refused_reply (page_asked page) answer code = refused_answer number_length code answer
refused_reply (block_asked rom block) answer code = refused_answer number_length code answer
refused_reply shown_asked answer code = refused_answer number_length code answer
refused_reply (still_asked flash) picture code = picture
refused_reply file_asked file code = file
refused_reply (snapshot_asked registers) file code = file
refused_reply (help h n) answer code = refused_answer number_length code answer

abbrev pub refused_filled : Call → ℕ → List ℕ
refused_filled (start_again how) code = lent_to_fill how
refused_filled (take_time t answer) code = refused_answer timed_length code answer
refused_filled (write_byte addr value) code = []
refused_filled (write_paging value answer) code = refused_answer number_length code answer
refused_filled reset_passed code = []
refused_filled (load_ram bytes page) code = []
refused_filled (load_screen file page) code = []
refused_filled (ask q out) code = refused_reply q out code

-- ---- what is lent: "our buffers each lent only in its own place and handed back untouched between calls"

-- What the firmware lends of one of its own buffers: `count` bytes from the buffer's first on. A right call lends the buffer's own length. A mistaken
-- one lends fewer, or more: then bytes that follow the buffer in memory are lent with it, and `beyond` holds these.
pub record Portion : Type 0 where
  pub count : ℕ
  pub beyond : List ℕ

-- the slice that a call is lent
abbrev pub lend : Portion → List ℕ → List ℕ
lend n buffer = take n.count (buffer ++ n.beyond)

-- The buffer when a call has left `out` in that slice: what stands in `out` as far as the buffer goes, and then what was not lent of it. What stands
-- beyond the buffer is not the machine's. A call that is lent too much is refused and writes nothing there; a second start alone could, and a run
-- has none.
abbrev pub hand_back : Portion → List ℕ → List ℕ → List ℕ
hand_back n buffer out = take (length buffer) out ++ drop n.count buffer

-- of the machine's five buffers
pub record Portions : Type 0 where
  pub state : Portion
  pub ram : Portion
  pub a : Portion
  pub b : Portion
  pub border : Portion

abbrev pub lent_of : Portions → Lent → Lent
lent_of n l =
    record {
      state = lend n.state l.state;
      ram = lend n.ram l.ram;
      a = lend n.a l.a;
      b = lend n.b l.b;
      border = lend n.border l.border;
    }

-- the buffers when a call has left `out` in what it was lent of them
abbrev pub handed_back : Portions → Lent → Lent → Lent
handed_back n l out =
    record {
      state = hand_back n.state l.state out.state;
      ram = hand_back n.ram l.ram out.ram;
      a = hand_back n.a l.a out.a;
      b = hand_back n.b l.b out.b;
      border = hand_back n.border l.border out.border;
    }

-- ---- a call that was made: what of the buffers it was lent, and what it left
pub record Made : Type 0 where
  pub lending : Portions
  pub call : Call
  pub result : Result

abbrev pub buffers_after : Made → Lent → Lent
buffers_after c l = handed_back c.lending l c.result.slices

-- calls made one after the other, each on what the one before it left, and each with what its definition says
abbrev pub Obeyed : List Made → Lent → Type 0
Obeyed [] l = Unit {0}
Obeyed (c ∷ cs) l = (c.result ≡ performed c.call (lent_of c.lending l)) × Obeyed cs (buffers_after c l)

-- something said of every call of a list
abbrev pub Each : (Made → Type 0) → List Made → Type 0
Each P [] = Unit {0}
Each P (c ∷ cs) = P c × Each P cs

-- "with no second start": a start that is called again, whichever it is, is refused; "a second [import] is a second start" (02, Q-4)
abbrev pub NotStarted : Call → ℕ → Type 0
NotStarted (start_again how) code = code ≡ 0 → ⊥
NotStarted (take_time t answer) code = Unit {0}
NotStarted (write_byte addr value) code = Unit {0}
NotStarted (write_paging value answer) code = Unit {0}
NotStarted reset_passed code = Unit {0}
NotStarted (load_ram bytes page) code = Unit {0}
NotStarted (load_screen file page) code = Unit {0}
NotStarted (ask q out) code = Unit {0}

abbrev pub NoSecondStart : List Made → Type 0
NoSecondStart cs = Each (λ c. NotStarted c.call c.result.code) cs
