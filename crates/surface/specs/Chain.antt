-- Any calls after a start or an import, each with what it left, and the Rust beside them: which call of the Rust each is, and what it is that all of them are the
-- Rust's. Calls that are lent too little or too much, starts that are refused, helpers and still pictures are among them.
-- Assumes nothing.
use Rattle.std.specs.Prelude.{ℕ, ◌≡◌, List, [], ◌∷◌, ◌++◌, eqb, length, drop}
use Rattle.machine.specs.Limits.{picture_length, page_length}
use Rattle.ports.specs.Devices.{devices_of}
use Rattle.memory.specs.Memory.{ram_page}
use Rattle.memory.specs.Screens.{screen_file}
use Rattle.record.specs.Record.{record_of}
use Rattle.snapshot.specs.Kept.{snapshot_file}
use Rattle.judgement.specs.Order.{Numbered}
use Rattle.contracts.specs.Timed.{Lent, outcome}
use Rattle.contracts.specs.Plain.{Told, told, still_of}
use Rattle.contracts.specs.Calls.{TimedCall, plain, mreq, no_mreq, port_in, port_out, Helper, line_addr, line_of, column_of, attr_row_of, attr_column_of, colour_bits, Question, byte_read, paging_read, interrupt_asked, frames_asked, page_asked, block_asked, shown_asked, still_asked, file_asked, snapshot_asked, help, Call, start_again, take_time, write_byte, write_paging, reset_passed, load_ram, load_screen, ask, Result, result, causes_of, refused_filled, lent_of, Made, buffers_after, Each}
use Rattle.rustzx.specs.Panics.{OrPanic, done, on_done}
use Rattle.rustzx.specs.Controller.{ZXController}
use Rattle.rustzx.specs.Calls as rust
use Rattle.rustzx.specs.Calls.{Given, performed}
use Rattle.rustzx.specs.Addresses as address
use Rattle.rustzx.specs.Colors.{from_bits, color_byte}
use Rattle.surface.specs.Same.{NoValue, ItsValue, SameTimed, SameTold, SamePart, SameFound, SameHelp, SameLent}

-- the Rust's call of a timed call, and what its value is
abbrev pub rust_timed : TimedCall → rust.Call
rust_timed (plain n) = rust.wait_internal n
rust_timed (mreq addr n) = rust.wait_mreq addr n
rust_timed (no_mreq addr n) = rust.wait_no_mreq addr n
rust_timed (port_in devices port) = rust.read_io (devices_of devices) port
rust_timed (port_out devices port value) = rust.write_io (devices_of devices) port value

abbrev pub ValueOf : TimedCall → Given → ℕ → Type 0
ValueOf (plain n) = NoValue
ValueOf (mreq addr n) = NoValue
ValueOf (no_mreq addr n) = NoValue
ValueOf (port_in devices port) = ItsValue
ValueOf (port_out devices port value) = ItsValue

-- the Rust's helpers, which have no controller; from_bits gives its colour by its number
abbrev pub rust_helper : Helper → ℕ → OrPanic ℕ
rust_helper line_addr n = address.bitmap_line_addr n
rust_helper line_of n = address.bitmap_line_rel n
rust_helper column_of n = address.bitmap_col_rel n
rust_helper attr_row_of n = address.attr_row_rel n
rust_helper attr_column_of n = address.attr_col_rel n
rust_helper colour_bits n = on_done (from_bits n) (λ x. done (color_byte x))

-- Screen files are an addition that the Rust has not. One that is loaded is, to the Rust, its own page load of the page's bytes with the file in front,
abbrev pub with_front : List ℕ → List ℕ → List ℕ
with_front file page = file ++ drop (length file) page

-- and one that is saved is the file of the page that its ram_page_data gives for its own screen_bank.
abbrev pub SameFile : ZXController → List ℕ → Type 0
SameFile c file = (page : List ℕ) × SamePart (rust.ram_page_of c.screen_bank) c page × (file ≡ screen_file page)

-- the Rust's call ends, and its controller is then `next`
pub record LeadsTo (k : rust.Call) (c next : ZXController) : Type 0 where
  pub given : Given
  pub ends : performed k c ≡ done given
  pub then : given.controller ≡ next

-- what the Rust says of an answered question. The still picture is an addition that the Rust has not: it is ours (contracts, specs/Plain), of "the page
-- now shown" (02, Q-1), and the Rust's machine stays as it was. So is a snapshot that is written (02, Q-4): the file of record, RAM and registers.
abbrev pub SameReply : List ℕ → Question → ZXController → ZXController → Lent → Told → Type 0
SameReply rom (byte_read lent addr) c next l t = SameTold (rust.read_internal addr) c t × LeadsTo (rust.read_internal addr) c next
SameReply rom paging_read c next l t = SameTold rust.read7ffd c t × LeadsTo rust.read7ffd c next
SameReply rom interrupt_asked c next l t = SameTold rust.int_active c t × LeadsTo rust.int_active c next
SameReply rom frames_asked c next l t = SameTold rust.frames_count c t × LeadsTo rust.frames_count c next
SameReply rom (page_asked page) c next l t = SameFound (rust.ram_page_of page) c t page_length (rom ++ l.ram) × LeadsTo (rust.ram_page_of page) c next
SameReply rom (block_asked lent block) c next l t = SameFound (rust.block_of block) c t page_length (rom ++ l.ram) × LeadsTo (rust.block_of block) c next
SameReply rom shown_asked c next l t = SameFound rust.screen_buffer c t picture_length (l.a ++ l.b) × LeadsTo rust.screen_buffer c next
SameReply rom (still_asked flash) c next l t =
    (t.answer ≡ still_of (record_of l.state) l.ram (eqb flash 1)) × (next ≡ c)
SameReply rom file_asked c next l t = SameFile c t.answer × (next ≡ c)
SameReply rom (snapshot_asked registers) c next l t =
    let bus = record_of l.state in
    (t.answer ≡ snapshot_file bus.machine bus.paging bus.reported l.ram registers) × (next ≡ c)
SameReply rom (help h n) c next l t = SameHelp (rust_helper h n) t × (next ≡ c)

-- what the Rust says of an accepted call on the buffers l: r has the number, the buffers afterwards and the answer. A second start is none.
abbrev pub SameAnswer : List ℕ → Call → ZXController → ZXController → Lent → Result → Type 0
SameAnswer rom (start_again how) c next l r = ⊥
SameAnswer rom (take_time t answer) c next l r =
    SameTimed rom (rust_timed t) (ValueOf t) c (outcome r.code r.slices r.filled) × LeadsTo (rust_timed t) c next
SameAnswer rom (write_byte addr value) c next l r = LeadsTo (rust.write_internal addr value) c next
SameAnswer rom (write_paging value answer) c next l r = SameTold (rust.write7ffd value) c (told r.code r.filled) × LeadsTo (rust.write7ffd value) c next
SameAnswer rom reset_passed c next l r = LeadsTo rust.reset_frame_counter c next
SameAnswer rom (load_ram bytes page) c next l r = LeadsTo (rust.load_page page bytes) c next
SameAnswer rom (load_screen file page) c next l r = LeadsTo (rust.load_page page (with_front file (ram_page page l.ram))) c next
SameAnswer rom (ask q out) c next l r = SameReply rom q c next l (told r.code r.filled)

-- an accepted call: the Rust's ends and answers the same, and the buffers hold what the Rust then holds
pub record SameCall (rom : List ℕ) (k : Call) (c : ZXController) (l : Lent) (r : Result) : Type 0 where
  pub next : ZXController
  pub answer : SameAnswer rom k c next l r
  pub leaves : SameLent rom next r.slices

-- a refused call: "writes nothing else"
pub record Unaltered (c : Made) (l : Lent) : Type 0 where
  pub buffers : buffers_after c l ≡ l
  pub filled : c.result.filled ≡ refused_filled c.call c.result.code

-- what a call that was made left of the buffers l
abbrev pub left_on : Made → Lent → Result
left_on c l = result c.result.code (buffers_after c l) c.result.filled

-- ANY CALLS, one after the other: each has the number of the first of its causes that holds and is accepted where none does; an accepted one is the
-- Rust's, and a refused one leaves the buffers to the same state of the Rust
abbrev pub AllSame : List ℕ → List Made → ZXController → Lent → Type 0
AllSame rom [] c l = SameLent rom c l
AllSame rom (k ∷ ks) c l =
    Numbered k.result.code (causes_of k.call (lent_of k.lending l))
    × (k.result.code ≡ 0 → (s : SameCall rom k.call c l (left_on k l)) × AllSame rom ks s.next (buffers_after k l))
    × ((k.result.code ≡ 0 → ⊥) → Unaltered k l × AllSame rom ks c (buffers_after k l))

-- the firmware has one ROM: a slice of its length that is lent as ROM holds it
abbrev pub OwnRomAsked : List ℕ → Question → Type 0
OwnRomAsked rom (byte_read lent addr) = length lent ≡ length rom → lent ≡ rom
OwnRomAsked rom paging_read = Unit {0}
OwnRomAsked rom interrupt_asked = Unit {0}
OwnRomAsked rom frames_asked = Unit {0}
OwnRomAsked rom (page_asked page) = Unit {0}
OwnRomAsked rom (block_asked lent block) = length lent ≡ length rom → lent ≡ rom
OwnRomAsked rom shown_asked = Unit {0}
OwnRomAsked rom (still_asked flash) = Unit {0}
OwnRomAsked rom file_asked = Unit {0}
OwnRomAsked rom (snapshot_asked registers) = Unit {0}
OwnRomAsked rom (help h n) = Unit {0}

abbrev pub OwnRom : List ℕ → Call → Type 0
OwnRom rom (start_again how) = Unit {0}
OwnRom rom (take_time t answer) = Unit {0}
OwnRom rom (write_byte addr value) = Unit {0}
OwnRom rom (write_paging value answer) = Unit {0}
OwnRom rom reset_passed = Unit {0}
OwnRom rom (load_ram bytes page) = Unit {0}
OwnRom rom (load_screen file page) = Unit {0}
OwnRom rom (ask q out) = OwnRomAsked rom q

abbrev pub OneRom : List ℕ → List Made → Type 0
OneRom rom cs = Each (λ c. OwnRom rom c.call) cs
