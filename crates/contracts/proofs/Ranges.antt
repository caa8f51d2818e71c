-- The ranges of a call's numbers, and of a snapshot's bytes, as far as what is proved of calls rests on them. No promise does: crate `runs` shows them of the functions' own types.
-- Assumes nothing.
use Prim.Native.Nat.{◌<◌, ◌^◌}
use mathlib.Core.List.{List}
use Rattle.record.specs.Words.{Bytes}
use Rattle.contracts.specs.Calls.{plain_start, colour_start, snapshot_start, plain, mreq, no_mreq, port_in, port_out, Question, byte_read, paging_read, interrupt_asked, frames_asked, page_asked, block_asked, shown_asked, still_asked, file_asked, snapshot_asked, help, Call, start_again, take_time, write_byte, write_paging, reset_passed, load_ram, load_screen, ask, Made, Each}

-- what the types of the functions' parameters say of a call's numbers
abbrev pub TypedQuestion : Question → Type 0
TypedQuestion (byte_read rom addr) = addr < 2 ^ 16
TypedQuestion paging_read = Unit {0}
TypedQuestion interrupt_asked = Unit {0}
TypedQuestion frames_asked = Unit {0}
TypedQuestion (page_asked page) = page < 2 ^ 32
TypedQuestion (block_asked rom block) = block < 2 ^ 32
TypedQuestion shown_asked = Unit {0}
TypedQuestion (still_asked flash) = flash < 2 ^ 32
TypedQuestion file_asked = Unit {0}
TypedQuestion (snapshot_asked registers) = Unit {0}
TypedQuestion (help h n) = n < 2 ^ 32

abbrev pub Typed : Call → Type 0
Typed (start_again (plain_start machine)) = machine < 2 ^ 32
Typed (start_again (colour_start machine colour)) = (machine < 2 ^ 32) × (colour < 2 ^ 32)
Typed (start_again (snapshot_start machine file registers)) = (machine < 2 ^ 32) × Bytes file
Typed (take_time (plain n) answer) = n < 2 ^ 32
Typed (take_time (mreq addr n) answer) = (addr < 2 ^ 16) × (n < 2 ^ 32)
Typed (take_time (no_mreq addr n) answer) = (addr < 2 ^ 16) × (n < 2 ^ 32)
Typed (take_time (port_in devices port) answer) = port < 2 ^ 16
Typed (take_time (port_out devices port value) answer) = (port < 2 ^ 16) × (value < 2 ^ 8)
Typed (write_byte addr value) = (addr < 2 ^ 16) × (value < 2 ^ 8)
Typed (write_paging value answer) = value < 2 ^ 8
Typed reset_passed = Unit {0}
Typed (load_ram bytes page) = page < 2 ^ 32
Typed (load_screen file page) = page < 2 ^ 32
Typed (ask q out) = TypedQuestion q

abbrev pub AllTyped : List Made → Type 0
AllTyped cs = Each (λ c. Typed c.call) cs
