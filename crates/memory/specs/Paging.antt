-- Document 01, "Bus calls", first paragraph: the page at each block, the shown page, contended addresses, the 7FFD write.
-- Assumes nothing.
use Rattle.std.specs.Prelude.{ℕ, ◌/◌, ◌%◌, ◌^◌, Bool, false, cond, List, [], ◌∷◌, eqb, leb, get_or}
use Rattle.machine.specs.declared.ZXMachine.{ZXMachine}
use Rattle.machine.specs.declared.ZXMachine.TheVariants.{Sinclair48K, Sinclair128K}
use Rattle.machine.specs.Contended.{bank_contended}
use Rattle.machine.specs.Limits.{page_length}
use Rattle.record.specs.declared.Bus.{Bus}
use Rattle.memory.specs.declared.Page.{Page}
use Rattle.memory.specs.declared.Page.TheVariants.{Rom, Ram}
use Rattle.memory.specs.declared.Map.{Map}
use Rattle.memory.specs.declared.Paged.{Paged}
use Rattle.memory.specs.declared.Paged.TheVariants.{Absent, Locked, Taken}

-- bit k of a byte, and whether it is set
abbrev pub bit : ℕ → ℕ → ℕ
bit k byte = byte / 2 ^ k % 2

abbrev pub bit_set : ℕ → ℕ → Bool
bit_set k byte = eqb (bit k byte) 1

-- "Block 0 is the ROM page; 48K blocks 1 to 3 are RAM 0, 1, 2. On 128K they are RAM 5, 2 and bits 0..2 of the 7FFD byte", "bit 4 picks the ROM"
abbrev pub memory_map : ZXMachine → ℕ → List Page
memory_map Sinclair48K paging = Rom 0 ∷ Ram 0 ∷ Ram 1 ∷ Ram 2 ∷ []
memory_map Sinclair128K paging = Rom (bit 4 paging) ∷ Ram 5 ∷ Ram 2 ∷ Ram (paging % 8) ∷ []

-- the page at a block; a call refuses a block above 3 before it asks, and the map would answer ROM 0
abbrev pub page_at : ZXMachine → ℕ → ℕ → Page
page_at m paging block = get_or (memory_map m paging) block (Rom 0)

-- the map of the bus is that of its machine and its 7FFD byte
abbrev pub map_of : Bus → Map
map_of bus = record { machine = bus.machine; paging = bus.paging }

-- "the shown page (page 0 on 48K, 5 or 7 on 128K)", "bit 3 shows page 7"
abbrev pub shown_page : ZXMachine → ℕ → ℕ
shown_page Sinclair48K paging = 0
shown_page Sinclair128K paging = cond (bit_set 3 paging) 7 5

-- "contended RAM pages": ROM is never contended
abbrev pub page_contended : ZXMachine → Page → Bool
page_contended m (Rom page) = false
page_contended m (Ram page) = bank_contended m page

-- an address is contended "if its page is contended"
abbrev pub addr_contended : ZXMachine → ℕ → ℕ → Bool
addr_contended m paging addr = page_contended m (page_at m paging (addr / page_length))

-- "bit 5 locks after that same write has remapped": it is the byte held before that locks. "on 48K 0 with nothing changed"
unfoldable pub write7ffd : ZXMachine → ℕ → ℕ → Paged
write7ffd Sinclair48K held value = Absent
write7ffd Sinclair128K held value = cond (bit_set 5 held) Locked (Taken value)

-- "The 7FFD write answers 5, 6, or on 48K 0"; "paged 5 or locked 6"
abbrev pub paged_code : Paged → ℕ
paged_code Absent = 0
paged_code Locked = 6
paged_code (Taken value) = 5

-- the "last 7FFD byte" of the record afterwards
abbrev pub paging_after : Paged → ℕ → ℕ
paging_after Absent held = held
paging_after Locked held = held
paging_after (Taken value) held = value

-- the byte held after a list of 7FFD writes, the first of them first
unfoldable pub paging_since : ZXMachine → ℕ → List ℕ → ℕ
paging_since m held [] = held
paging_since m held (value ∷ values) = paging_since m (paging_after (write7ffd m held value) held) values

-- "a RAM page above 2 (48K) or 7 (128K)" is refused
abbrev pub last_page : ZXMachine → ℕ
last_page Sinclair48K = 2
last_page Sinclair128K = 7

abbrev pub page_exists : ZXMachine → ℕ → Bool
page_exists m page = leb page (last_page m)
