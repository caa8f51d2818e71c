-- Document 01: bytes and pages of the lent ROM and RAM. A page is 16 KiB; page p of RAM is its bytes 16,384 p to 16,384 p + 16,383, and so in ROM.
-- Assumes nothing.
use Rattle.std.specs.Prelude.{ℕ, ◌+◌, ◌*◌, ◌/◌, ◌%◌, ◌≤◌, ◌<◌, List, [], ◌∷◌, get_or, take, drop}
use Rattle.std.proofs.lemmas.List.Edits.{sets}
use Rattle.machine.specs.declared.ZXMachine.{ZXMachine}
use Rattle.machine.specs.Numbers.{specs_of}
use Rattle.machine.specs.Limits.{page_length}
use Rattle.memory.specs.declared.Page.{Page}
use Rattle.memory.specs.declared.Page.TheVariants as page
use Rattle.memory.specs.declared.Place.{Place}
use Rattle.memory.specs.declared.Place.TheVariants.{Rom, Ram}
use Rattle.memory.specs.Paging.{page_at}

-- the byte of a page at an offset, among all the bytes of ROM or of RAM
abbrev pub place_in : Page → ℕ → Place
place_in (page.Rom p) offset = Rom (page_length * p + offset)
place_in (page.Ram p) offset = Ram (page_length * p + offset)

-- the byte at an address: its block's page, at the address's offset in the block
unfoldable pub place_of : ZXMachine → ℕ → ℕ → Place
place_of m paging addr = place_in (page_at m paging (addr / page_length)) (addr % page_length)

-- "byte read"
abbrev pub byte_in : Place → List ℕ → List ℕ → ℕ
byte_in (Rom at) rom ram = get_or rom at 0
byte_in (Ram at) rom ram = get_or ram at 0

abbrev pub peeked : ZXMachine → ℕ → List ℕ → List ℕ → ℕ → ℕ
peeked m paging rom ram addr = byte_in (place_of m paging addr) rom ram

-- bytes stored in RAM one after the other, the first of them at an offset: RAM afterwards
abbrev pub stored : ℕ → List ℕ → List ℕ → List ℕ
stored at bytes ram = sets ram at bytes

-- "byte … write": RAM afterwards, a store of one byte. "ROM writes vanish."
abbrev pub poked_in : Place → List ℕ → ℕ → List ℕ
poked_in (Rom at) ram value = ram
poked_in (Ram at) ram value = stored at (value ∷ []) ram

abbrev pub poked : ZXMachine → ℕ → List ℕ → ℕ → ℕ → List ℕ
poked m paging ram addr value = poked_in (place_of m paging addr) ram value

-- "RAM page by number"
abbrev pub ram_page : ℕ → List ℕ → List ℕ
ram_page p ram = take page_length (drop (page_length * p) ram)

-- "the 16 KiB at a block as a part of the lent ROM or RAM"
abbrev pub page_part : Page → List ℕ → List ℕ → List ℕ
page_part (page.Rom p) rom ram = take page_length (drop (page_length * p) rom)
page_part (page.Ram p) rom ram = ram_page p ram

-- a ROM and a RAM of these lengths have the page whole
abbrev pub Holds : Page → ℕ → ℕ → Type 0
Holds (page.Rom p) rom ram = page_length * p + page_length ≤ rom
Holds (page.Ram p) rom ram = page_length * p + page_length ≤ ram

-- "a part reaches C by … its start as the number, RAM counted after ROM"
abbrev pub start_of : ZXMachine → Place → ℕ
start_of m (Rom at) = at
start_of m (Ram at) = (specs_of m).rom + at

abbrev pub part_start : ZXMachine → Page → ℕ
part_start m p = start_of m (place_in p 0)

-- "page load (16,384 lent bytes into a RAM page)", and a screen file read into one (02, Q-2): RAM afterwards, a store from the page's first byte on
abbrev pub loaded : ℕ → List ℕ → List ℕ → List ℕ
loaded p bytes ram = stored (page_length * p) bytes ram

-- a place lies within the machine's ROM or RAM
abbrev pub Within : ZXMachine → Place → Type 0
Within m (Rom at) = at < (specs_of m).rom
Within m (Ram at) = at < (specs_of m).ram
