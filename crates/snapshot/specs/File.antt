-- Document 02, Q-4, "Start from a snapshot": the SNA file of each machine. Which bank stands where, for each paged bank; the size that is due; the two
-- copies of a bank that stands twice. Banks are RAM pages.
-- Assumes nothing.
use Rattle.std.specs.Prelude.{ℕ, suc, ◌+◌, ◌*◌, ◌%◌, Bool, true, false, cond, not, ◌&&◌, ◌||◌, List, [], ◌∷◌, ◌++◌, map, eqb, ltb, take, drop}
use Rattle.machine.specs.declared.ZXMachine.{ZXMachine}
use Rattle.machine.specs.declared.ZXMachine.TheVariants.{Sinclair48K, Sinclair128K}
use Rattle.machine.specs.Limits.{page_length}
use Rattle.record.specs.Words.{byte_at}

-- "27 header bytes, border colour in byte 26"
abbrev pub header_length : ℕ
header_length = 27

abbrev pub border_at : ℕ
border_at = 26

-- "then RAM from 4000h", or "banks 5, 2 and the paged one, then PC, the 7FFD byte, a TR-DOS byte"
abbrev pub pc_at : ℕ
pc_at = header_length + 3 * page_length

abbrev pub paging_byte_at : ℕ
paging_byte_at = pc_at + 2

abbrev pub trdos_at : ℕ
trdos_at = pc_at + 3

-- "bits 0..2 of the 7FFD byte" (01)
abbrev pub paged_bank : ℕ → ℕ
paged_bank byte = byte % 8

-- the three banks that stand first: "RAM from 4000h", and "banks 5, 2 and the paged one"
abbrev pub first_banks : ZXMachine → ℕ → List ℕ
first_banks Sinclair48K byte = 0 ∷ 1 ∷ 2 ∷ []
first_banks Sinclair128K byte = 5 ∷ 2 ∷ paged_bank byte ∷ []

-- the banks that a machine has, in rising order
abbrev pub all_banks : ZXMachine → List ℕ
all_banks Sinclair48K = 0 ∷ 1 ∷ 2 ∷ []
all_banks Sinclair128K = 0 ∷ 1 ∷ 2 ∷ 3 ∷ 4 ∷ 5 ∷ 6 ∷ 7 ∷ []

-- whether a bank is one of some
unfoldable pub among : List ℕ → ℕ → Bool
among [] bank = false
among (b ∷ bs) bank = eqb bank b || among bs bank

-- some banks without others, in their order
unfoldable pub without : List ℕ → List ℕ → List ℕ
without gone [] = []
without gone (b ∷ bs) = cond (among gone b) (without gone bs) (b ∷ without gone bs)

-- "the remaining banks in rising order"
abbrev pub remaining_banks : ZXMachine → ℕ → List ℕ
remaining_banks m byte = without (first_banks m byte) (all_banks m)

-- the banks of a file in the order in which they stand
unfoldable pub banks_in_order : ZXMachine → ℕ → List ℕ
banks_in_order m byte = first_banks m byte ++ remaining_banks m byte

-- where the bank at a place of that order begins, the first place being 0: behind the header, and from the fourth on behind PC, 7FFD byte and TR-DOS byte
abbrev pub place_start : ℕ → ℕ
place_start place = header_length + page_length * place + cond (ltb place 3) 0 4

-- "when bank 5 or 2 is the paged one and so stands twice"
abbrev pub stands_twice : ZXMachine → ℕ → Bool
stands_twice Sinclair48K byte = false
stands_twice Sinclair128K byte = eqb (paged_bank byte) 5 || eqb (paged_bank byte) 2

-- "the 48K form of 49,179 bytes", "the 128K form: .. 131,103 bytes, or 147,487 when bank 5 or 2 is the paged one and so stands twice"
unfoldable pub due_size : ZXMachine → ℕ → ℕ
due_size Sinclair48K byte = 49179
due_size Sinclair128K byte = cond (stands_twice Sinclair128K byte) 147487 131103

-- ---- what stands in a file
-- "the file's 7FFD byte", all eight bits; a 48K's file has none, and its record's is 0. In a file that is too short to hold it the byte is 0, which asks for
-- more bytes than there are.
abbrev pub paging_in : ZXMachine → List ℕ → ℕ
paging_in Sinclair48K file = 0
paging_in Sinclair128K file = byte_at file paging_byte_at

-- "the low three bits of byte 26"
abbrev pub border_in : List ℕ → ℕ
border_in file = byte_at file border_at % 8

-- the 16 KiB at a place
abbrev pub bank_at : ℕ → List ℕ → List ℕ
bank_at place file = take page_length (drop (place_start place) file)

-- the place of a bank; the first of them where it stands twice
unfoldable pub first_place : ℕ → List ℕ → ℕ
first_place bank [] = 0
first_place bank (b ∷ bs) = cond (eqb bank b) 0 (suc (first_place bank bs))

-- the place of each bank that a machine has, bank 0 first
abbrev pub places_of_banks : ZXMachine → ℕ → List ℕ
places_of_banks m byte = map (λ bank. first_place bank (banks_in_order m byte)) (all_banks m)

-- a bank of a file
abbrev pub bank_in : ZXMachine → List ℕ → ℕ → List ℕ
bank_in m file bank = bank_at (first_place bank (banks_in_order m (paging_in m file))) file

-- one piece for each of a list, one behind the other
unfoldable pub laid : (ℕ → List ℕ) → List ℕ → List ℕ
laid piece [] = []
laid piece (b ∷ bs) = piece b ++ laid piece bs

-- "RAM is the file's": every bank, in rising order
unfoldable pub ram_in : ZXMachine → List ℕ → List ℕ
ram_in m file = laid (bank_in m file) (all_banks m)

-- two lists of bytes are the same
unfoldable pub same_bytes : List ℕ → List ℕ → Bool
same_bytes [] [] = true
same_bytes [] (y ∷ ys) = false
same_bytes (x ∷ xs) [] = false
same_bytes (x ∷ xs) (y ∷ ys) = eqb x y && same_bytes xs ys

-- where the first of the two copies begins: bank 5's own place, or bank 2's; the second is at the third place
abbrev pub copy_start : ℕ → ℕ
copy_start byte = cond (eqb (paged_bank byte) 5) (place_start 0) (place_start 1)

-- "Where the two copies differ": the paged bank's own, at the third place, and the one at the bank's first place
unfoldable pub copies_differ : ZXMachine → List ℕ → Bool
copies_differ m file =
    let byte = paging_in m file in
    stands_twice m byte && not (same_bytes (bank_in m file (paged_bank byte)) (bank_at 2 file))
