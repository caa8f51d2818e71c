-- rustzx-core/src/zx/memory.rs.
-- Assumes nothing.
use Rattle.std.specs.Prelude.{ℕ, ◌+◌, ◌*◌, ◌/◌, ◌%◌, cond, List, [], ◌∷◌, ◌++◌, ltb, length, get_or, set, take, drop, replicate}
use Rattle.rustzx.specs.Panics.{OrPanic, done, panics, assert, on_done}
use Rattle.rustzx.specs.Machine.{ZXMachine, Sinclair48K, Sinclair128K}

abbrev pub page_size : ℕ
page_size = 16384

-- enum Page
pub data Page : Type 0 where
  Rom : ℕ → Page
  Ram : ℕ → Page

pub record ZXMemory : Type 0 where
  pub rom : List ℕ
  pub ram : List ℕ
  pub map : List Page

-- fn new, with the types that ZXController::new gives it: K16 and K48, K32 and K128
unfoldable pub zeros : ℕ → List ℕ
zeros n = replicate n 0

abbrev pub new_memory : ZXMachine → ZXMemory
new_memory Sinclair48K = record { rom = zeros 16384; ram = zeros 49152; map = Rom 0 ∷ Ram 0 ∷ Ram 1 ∷ Ram 2 ∷ [] }
new_memory Sinclair128K = record { rom = zeros 32768; ram = zeros 131072; map = Rom 0 ∷ Ram 5 ∷ Ram 2 ∷ Ram 0 ∷ [] }

-- fn get_page
abbrev pub get_page : ZXMemory → ℕ → Page
get_page mem addr = get_or mem.map (addr / page_size) (Rom 0)

-- fn read
abbrev pub read_in : ZXMemory → Page → ℕ → ℕ
read_in mem (Rom page) offset = get_or mem.rom (page * page_size + offset) 0
read_in mem (Ram page) offset = get_or mem.ram (page * page_size + offset) 0

unfoldable pub read : ZXMemory → ℕ → ℕ
read mem addr = read_in mem (get_page mem addr) (addr % page_size)

-- fn write
abbrev pub write_in : ZXMemory → Page → ℕ → ℕ → ZXMemory
write_in mem (Rom page) offset value = mem
write_in mem (Ram page) offset value = record { rom = mem.rom; ram = set mem.ram (page * page_size + offset) value; map = mem.map }

unfoldable pub write : ZXMemory → ℕ → ℕ → ZXMemory
write mem addr value = write_in mem (get_page mem addr) (addr % page_size) value

-- fn remap: panics where the page does not exist
abbrev pub mapped : ZXMemory → ℕ → Page → ZXMemory
mapped mem block page = record { rom = mem.rom; ram = mem.ram; map = set mem.map block page }

abbrev pub remap : ZXMemory → ℕ → Page → OrPanic ZXMemory
remap mem block (Ram page) = cond (ltb (length mem.ram) ((page + 1) * page_size)) panics (done (mapped mem block (Ram page)))
remap mem block (Rom page) = cond (ltb (length mem.rom) ((page + 1) * page_size)) panics (done (mapped mem block (Rom page)))

-- fn get_bank_type: assert!(block < MEM_BLOCKS)
abbrev pub get_bank_type : ZXMemory → ℕ → OrPanic Page
get_bank_type mem block = assert (ltb block 4) (done (get_or mem.map block (Rom 0)))

-- fn rom_page_data_mut, read
abbrev pub rom_page_data : ZXMemory → ℕ → OrPanic (List ℕ)
rom_page_data mem page = cond (ltb (length mem.rom) ((page + 1) * page_size)) panics (done (take page_size (drop (page * page_size) mem.rom)))

-- fn ram_page_data
abbrev pub ram_page_data : ZXMemory → ℕ → OrPanic (List ℕ)
ram_page_data mem page = cond (ltb (length mem.ram) ((page + 1) * page_size)) panics (done (take page_size (drop (page * page_size) mem.ram)))

-- fn ram_page_data_mut, and copy_from_slice of a page's bytes over it
abbrev pub load_page : ZXMemory → ℕ → List ℕ → OrPanic ZXMemory
load_page mem page bytes =
    cond (ltb (length mem.ram) ((page + 1) * page_size)) panics
    (done (record { rom = mem.rom; ram = take (page * page_size) mem.ram ++ bytes ++ drop (page * page_size + page_size) mem.ram; map = mem.map }))

-- the 16 KiB at a block: get_bank_type, and the data of the page that it names
abbrev pub page_data : ZXMemory → Page → OrPanic (List ℕ)
page_data mem (Rom page) = rom_page_data mem page
page_data mem (Ram page) = ram_page_data mem page

abbrev pub block_data : ZXMemory → ℕ → OrPanic (List ℕ)
block_data mem block = on_done (get_bank_type mem block) (λ page. page_data mem page)
