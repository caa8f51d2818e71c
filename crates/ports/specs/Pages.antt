-- Ports, keys and the floating bus as the public 48K and 128K reference pages tell them: by single address lines, each device decoded by
-- itself, and with T-states counted one after the other, where document 01 has masks, an order and a division. What no page states says so.
-- Nothing of document 01 stands here: of other crates it takes the names of the two machines and what their own `Pages` say. What 01 says in
-- the same terms, and where the two part, is in specs/Terms.
-- Assumes nothing.
use Rattle.std.specs.Prelude.{ℕ, zero, suc, ◌+◌, ◌-◌, ◌≤◌, ◌<◌, ◌≡◌, Bool, true, false, cond, not, ◌&&◌, ◌||◌, List, ltb, eqb, get_or}
use Rattle.machine.specs.declared.ZXMachine.{ZXMachine}
use Rattle.machine.specs.declared.ZXMachine.TheVariants.{Sinclair48K, Sinclair128K}
use Rattle.machine.specs.Pages.{Page, page_of, laps}
use Rattle.offsets.specs.Pages.{bit, display_address, colour_address}

-- bit k of a number is 1: address line k of a port, or bit k of a byte
abbrev pub is_set : ℕ → ℕ → Bool
is_set k n = eqb (bit k n) 1

-- ---- who is spoken to, by address lines
-- the ULA: every even port
abbrev pub ula_lines : ℕ → Bool
ula_lines port = not (is_set 0 port)

-- 7FFDh, which the 128K page alone has
abbrev pub has_paging : ZXMachine → Bool
has_paging Sinclair48K = false
has_paging Sinclair128K = true

-- it answers any port with A15 and A1 reset
abbrev pub paging_lines : ℕ → Bool
paging_lines port = not (is_set 15 port) && not (is_set 1 port)

-- FFFDh, which selects or reads an AY register: A15 and A14 set, A1 reset
abbrev pub select_lines : ℕ → Bool
select_lines port = is_set 15 port && is_set 14 port && not (is_set 1 port)

-- BFFDh, which writes it: A15 set, A14 and A1 reset
abbrev pub data_lines : ℕ → Bool
data_lines port = is_set 15 port && not (is_set 14 port) && not (is_set 1 port)

-- ---- writes: devices are decoded independently, so an even port with A15 and A1 reset sets the border and pages
pub record Heard : Type 0 where
  pub border : Bool
  pub paging : Bool
  pub select : Bool
  pub writes : Bool

-- who hears a write. A 128K has an AY; a 48K may have one fitted, so that is said apart.
abbrev pub page_write : ZXMachine → Bool → ℕ → Heard
page_write m fitted port =
    record {
      border = ula_lines port;
      paging = has_paging m && paging_lines port;
      select = fitted && select_lines port;
      writes = fitted && data_lines port;
    }

-- ---- reads
-- who answers: the ULA with the keys, the AY with its selected register, or no device, and then the floating bus is read
pub data Answerer : Type 0 where
  ula : Answerer
  register : Answerer
  nobody : Answerer

-- the ULA answers at its ports, the AY at its own, and where no device answers the floating bus is read. Where both answer the pages do
-- not say what is read; the ULA's byte is put first here.
abbrev pub page_read : Bool → ℕ → Answerer
page_read fitted port = cond (ula_lines port) ula (cond (fitted && select_lines port) register nobody)

-- on 128K a read of a paging port also writes 7FFDh, with what the bus holds
abbrev pub read_also_pages : ZXMachine → ℕ → Bool
read_also_pages m port = has_paging m && paging_lines port

-- ---- keys: bits 0 to 4 are the keys of the half rows whose high address bit is 0, all of them together; bit 6 is the EAR input; bits 5 and
-- 7 are set
-- the key in column b of half row n is up. The handheld has three sets of rows, which no page knows: a key is up if it is up in each.
abbrev pub key_up : List ℕ → ℕ → ℕ → Bool
key_up rows n b = is_set b (get_or rows n 0) && is_set b (get_or rows (n + 8) 0) && is_set b (get_or rows (n + 16) 0)

-- no key of column b is down in the first n half rows, but for those whose high address bit is 1
unfoldable pub column_up : List ℕ → ℕ → ℕ → ℕ → Bool
column_up rows port b zero = true
column_up rows port b (suc n) = column_up rows port b n && (is_set (8 + n) port || key_up rows n b)

-- bit b of the byte that is read
abbrev pub page_key_bit : List ℕ → Bool → ℕ → ℕ → Bool
page_key_bit rows ear port b = cond (ltb b 5) (column_up rows port b 8) (cond (eqb b 6) ear true)

-- rows as a keyboard has them: the bits above the five keys are up, in each of the three sets
abbrev pub Keyboard : List ℕ → Type 0
Keyboard rows = (k : ℕ) → k < 24 → (b : ℕ) → 5 ≤ b → b < 8 → is_set b (get_or rows k 0) ≡ true

-- ---- the floating bus: within each 8 T-states bitmap, attribute, bitmap, attribute for two columns, then four idle T-states
-- what the ULA fetches at a T-state: nothing, or a byte of a line of the picture and a column
pub data Fetch : Type 0 where
  idle : Fetch
  bitmap_byte : ℕ → ℕ → Fetch
  attribute_byte : ℕ → ℕ → Fetch

-- what is fetched x T-states into k such groups, of which the next starts at a column
unfoldable pub groups : ℕ → ℕ → ℕ → ℕ → Fetch
groups zero row column x = idle
groups (suc k) row column zero = bitmap_byte row column
groups (suc k) row column (suc zero) = attribute_byte row column
groups (suc k) row column (suc (suc zero)) = bitmap_byte row (column + 1)
groups (suc k) row column (suc (suc (suc zero))) = attribute_byte row (column + 1)
groups (suc k) row column (suc (suc (suc (suc zero)))) = idle
groups (suc k) row column (suc (suc (suc (suc (suc zero))))) = idle
groups (suc k) row column (suc (suc (suc (suc (suc (suc zero)))))) = idle
groups (suc k) row column (suc (suc (suc (suc (suc (suc (suc zero))))))) = idle
groups (suc k) row column (suc (suc (suc (suc (suc (suc (suc (suc x)))))))) = groups k row (column + 2) x

-- k lines of the picture, of which the next is `row` and starts at T-state `start`: sixteen groups, and nothing till the next line
unfoldable pub fetches : ℕ → ℕ → ℕ → ℕ → ℕ → Fetch
fetches zero row start per_line t = idle
fetches (suc k) row start per_line t =
    cond (ltb t start) idle
    (cond (ltb t (start + per_line)) (groups 16 row 0 (t - start)) (fetches k (suc row) (start + per_line) per_line t))

-- 48K: "The first bitmap byte is seen at 14,338", which is two T-states after the first byte is due at 14,336. For 128K no page states the
-- T-state; the same two T-states are taken.
abbrev pub first_fetch : Page → ℕ
first_fetch p = p.first_byte + 2

abbrev pub page_floating : Page → ℕ → Fetch
page_floating p t = fetches 192 0 (first_fetch p) p.per_line t

-- The same order asked the other way round: the T-state at which a column's bitmap byte is fetched in a line whose groups start at T-state
-- `start`. The second column of a group comes two T-states behind the first, and each group eight behind the one before.
unfoldable pub bitmap_in : ℕ → ℕ → ℕ
bitmap_in start zero = start
bitmap_in start (suc zero) = start + 2
bitmap_in start (suc (suc column)) = bitmap_in (start + 8) column

-- the T-states of the frame at which the two bytes of a line's column are fetched: the attribute follows its bitmap byte
abbrev pub bitmap_at : Page → ℕ → ℕ → ℕ
bitmap_at p row column = bitmap_in (first_fetch p + laps row p.per_line) column

abbrev pub attribute_at : Page → ℕ → ℕ → ℕ
attribute_at p row column = bitmap_at p row column + 1

-- a byte of a RAM page that the bus shows, or nothing: an offset in the display file of the page
pub data Seen : Type 0 where
  nothing : Seen
  byte_of : ℕ → ℕ → Seen

abbrev pub seen_in : ℕ → Fetch → Seen
seen_in page idle = nothing
seen_in page (bitmap_byte row column) = byte_of page (display_address row column - 0x4000)
seen_in page (attribute_byte row column) = byte_of page (colour_address row column - 0x4000)

-- the floating bus follows the shown bank
abbrev pub page_seen : ZXMachine → ℕ → ℕ → Seen
page_seen m shown t = seen_in shown (page_floating (page_of m) t)
