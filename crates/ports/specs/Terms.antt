-- Document 01's answers in the terms of the public pages (specs/Pages), so that the two can be held side by side, and where they part.
-- Assumes nothing.
use Rattle.std.specs.Prelude.{ℕ, ◌+◌, ◌-◌, ◌*◌, ◌%◌, ◌≤◌, ◌<◌, ◌≡◌, Bool, true, false, cond, not, ◌&&◌, ◌||◌, List, [], ◌∷◌, leb, get_or, Option, Some, None}
use Rattle.machine.specs.declared.ZXMachine.{ZXMachine}
use Rattle.machine.specs.declared.ZXMachine.TheVariants.{Sinclair48K, Sinclair128K}
use Rattle.machine.specs.declared.ZXSpecs.{ZXSpecs}
use Rattle.machine.specs.Numbers.{specs_of}
use Rattle.machine.specs.Timing.{first_column, block_position}
use Rattle.machine.specs.Pages.{Page}
use Rattle.ports.specs.declared.Device.{Device}
use Rattle.ports.specs.declared.Device.TheVariants.{Absent, Present}
use Rattle.ports.specs.declared.Fetched.{Fetched}
use Rattle.ports.specs.declared.Fetched.TheVariants.{Bitmap, Attribute}
use Rattle.ports.specs.Order.{ay_byte}
use Rattle.ports.specs.Hearers.{Hearer, extender, ay_select, ay_write, border, paging}
use Rattle.ports.specs.Floating.{floating_place, floating_address}
use Rattle.ports.specs.Pages.{is_set, has_paging, Heard, Answerer, ula, register, nobody, Fetch, idle, bitmap_byte, attribute_byte, page_floating, bitmap_at, attribute_at, Seen, nothing, byte_of}

-- ---- writes
-- who of the pages' devices hears a write by document 01: the extender is none of them
abbrev pub with_hearer : Hearer → Heard → Heard
with_hearer extender x = x
with_hearer ay_select x = record { border = x.border; paging = x.paging; select = true; writes = x.writes }
with_hearer ay_write x = record { border = x.border; paging = x.paging; select = x.select; writes = true }
with_hearer border x = record { border = true; paging = x.paging; select = x.select; writes = x.writes }
with_hearer paging x = record { border = x.border; paging = true; select = x.select; writes = x.writes }

abbrev pub heard_by : List Hearer → Heard
heard_by [] = record { border = false; paging = false; select = false; writes = false }
heard_by (h ∷ hs) = with_hearer h (heard_by hs)

-- the ports at which a write parts from the pages: A1 is reset, and either A15 is set and the port is even or no AY is fitted, or A15 is reset,
-- the port is even and the machine pages
abbrev pub write_parts : ZXMachine → Bool → ℕ → Bool
write_parts m fitted port =
    not (is_set 1 port) && cond (is_set 15 port) (not (is_set 0 port) || not fitted) (not (is_set 0 port) && has_paging m)

-- ---- reads
abbrev pub is_fitted : Device ℕ → Bool
is_fitted Absent = false
is_fitted (Present byte) = true

-- what is read where the pages' device answers: the keys' byte, the AY's, or the floating bus
abbrev pub as_answer : Device ℕ → ℕ → Answerer → Option ℕ
as_answer a keys ula = Some keys
as_answer a keys register = ay_byte a
as_answer a keys nobody = None

-- ---- the floating bus
-- the pages' fetch as document 01's place
abbrev pub as_place : Fetch → Option Fetched
as_place idle = None
as_place (bitmap_byte row column) = Some (Bitmap row column)
as_place (attribute_byte row column) = Some (Attribute row column)

-- the RAM page at 4000h, which is block 1: "48K blocks 1 to 3 are RAM 0, 1, 2. On 128K they are RAM 5, 2 and .."
abbrev pub page_at4000 : ZXMachine → ℕ
page_at4000 Sinclair48K = 0
page_at4000 Sinclair128K = 5

abbrev pub seen_at : ℕ → Option ℕ → Seen
seen_at page None = nothing
seen_at page (Some a) = byte_of page (a - 0x4000)

-- "the floating bus always reads through 4000h": the shown page has no part in it
abbrev pub document_seen : ZXMachine → ℕ → Seen
document_seen m t = seen_at (page_at4000 m) (floating_address (floating_place (specs_of m) t))

-- ---- when the two bytes of a block are taken
-- Document 01 takes bitmap and attribute of a block together, in the catch-up that reaches it: from this clock on, four a column.
abbrev pub block_clock : ZXSpecs → ℕ → ℕ → ℕ
block_clock s row column = s.block + row * s.line + 4 * column

-- What that clock and the pages' two T-states have to do with each other, of a line and a column of the picture. They are the same for the
-- bitmap bytes of even columns and for no other byte: an even column's attribute is fetched one T-state after 01 has taken it, an odd column's
-- bitmap byte two before and its attribute one before.
pub record Parted (p : Page) (s : ZXSpecs) (row column : ℕ) : Type 0 where
  pub reached : (t : ℕ) → leb (32 * row + column + 1) (block_position s t) ≡ leb (block_clock s row column) t
  pub even_bitmap : column % 2 ≡ 0 → bitmap_at p row column ≡ block_clock s row column
  pub even_attribute : column % 2 ≡ 0 → attribute_at p row column ≡ block_clock s row column + 1
  pub odd_bitmap : column % 2 ≡ 1 → bitmap_at p row column + 2 ≡ block_clock s row column
  pub odd_attribute : column % 2 ≡ 1 → attribute_at p row column + 1 ≡ block_clock s row column

-- ---- why the Z80 is held (02, Q-6): "which column was being fetched when the Z80 was held"
-- eight clocks of a line and two columns of it, in the pages' order: bitmap, attribute, bitmap, attribute. The eight that the delays count begin
-- three clocks before the first of the four fetches.
abbrev pub eight_clocks : ℕ → ℕ → List Fetch
eight_clocks line column =
    idle ∷ idle ∷ idle
    ∷ bitmap_byte line column ∷ attribute_byte line column ∷ bitmap_byte line (column + 1) ∷ attribute_byte line (column + 1)
    ∷ idle ∷ []

-- WHAT "HELD" SAYS OF THE ULA at the clock it was asked at: in the eight clocks from x - x mod 8 on the ULA fetches columns 2 x (x / 8) and the next;
-- a Z80 that is held goes on at the clock of the last of their four fetches; and one that is not held has come at that clock or behind it.
pub record Fetching (p : Page) (clock line x clocks : ℕ) : Type 0 where
  pub columns : (k : ℕ) → k < 8 → page_floating p (clock - x % 8 + k) ≡ get_or (eight_clocks line (first_column x)) k idle
  pub goes_on : 0 < clocks → clock + clocks ≡ attribute_at p line (first_column x + 1)
  pub not_held : clocks ≡ 0 → attribute_at p line (first_column x + 1) ≤ clock
