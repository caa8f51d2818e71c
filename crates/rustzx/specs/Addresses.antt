-- rustzx-core/src/utils/screen.rs.
-- Assumes nothing.
use Rattle.std.specs.Prelude.{ℕ, ◌-◌, ◌*◌, ◌/◌, ◌%◌, Bool, ◌&&◌, ltb, leb}
use Rattle.std.specs.Int.Bits.{bit_and, bit_or}
use Rattle.rustzx.specs.Panics.{OrPanic, done, assert}

-- constants.rs
abbrev pub canvas_height : ℕ
canvas_height = 192

abbrev pub attr_base_rel : ℕ
attr_base_rel = 0x1800

abbrev pub attr_max_rel : ℕ
attr_max_rel = 0x1AFF

abbrev pub attr_cols : ℕ
attr_cols = 32

-- fn bitmap_line_addr: (0x4000 | (line << 5) & 0x1800 | (line << 8) & 0x0700 | (line << 2) & 0x00E0) as u16
abbrev pub line_addr : ℕ → ℕ
line_addr line = bit_or (bit_or (bit_or 0x4000 (bit_and (line * 32) 0x1800)) (bit_and (line * 256) 0x0700)) (bit_and (line * 4) 0x00E0)

unfoldable pub bitmap_line_addr : ℕ → OrPanic ℕ
bitmap_line_addr line = assert (ltb line canvas_height) (done (line_addr line))

-- addr.to_le_bytes()
abbrev pub low : ℕ → ℕ
low addr = addr % 256

abbrev pub high : ℕ → ℕ
high addr = addr / 256

-- fn bitmap_line_rel: (h & 0x07) | ((l >> 2) & 0x38) | ((h << 3) & 0xC0), in eight bits
abbrev pub line_rel : ℕ → ℕ
line_rel addr = bit_or (bit_or (bit_and (high addr) 0x07) (bit_and (low addr / 4) 0x38)) (bit_and (high addr * 8 % 256) 0xC0)

unfoldable pub bitmap_line_rel : ℕ → OrPanic ℕ
bitmap_line_rel addr = assert (ltb addr attr_base_rel) (done (line_rel addr))

-- fn bitmap_col_rel
unfoldable pub bitmap_col_rel : ℕ → OrPanic ℕ
bitmap_col_rel addr = assert (ltb addr attr_base_rel) (done (bit_and (low addr) 0x1F))

-- (ATTR_BASE_REL..=ATTR_MAX_REL).contains(&addr)
abbrev pub in_attributes : ℕ → Bool
in_attributes addr = leb attr_base_rel addr && leb addr attr_max_rel

-- fn attr_row_rel
unfoldable pub attr_row_rel : ℕ → OrPanic ℕ
attr_row_rel addr = assert (in_attributes addr) (done ((addr - attr_base_rel) / attr_cols))

-- fn attr_col_rel
unfoldable pub attr_col_rel : ℕ → OrPanic ℕ
attr_col_rel addr = assert (in_attributes addr) (done ((addr - attr_base_rel) % attr_cols))
