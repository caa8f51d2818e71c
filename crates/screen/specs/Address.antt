-- The five address helpers (01, Bus calls; their ranges from refusal 8). An address is counted from the start of its page, but for the
-- first helper's, which is the processor's: the page stands at 4000h. `None` stands for a number that is outside its range (refusal 8).
-- Assumes nothing.
use Rattle.std.specs.Prelude.{ℕ, ◌+◌, ◌*◌, ◌-◌, ◌/◌, ◌%◌, Bool, cond, ◌&&◌, leb, Option, Some, None}
use Rattle.offsets.specs.Offset.{line_start}

-- "line 191": picture line 0..191 starts where the line rule says
abbrev pub line_address : ℕ → Option ℕ
line_address line = cond (leb line 191) (Some (0x4000 + line_start line)) None

-- the line rule back: the third of 2,048 bytes counts 64 lines, the 32 bytes in its eighth 8 lines, the eighth of 256 bytes one
abbrev pub line_of : ℕ → ℕ
line_of addr = addr / 2048 * 64 + addr / 32 % 8 * 8 + addr / 256 % 8

-- "bitmap 17FFh": the line and the column of a bitmap byte, 32 bytes to a line
abbrev pub line_at : ℕ → Option ℕ
line_at addr = cond (leb addr 0x17FF) (Some (line_of addr)) None

abbrev pub column_at : ℕ → Option ℕ
column_at addr = cond (leb addr 0x17FF) (Some (addr % 32)) None

-- "attributes 1800h to 1AFFh": the row and the column of an attribute, 32 to a row
abbrev pub is_attribute : ℕ → Bool
is_attribute addr = leb 0x1800 addr && leb addr 0x1AFF

abbrev pub attribute_row : ℕ → Option ℕ
attribute_row addr = cond (is_attribute addr) (Some ((addr - 0x1800) / 32)) None

abbrev pub attribute_column : ℕ → Option ℕ
attribute_column addr = cond (is_attribute addr) (Some ((addr - 0x1800) % 32)) None

-- where the attribute of raster block k stands in a page: after the bitmap, one for a column of 8 lines, which are 256 blocks
abbrev pub attribute_offset : ℕ → ℕ
attribute_offset k = 0x1800 + k / 256 * 32 + k % 32
