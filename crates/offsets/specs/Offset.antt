-- "Each block's bitmap byte is found by a constant table of 6,144 page offsets, proved against the line rule." (01, Start, time and paint)
-- Assumes nothing.
use Rattle.std.specs.Prelude.{◌≡◌, List, ℕ, ◌+◌, ◌*◌, ◌/◌, ◌%◌, ◌<◌, get_or}

-- The line rule: where picture line 0..191 starts, counted from the start of its page. The bitmap has three thirds of 64 lines, 2,048
-- bytes each. In a third line y stands at 256 x (y mod 8) + 32 x (y / 8): address bits Y7 Y6 | Y2 Y1 Y0 | Y5 Y4 Y3 | X4 X3 X2 X1 X0.
abbrev pub line_start : ℕ → ℕ
line_start line = line / 64 * 2048 + line % 8 * 256 + line / 8 % 8 * 32

-- raster block k is column k mod 32 of line k / 32, and has one byte of the bitmap
abbrev pub offset_of : ℕ → ℕ
offset_of k = line_start (k / 32) + k % 32

-- a table of the offsets, by raster block
unfoldable pub IsTable : List ℕ → Type 0
IsTable t = (k : ℕ) → k < 6144 → get_or t k 0 ≡ offset_of k

-- where the attributes of a line's row start, counted from the first attribute: 32 for a row of eight lines
abbrev pub attribute_start : ℕ → ℕ
attribute_start line = line / 8 * 32
