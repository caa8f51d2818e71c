-- The display file and the attribute file in the words of the public reference pages: by the single bits of line y and column x.
-- Assumes nothing.
use Rattle.std.specs.Prelude.{ℕ, ◌+◌, ◌*◌, ◌/◌, ◌%◌, ◌^◌}

-- bit k of a number
abbrev pub bit : ℕ → ℕ → ℕ
bit k n = n / 2 ^ k % 2

-- "Display file at 4000h: address bits 0 1 0 Y7 Y6 Y2 Y1 Y0 | Y5 Y4 Y3 X4 X3 X2 X1 X0."
abbrev pub display_address : ℕ → ℕ → ℕ
display_address y x =
    0x4000 + 0x1000 * bit 7 y + 0x0800 * bit 6 y + 0x0400 * bit 2 y + 0x0200 * bit 1 y + 0x0100 * bit 0 y
    + 0x0080 * bit 5 y + 0x0040 * bit 4 y + 0x0020 * bit 3 y + x

-- "Attributes at 5800h, 32 a row of eight lines": the row of eight is Y7 Y6 Y5 Y4 Y3
abbrev pub colour_address : ℕ → ℕ → ℕ
colour_address y x =
    0x5800 + 0x0200 * bit 7 y + 0x0100 * bit 6 y + 0x0080 * bit 5 y + 0x0040 * bit 4 y + 0x0020 * bit 3 y + x
