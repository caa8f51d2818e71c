-- Document 01: lengths of what is lent, and the longest wait, the same on every machine.
-- Assumes nothing.
use Rattle.std.specs.Prelude.{ℕ}

-- "two pictures A and B of 49,152 bytes (256 x 192, one byte a pixel ..)"
abbrev pub picture_length : ℕ
picture_length = 49152

-- "the border of 76,800 bytes (320 x 240 ..)"
abbrev pub border_length : ℕ
border_length = 76800

-- "16,384 lent bytes into a RAM page"; a page of ROM and a block of addresses are as long
abbrev pub page_length : ℕ
page_length = 16384

-- "a wait above 65,535 clocks"
abbrev pub longest_wait : ℕ
longest_wait = 65535
