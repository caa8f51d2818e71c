-- The line rule and the pages' address bits are one layout: antt computes both at each line, and the column is added to both.
-- Assumes nothing.
use mathlib.Core.Path.{◌≡◌, sym, ◌∙◌, ap}
use Prim.Native.Nat.{ℕ, ◌+◌, ◌/◌, ◌%◌, ◌<◌}
use native.Mathlib.Omega.{arith}
use Rattle.laws.proofs.Below.{same}
use Rattle.offsets.specs.Offset.{line_start, offset_of, attribute_start}
use Rattle.offsets.specs.Pages.{display_address, colour_address}

line_bits : (y : ℕ) → y < 256 → display_address y 0 ≡ 0x4000 + line_start y
line_bits = same (λ y. display_address y 0) (λ y. 0x4000 + line_start y) 256 tt

colour_bits_lem : (y : ℕ) → y < 256 → colour_address y 0 ≡ 0x5800 + attribute_start y
colour_bits_lem = same (λ y. colour_address y 0) (λ y. 0x5800 + attribute_start y) 256 tt

plus_zero : (n : ℕ) → n + 0 ≡ n
plus_zero n = omega arith

-- a byte of the bitmap, at any line and column
pub agree_bitmap : (y x : ℕ) → y < 256 → display_address y x ≡ 0x4000 + line_start y + x
agree_bitmap y x h = ap (λ (a : ℕ). a + x) (sym (plus_zero _) ∙ line_bits y h)

-- an attribute, at any line and column
pub agree_attribute : (y x : ℕ) → y < 256 → colour_address y x ≡ 0x5800 + attribute_start y + x
agree_attribute y x h = ap (λ (a : ℕ). a + x) (sym (plus_zero _) ∙ colour_bits_lem y h)

-- so each of the 6,144 raster blocks has its bitmap byte where the pages have it
pub agree_block : (k : ℕ) → k < 6144 → display_address (k / 32) (k % 32) ≡ 0x4000 + offset_of k
agree_block k h =
    let e : 0x4000 + line_start (k / 32) + k % 32 ≡ 0x4000 + offset_of k = omega arith in
    agree_bitmap (k / 32) (k % 32) (omega arith) ∙ e
