-- The pixels that the lit bits of a block pick are those of the pixel rule.
-- Assumes nothing.
use mathlib.Core.Path.{◌≡◌, refl, ◌∙◌}
use mathlib.Core.Bool.{Bool, true, false, cond, ◌&&◌, xor, not}
use mathlib.Core.List.{List}
use Prim.Native.Nat.{ℕ, ◌+◌, ◌-◌, ◌*◌, ◌<◌}
use lib.Dec.{lit<}
use lib.Bits.{bit_xor}
use Rattle.screen.specs.Colour.{bit}
use Rattle.screen.specs.Pixel.{ink_of, paper_of, block_of}
use Rattle.screen.specs.Packed.{bits_of, packed, bytes_of}
use Rattle.screen.proofs.OneBit.{bit_over}
use Rattle.screen.proofs.Packed.{full, picked, mixed_bytes}

turned : (t : Bool) → not t ≡ xor t true
unfolding xor
turned true = refl
turned false = refl

straight : (t : Bool) → t ≡ xor t false
unfolding xor
straight true = refl
straight false = refl

lit_bit : (bitmap : ℕ) (t : Bool) (k : ℕ) → k < 8 → bit k (cond t (bit_xor bitmap 255) bitmap) ≡ xor (bit k bitmap) t
lit_bit bitmap true k h = bit_over k bitmap h ∙ turned (bit k bitmap)
lit_bit bitmap false k h = straight (bit k bitmap)

shown : (attr bitmap : ℕ) (flash : Bool)
    → picked (ink_of attr) (paper_of attr) (bits_of (cond (bit 7 attr && flash) (bit_xor bitmap 255) bitmap)) ≡ block_of attr bitmap flash
unfolding block_of
shown attr bitmap flash =
    let is = lit_bit bitmap (bit 7 attr && flash) in
    cc (is 0 (lit< tt), is 1 (lit< tt), is 2 (lit< tt), is 3 (lit< tt), is 4 (lit< tt), is 5 (lit< tt), is 6 (lit< tt), is 7 (lit< tt))

-- the eight bytes that the code makes
pub block_bytes : (attr bitmap : ℕ) (flash : Bool) (b i p m : ℕ) (r : List ℕ) → i ≡ ink_of attr → p ≡ paper_of attr → i < 256 → p < 256
    → b ≡ cond (bit 7 attr && flash) (bit_xor bitmap 255) bitmap → m ≡ packed 1 0 (bits_of b)
    → r ≡ bytes_of 8 (m * i + (full - m) * p) → r ≡ block_of attr bitmap flash
block_bytes attr bitmap flash b i p m r ei ep hi hp eb em er =
    er ∙ mixed_bytes b i p m em hi hp ∙ rw (ei, ep, eb) (shown attr bitmap flash)
