-- The pixel rule on bytes is what the attribute gives, in the Rust's own steps: from_byte, active_color, brightness.
-- Assumes nothing.
use mathlib.Core.Path.{◌≡◌, refl}
use mathlib.Core.Bool.{Bool, true, false, cond, ◌&&◌, xor}
use Prim.Native.Nat.{ℕ, ◌+◌, ◌-◌, ◌/◌, ◌%◌, ◌<◌}
use native.Mathlib.Omega.{arith}
use Rattle.screen.specs.Colour.{bit, colour_of, attribute_of, active_color}
use Rattle.screen.specs.Pixel.{ink_of, paper_of, pixel_of, pixel_byte}
use Rattle.screen.specs.declared.ZXColor.{ZXColor}
use Rattle.screen.specs.declared.ZXBrightness.TheVariants.{Normal, Bright}
use Rattle.screen.proofs.RoundTrips.{number_then_colour}

byte : (bright : Bool) (n : ℕ) → n < 8 → n + cond bright 8 0 ≡ pixel_byte (colour_of n) (cond bright Bright Normal)
byte true n h = rw (number_then_colour n (omega arith)).1
byte false n h = rw (number_then_colour n (omega arith)).1 (omega arith)

picks : (t : Bool) {x y : ℕ} (c d : ZXColor) (bright : Bool) → x ≡ pixel_byte c (cond bright Bright Normal) → y ≡ pixel_byte d (cond bright Bright Normal)
    → cond t x y ≡ pixel_byte (cond t c d) (cond bright Bright Normal)
picks true c d bright p q = p
picks false c d bright p q = q

-- A pixel of the picture, as a byte, is the byte of the colour that the Rust's attribute makes active for its bit, in its brightness.
pub pixel_of_attribute : (attr bitmap : ℕ) (flash : Bool) (i : ℕ)
    → pixel_of attr bitmap flash i ≡ pixel_byte (active_color (attribute_of attr) (bit (7 - i) bitmap) flash) (attribute_of attr).brightness
pixel_of_attribute attr bitmap flash i =
    picks (xor (bit (7 - i) bitmap) (bit 7 attr && flash)) (colour_of (attr % 8)) (colour_of (attr / 8 % 8)) (bit 6 attr)
    (byte (bit 6 attr) (attr % 8) (omega arith)) (byte (bit 6 attr) (attr / 8 % 8) (omega arith))

-- "attribute 47h gives pixels 15 and 8": its ink and its paper
pub attribute_47h : (ink_of 0x47 ≡ 15) × (paper_of 0x47 ≡ 8)
attribute_47h = (refl, refl)
