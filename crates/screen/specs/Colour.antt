-- Colours and attributes (01, Bus calls and Lent memory; names and numbers from the Rust's video/colors.rs).
-- Assumes nothing.
use Rattle.std.specs.Prelude.{ℕ, ◌/◌, ◌%◌, ◌^◌, Bool, cond, ◌&&◌, List, [], ◌∷◌, leb, eqb, get_or, Option, Some, None}
use Rattle.std.specs.Bool.{xor}
use Rattle.screen.specs.declared.ZXColor.{ZXColor}
use Rattle.screen.specs.declared.ZXColor.TheVariants.{Black, Blue, Red, Purple, Green, Cyan, Yellow, White}
use Rattle.screen.specs.declared.ZXBrightness.{ZXBrightness}
use Rattle.screen.specs.declared.ZXBrightness.TheVariants.{Normal, Bright}
use Rattle.screen.specs.declared.ZXAttribute.{ZXAttribute}

-- the colours in the order of their numbers, 0 to 7
abbrev pub colours : List ZXColor
colours = Black ∷ Blue ∷ Red ∷ Purple ∷ Green ∷ Cyan ∷ Yellow ∷ White ∷ []

-- the colour of a number below 8
abbrev pub colour_of : ℕ → ZXColor
colour_of n = get_or colours n White

-- a colour's number
abbrev pub colour_number : ZXColor → ℕ
colour_number Black = 0
colour_number Blue = 1
colour_number Red = 2
colour_number Purple = 3
colour_number Green = 4
colour_number Cyan = 5
colour_number Yellow = 6
colour_number White = 7

-- "`ZXColor::from_bits`"; a number above "colour 7" is out of range (refusal 8)
abbrev pub from_bits : ℕ → Option ZXColor
from_bits n = cond (leb n 7) (Some (colour_of n)) None

-- bit k of a number is 1
abbrev pub bit : ℕ → ℕ → Bool
bit k n = eqb (n / 2 ^ k % 2) 1

-- an attribute byte: bits 0 to 2 ink, bits 3 to 5 paper, bit 6 bright, bit 7 flash
abbrev pub brightness_of : ℕ → ZXBrightness
brightness_of byte = cond (bit 6 byte) Bright Normal

abbrev pub attribute_of : ℕ → ZXAttribute
attribute_of byte =
    record { ink = colour_of (byte % 8); paper = colour_of (byte / 8 % 8); brightness = brightness_of byte; flash = bit 7 byte }

-- "a pixel is ink when its bit differs from (attribute flash and flash on), else paper" (01, Start, time and paint)
abbrev pub active_color : ZXAttribute → Bool → Bool → ZXColor
active_color a state flash = cond (xor state (a.flash && flash)) a.ink a.paper
