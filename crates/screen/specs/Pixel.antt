-- The pixel rule (01, Lent memory and Start, time and paint).
-- Assumes nothing.
use Rattle.std.specs.Prelude.{ℕ, ◌+◌, ◌-◌, ◌/◌, ◌%◌, Bool, cond, ◌&&◌, List, [], ◌∷◌}
use Rattle.std.specs.Bool.{xor}
use Rattle.screen.specs.declared.ZXColor.{ZXColor}
use Rattle.screen.specs.declared.ZXBrightness.{ZXBrightness}
use Rattle.screen.specs.declared.ZXBrightness.TheVariants.{Normal, Bright}
use Rattle.screen.specs.Colour.{bit, colour_number}

-- "one byte a pixel: colour 0..7, plus 8 if bright"
abbrev pub ink_of : ℕ → ℕ
ink_of attr = attr % 8 + cond (bit 6 attr) 8 0

abbrev pub paper_of : ℕ → ℕ
paper_of attr = attr / 8 % 8 + cond (bit 6 attr) 8 0

-- "a pixel is ink when its bit differs from (attribute flash and flash on), else paper"; pixel i of the eight, from the left, has bit 7 - i
abbrev pub pixel_of : ℕ → ℕ → Bool → ℕ → ℕ
pixel_of attr bitmap flash i = cond (xor (bit (7 - i) bitmap) (bit 7 attr && flash)) (ink_of attr) (paper_of attr)

-- the eight pixels of a block
unfoldable pub block_of : ℕ → ℕ → Bool → List ℕ
block_of attr bitmap flash =
    pixel_of attr bitmap flash 0 ∷ pixel_of attr bitmap flash 1 ∷ pixel_of attr bitmap flash 2 ∷ pixel_of attr bitmap flash 3
    ∷ pixel_of attr bitmap flash 4 ∷ pixel_of attr bitmap flash 5 ∷ pixel_of attr bitmap flash 6 ∷ pixel_of attr bitmap flash 7 ∷ []

-- the byte of a colour and a brightness, as a frame buffer takes them from the Rust
abbrev pub pixel_byte : ZXColor → ZXBrightness → ℕ
pixel_byte colour Normal = colour_number colour
pixel_byte colour Bright = colour_number colour + 8
