-- Eight pixels in one number, as the code works on them.
-- Assumes nothing.
use Rattle.std.specs.Prelude.{ℕ, zero, suc, ◌+◌, ◌*◌, ◌/◌, ◌%◌, Bool, cond, List, [], ◌∷◌}
use Rattle.screen.specs.Colour.{bit}

-- the bits of a byte, the highest first
abbrev pub bits_of : ℕ → List Bool
bits_of b = bit 7 b ∷ bit 6 b ∷ bit 5 b ∷ bit 4 b ∷ bit 3 b ∷ bit 2 b ∷ bit 1 b ∷ bit 0 b ∷ []

-- a number that has a byte for each bit, the first the lowest: x where the bit is 1, y where it is 0
unfoldable pub packed : ℕ → ℕ → List Bool → ℕ
packed x y [] = 0
packed x y (t ∷ ts) = cond t x y + 256 * packed x y ts

-- the lowest n bytes of a number, the lowest first
abbrev pub bytes_of : ℕ → ℕ → List ℕ
bytes_of zero w = []
bytes_of (suc n) w = w % 256 ∷ bytes_of n (w / 256)
