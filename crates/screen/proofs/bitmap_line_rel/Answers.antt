-- Masks and the line rule back agree: antt computes both sides at each of the 6,144 offsets.
-- Assumes nothing.
use Rattle.std.proofs.Common.{arith, ◌≡◌, ℕ, ◌<◌, ◌/◌, bit_and, bit_or}
use Rattle.laws.proofs.Below.{same}
use Rattle.screen.specs.Address.{line_of}
use Rattle.screen.proofs.bitmap_line_rel.Goals as goal

-- what the code computes
abbrev coded : ℕ → ℕ
coded a = bit_or (bit_or (bit_and (a / 256) 7) (bit_and (a / 4) 56)) (bit_and (a / 32) 192)

right : (a : ℕ) → a < 6144 → coded a ≡ line_of a
right = same coded line_of 6144 tt

pub returns : goal.returns
returns c = grind (arith, right)
