-- antt computes both sides at each of the 256 bytes.
-- Assumes nothing.
use Prim.Native.Nat.{ℕ, ◌+◌, ◌*◌, ◌/◌, ◌%◌, ◌^◌, ◌<◌}
use mathlib.Core.Path.{◌≡◌}
use lib.Bits.{bit_and}
use Rattle.laws.proofs.Below.{same}
use Rattle.screen.specs.Packed.{bits_of, packed}
use Rattle.screen.proofs.spread.Goals as goal

-- what the code computes
abbrev coded : ℕ → ℕ
coded b = bit_and ((b * 0x0040201008040201 + b * 2 ^ 63 % 2 ^ 64) / 128) 0x0101010101010101

right : (b : ℕ) → b < 256 → coded b ≡ packed 1 0 (bits_of b)
unfolding packed
right = same coded (λ b. packed 1 0 (bits_of b)) 256 tt

pub returns : goal.returns
returns c = rw c.from-b.ensures (right c.args.byte c.ranges.byte.fits)
