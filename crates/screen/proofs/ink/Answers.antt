-- antt computes both sides at each of the 256 attributes.
-- Assumes nothing.
use Prim.Native.Nat.{◌/◌}
use lib.Bits.{bit_and, bit_or}
use Rattle.laws.proofs.Below.{same}
use Rattle.screen.specs.Pixel.{ink_of}
use Rattle.screen.proofs.ink.Goals as goal

pub returns : goal.returns
returns c = same (λ a. bit_or (bit_and a 7) (bit_and (a / 8) 8)) ink_of 256 tt c.args.attr c.ranges.attr.fits
