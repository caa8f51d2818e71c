use Prim.Native.Nat.{ℕ, ◌+◌, ◌*◌, ◌%◌}
use lib.Bits.{bit_and, bit_or}
use Rattle.laws.proofs.Below.{same}
use Rattle.offsets.specs.Offset.{line_start}
use Rattle.ports.proofs.line_address.Goals as goal

-- what the masks and shifts build, compared with the rule at each of the 256 bytes
built : ℕ → ℕ
built y = bit_or (bit_or (bit_or (bit_and y 0xC0 * 32 % 65536) (bit_and y 0x07 * 256 % 65536)) (bit_and y 0x38 * 4 % 65536)) 0x4000

pub returns : goal.returns
unfolding built
returns c = same built (λ y. 0x4000 + line_start y) 256 tt c.args.y c.requires
