-- Masks and the line rule agree: antt computes both sides at each of the 192 lines.
-- Assumes nothing.
use Rattle.std.proofs.Common.{arith, ◌≡◌, ℕ, ◌<◌, ◌+◌, ◌*◌, ◌%◌, ◌^◌, bit_and, bit_or}
use Rattle.laws.proofs.Below.{same}
use Rattle.offsets.specs.Offset.{line_start}
use Rattle.screen.proofs.bitmap_line_addr.Goals as goal

-- what the code computes
abbrev coded : ℕ → ℕ
coded line = bit_or (bit_or (bit_or 0x4000 (bit_and (line * 32 % 2 ^ 32) 0x1800)) (bit_and (line * 256 % 2 ^ 32) 0x700)) (bit_and (line * 4 % 2 ^ 32) 0xE0)

right : (line : ℕ) → line < 192 → coded line ≡ 0x4000 + line_start line
right = same coded (λ line. 0x4000 + line_start line) 192 tt

pub returns : goal.returns
returns c = grind (arith, right)
