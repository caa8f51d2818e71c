-- Shifts and masks and the line rule agree: each mask keeps one run of digits, and the runs do not overlap.
-- Assumes nothing.
use mathlib.Core.Path.{◌≡◌}
use Prim.Native.Nat.{ℕ, ◌+◌, ◌*◌, ◌/◌, ◌%◌, ◌^◌, ◌<◌}
use native.Mathlib.Omega.{arith}
use native.Mathlib.Nat.{add-zero}
use lib.Pow.{pow_pos}
use lib.Bits.{bit_and, bit_or, and_mask, and_high, and_block, or_block, or_shifted, or_zero_r}
use Rattle.offsets.specs.Offset.{offset_of}
use Rattle.paint.proofs.offset.Goals as goal

-- what the code computes
abbrev coded : ℕ → ℕ
coded k = bit_or (bit_or (bit_and k 0x181F) (bit_and (k * 8 % 2 ^ 64) 0x700)) (bit_and (k / 8) 0xE0)

-- bits 12 and 11, and the column
ends : (k : ℕ) → k < 8192 → bit_and k 0x181F ≡ k / 2048 * 2048 + k % 32
ends k h =
    let e : k / 2048 * 2048 + k % 2048 ≡ k = omega arith in
    let a : k / 2048 % 4 ≡ k / 2048 = omega arith in
    let b : k % 2048 % 32 ≡ k % 32 = omega arith in
    rw (e, and_mask (k / 2048) 2, and_mask (k % 2048) 5, a, b) at (and_block 11 (k / 2048) 3 (k % 2048) 31 (omega arith) (omega arith))

-- three digits more below `a`, with x below them
put : (k a b x : ℕ) → b < 8 → x < 2 ^ k → bit_or (a * 8 * 2 ^ k + x) (b * 2 ^ k) ≡ (a * 8 + b) * 2 ^ k + x
put k a b x hb hx = rw (add-zero, or_shifted a 3 b hb, or_zero_r) at (or_block k (a * 8) b x 0 hx (pow_pos k))

side_by_side : (a b c x : ℕ) → b < 8 → c < 8 → x < 32 → bit_or (bit_or (a * 2048 + x) (b * 256)) (c * 32) ≡ a * 2048 + b * 256 + c * 32 + x
side_by_side a b c x hb hc hx =
    let e : a * 2048 + x ≡ a * 8 * 256 + x = omega arith in
    let f : (a * 8 + b) * 256 + x ≡ (a * 8 + b) * 8 * 32 + x = omega arith in
    rw (e, put 8 a b x hb (omega arith), f, put 5 (a * 8 + b) c x hc hx) (omega arith)

right : (k : ℕ) → k < 6144 → coded k ≡ offset_of k
right k h =
    let third : k / 2048 ≡ k / 32 / 64 = omega arith in
    let line : k * 8 % 2 ^ 64 / 256 % 8 ≡ k / 32 % 8 = omega arith in
    let row : k / 8 / 32 % 8 ≡ k / 32 / 8 % 8 = omega arith in
    rw (ends k (omega arith), and_high (k * 8 % 2 ^ 64) 3 8, and_high (k / 8) 3 5, third, line, row)
    (side_by_side (k / 32 / 64) (k / 32 % 8) (k / 32 / 8 % 8) (k % 32) (omega arith) (omega arith) (omega arith))

pub returns : goal.returns
returns c = right c.args.k c.requires
