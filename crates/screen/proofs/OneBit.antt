-- One bit of a number under a mask, and of a byte turned over.
-- Assumes nothing.
use mathlib.Core.Path.{◌≡◌, refl}
use mathlib.Core.Bool.{not}
use Prim.Native.Nat.{ℕ, zero, suc, ◌+◌, ◌-◌, ◌*◌, ◌/◌, ◌%◌, ◌^◌, ◌<◌}
use native.Mathlib.Nat.{pow-suc, zero-mul, one-mul}
use lib.Pow.{pow_pos}
use native.Mathlib.Omega.{arith}
use lib.Dec.{eqb}
use lib.Bits.{bit_and, bit_xor, and_high, xor_shr, xor_mod}
use borrow.Author.Tests.{ne_eqb}
use Rattle.laws.proofs.Below.{same}
use Rattle.screen.specs.Colour.{bit}

digit : (x m : ℕ) → x < 2 → 0 < m → eqb (x * m) 0 ≡ not (eqb x 1)
digit zero m h p = rw (zero-mul m)
digit (suc zero) m h p = rw (one-mul m) (ne_eqb m 0 (λ (e : m ≡ 0). omega arith))
digit (suc (suc x)) m h p = absurd (omega arith)

masked : (n k : ℕ) → bit_and n (2 ^ k) ≡ n / 2 ^ k % 2 * 2 ^ k
masked n k =
    let s : 1 + k ≡ suc k = omega arith in
    let d : 2 ^ (1 + k) ≡ 2 ^ k * 2 = rw s (pow-suc 2 k) in
    let e : 2 ^ (1 + k) - 2 ^ k ≡ 2 ^ k = omega arith in
    rw e at (and_high n 1 k)

-- the mask of bit k finds nothing exactly where bit k is 0
pub mask_bit : (k n : ℕ) → eqb (bit_and n (2 ^ k)) 0 ≡ not (bit k n)
mask_bit k n = rw (masked n k) (digit (n / 2 ^ k % 2) (2 ^ k) (omega arith) (pow_pos k))

over : (x : ℕ) → x < 2 → eqb (bit_xor x 1) 1 ≡ not (eqb x 1)
over zero h = refl
over (suc zero) h = refl
over (suc (suc x)) h = absurd (omega arith)

-- a byte that is turned over has the other bit at each place
pub bit_over : (k n : ℕ) → k < 8 → bit k (bit_xor n 255) ≡ not (bit k n)
bit_over k n h =
    let one : 255 / 2 ^ k % 2 ≡ 1 = same (λ j. 255 / 2 ^ j % 2) (λ j. 1) 8 tt k h in
    rw (xor_shr n 255 k, xor_mod (n / 2 ^ k) (255 / 2 ^ k) 1, one) (over (n / 2 ^ k % 2) (omega arith))
