-- A bit of an AND and of a toggled byte, and a bit that is not 1.
-- Assumes nothing.
use Prim.Native.Nat.{ℕ, zero, suc, ◌/◌, ◌%◌, ◌^◌, ◌<◌}
use mathlib.Core.Path.{◌≡◌, refl, ap, ◌∙◌}
use mathlib.Core.Bool.{not, cond, ◌&&◌}
use native.Mathlib.Omega.{arith}
use lib.Dec.{eqb}
use lib.Bits.{bit_and, bit_xor, and_shr, and_mod}
use Rattle.laws.proofs.Below.{same_test}
use Rattle.ports.specs.Pages.{is_set}

-- a binary digit is 0 exactly when it is not 1
digit_off : (x : ℕ) → x < 2 → eqb x 0 ≡ not (eqb x 1)
digit_off zero h = refl
digit_off (suc zero) h = refl
digit_off (suc (suc x)) h = let z : ⊥ = omega arith in absurd z

pub bit_off : (k n : ℕ) → eqb (n / 2 ^ k % 2) 0 ≡ not (is_set k n)
bit_off k n = digit_off (n / 2 ^ k % 2) (omega arith)

digits_and : (x y : ℕ) → x < 2 → y < 2 → eqb (bit_and x y) 1 ≡ (eqb x 1 && eqb y 1)
digits_and zero zero h g = refl
digits_and zero (suc zero) h g = refl
digits_and (suc zero) zero h g = refl
digits_and (suc zero) (suc zero) h g = refl
digits_and zero (suc (suc y)) h g = let z : ⊥ = omega arith in absurd z
digits_and (suc zero) (suc (suc y)) h g = let z : ⊥ = omega arith in absurd z
digits_and (suc (suc x)) y h g = let z : ⊥ = omega arith in absurd z

-- bit k of an AND is the AND of the bits
pub bit_and_lem : (k a b : ℕ) → is_set k (bit_and a b) ≡ (is_set k a && is_set k b)
bit_and_lem k a b =
    ap (λ (x : ℕ). eqb (x % 2) 1) (and_shr a b k)
    ∙ ap (λ (x : ℕ). eqb x 1) (and_mod (a / 2 ^ k) (b / 2 ^ k) 1)
    ∙ digits_and (a / 2 ^ k % 2) (b / 2 ^ k % 2) (omega arith) (omega arith)

-- a byte XOR 40h has bit 6 the other way round and every other bit as it was
pub toggles : (v b : ℕ) → v < 256 → b < 8 → is_set b (bit_xor v 0x40) ≡ cond (eqb b 6) (not (is_set b v)) (is_set b v)
toggles =
    same_test (λ v b. is_set b (bit_xor v 0x40)) (λ v b. cond (eqb b 6) (not (is_set b v)) (is_set b v)) 256 8 tt
