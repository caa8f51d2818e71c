-- A number and its bytes, low byte first: what is put together again is the number, and what is taken apart again are the bytes.
-- Assumes nothing.
use Prim.Native.Nat.{ℕ, ◌+◌, ◌*◌, ◌/◌, ◌%◌, ◌^◌, ◌<◌}
use mathlib.Core.Path.{◌≡◌}
use native.Mathlib.Omega.{arith}

-- two bytes
pub word_back : (n : ℕ) → n < 2 ^ 16 → n % 256 + 256 * (n / 256 % 256) ≡ n
word_back n h = omega arith

pub word_low : (a b : ℕ) → a < 256 → (a + 256 * b) % 256 ≡ a
word_low a b h = omega arith

pub word_high : (a b : ℕ) → a < 256 → b < 256 → (a + 256 * b) / 256 % 256 ≡ b
word_high a b h k = omega arith

-- four bytes, by the chain of quotients
low : (n : ℕ) → n ≡ n / 256 * 256 + n % 256
low n = omega arith

chain : (n q r t a b c d : ℕ) → n ≡ q * 256 + a → q ≡ r * 256 + b → r ≡ t * 256 + c → d ≡ t → a + 256 * b + 65536 * c + 16777216 * d ≡ n
chain n q r t a b c d e f g h = omega arith

top : (n : ℕ) → n < 2 ^ 32 → n / 256 / 256 / 256 % 256 ≡ n / 256 / 256 / 256
top n h = omega arith

pub long_back : (n : ℕ) → n < 2 ^ 32
    → n % 256 + 256 * (n / 256 % 256) + 65536 * (n / 256 / 256 % 256) + 16777216 * (n / 256 / 256 / 256 % 256) ≡ n
long_back n h = chain n (n / 256) (n / 256 / 256) (n / 256 / 256 / 256) _ _ _ _ (low n) (low (n / 256)) (low (n / 256 / 256)) (top n h)

-- the four bytes of a number that was put together from them
module _ (a b c d : ℕ) (ha : a < 256) (hb : b < 256) (hc : c < 256) (hd : d < 256) where
  abbrev n : ℕ
  n = a + 256 * b + 65536 * c + 16777216 * d

  pub long_1 : n % 256 ≡ a
  long_1 = omega arith

  pub long_2 : n / 256 % 256 ≡ b
  long_2 = omega arith

  pub long_3 : n / 256 / 256 % 256 ≡ c
  long_3 = omega arith

  pub long_4 : n / 256 / 256 / 256 % 256 ≡ d
  long_4 = omega arith
