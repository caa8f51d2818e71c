-- Two products put x into the byte of each bit that is 1 and y into the others: the sum is the packed number, and its bytes come out again.
-- Assumes nothing.
use mathlib.Core.Path.{◌≡◌, refl, ap, ap₂, ◌∙◌}
use mathlib.Core.Bool.{Bool, true, false, cond}
use mathlib.Core.List.{List, [], ◌∷◌}
use Prim.Native.Nat.{ℕ, ◌+◌, ◌-◌, ◌*◌, ◌/◌, ◌%◌, ◌^◌, ◌<◌, ◌≤◌}
use native.Mathlib.Nat.{pow-suc, add-mul, mul_assoc}
use native.Mathlib.Omega.{arith}
use lib.ListN.{length}
use Rattle.screen.specs.Packed.{bits_of, packed, bytes_of}

-- a 1 in each of eight bytes, as the code writes it
abbrev pub full : ℕ
full = 0x0101010101010101

-- a 1 in a byte for each bit
abbrev ones : List Bool → ℕ
ones [] = 0
ones (t ∷ ts) = 1 + 256 * ones ts

-- what the bits pick of two numbers
abbrev pub picked : ℕ → ℕ → List Bool → List ℕ
picked x y [] = []
picked x y (t ∷ ts) = cond t x y ∷ picked x y ts

scaled : (d n x : ℕ) → (d + 256 * n) * x ≡ d * x + 256 * (n * x)
scaled d n x = rw (add-mul d (256 * n) x, mul_assoc 256 n x)

one_each : (t : Bool) → cond t 1 0 + cond t 0 1 ≡ 1
one_each true = refl
one_each false = refl

both : (ts : List Bool) → packed 1 0 ts + packed 0 1 ts ≡ ones ts
unfolding packed
both [] = refl
both (t ∷ ts) = omega (arith, one_each t, both ts)

module _ (x y : ℕ) where
  picks : (t : Bool) → cond t 1 0 * x + cond t 0 1 * y ≡ cond t x y
  picks true = omega arith
  picks false = omega arith

  sum : (ts : List Bool) → packed 1 0 ts * x + packed 0 1 ts * y ≡ packed x y ts
  unfolding packed
  sum [] = omega arith
  sum (t ∷ ts) = omega (arith, scaled (cond t 1 0) (packed 1 0 ts) x, scaled (cond t 0 1) (packed 0 1 ts) y, picks t, sum ts)

module _ {x y : ℕ} (hx : x < 256) (hy : y < 256) where
  pick_lt : (t : Bool) → cond t x y < 256
  pick_lt true = hx
  pick_lt false = hy

  packed_lt : (ts : List Bool) → packed x y ts < 256 ^ length ts
  unfolding packed
  packed_lt [] = omega arith
  packed_lt (t ∷ ts) = omega (arith, pow-suc 256 (length ts), pick_lt t, packed_lt ts)

  bytes_packed : (ts : List Bool) → bytes_of (length ts) (packed x y ts) ≡ picked x y ts
  unfolding packed
  bytes_packed [] = refl
  bytes_packed (t ∷ ts) =
      let d : cond t x y < 256 = pick_lt t in
      let high : (cond t x y + 256 * packed x y ts) / 256 ≡ packed x y ts = omega arith in
      let low : (cond t x y + 256 * packed x y ts) % 256 ≡ cond t x y = omega arith in
      ap₂ ◌∷◌ low (ap (bytes_of (length ts)) high ∙ bytes_packed ts)

-- What the code does: m has a 1 in the byte of each bit of b that is 1.
module _ (b i p m : ℕ) (hm : m ≡ packed 1 0 (bits_of b)) (hi : i < 256) (hp : p < 256) where
  rest : full - m ≡ packed 0 1 (bits_of b)
  rest = omega (arith, both (bits_of b))

  pub mask_le : m ≤ full
  mask_le = omega (arith, both (bits_of b))

  mixed : m * i + (full - m) * p ≡ packed i p (bits_of b)
  mixed = rw (rest, hm) (sum i p (bits_of b))

  pub mixed_lt : m * i + (full - m) * p < 2 ^ 64
  mixed_lt = rw mixed (packed_lt hi hp (bits_of b))

  pub ink_lt : m * i < 2 ^ 64
  ink_lt = omega (arith, mixed_lt)

  pub mixed_bytes : bytes_of 8 (m * i + (full - m) * p) ≡ picked i p (bits_of b)
  mixed_bytes = ap (bytes_of 8) mixed ∙ bytes_packed hi hp (bits_of b)
