-- A refused answer is zeros behind a number.
-- Assumes nothing.
use Prim.Native.Nat.{ℕ, zero, suc, ◌-◌, ◌<◌}
use mathlib.Core.Path.{◌≡◌}
use mathlib.Core.List.{◌∷◌}
use native.Mathlib.Omega.{arith}
use native.Mathlib.Nat.{not-suc-le-zero}
use lib.ListN.{replicate, set}

pub headed : (size n : ℕ) → 0 < size → set (replicate size 0) 0 n ≡ n ∷ replicate (size - 1) 0
headed zero n h = absurd (not-suc-le-zero h)
headed (suc k) n h = let e : suc k - 1 ≡ k = omega arith in rw e
