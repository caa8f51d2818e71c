-- The delay worked out: document 02's "The eight delays are 6 - (x mod 8), never below 0" is document 01's table of eight, at every x.
-- A difference of natural numbers is never below 0 here: 6 - 7 is 0.
-- Assumes nothing.
use mathlib.Core.Path.{◌≡◌, refl}
use Prim.Native.Nat.{ℕ, zero, suc, ◌-◌, ◌%◌}
use native.Mathlib.Omega.{arith}
use lib.ListN.{get_or}
use Rattle.machine.specs.Timing.{pattern, entry}

entry_is : (k : ℕ) → get_or pattern k 0 ≡ 6 - k
entry_is zero = refl
entry_is (suc zero) = refl
entry_is (suc (suc zero)) = refl
entry_is (suc (suc (suc zero))) = refl
entry_is (suc (suc (suc (suc zero)))) = refl
entry_is (suc (suc (suc (suc (suc zero))))) = refl
entry_is (suc (suc (suc (suc (suc (suc zero)))))) = refl
entry_is (suc (suc (suc (suc (suc (suc (suc zero))))))) = refl
entry_is (suc (suc (suc (suc (suc (suc (suc (suc k)))))))) = omega arith

pub worked_out : (x : ℕ) → entry x ≡ 6 - x % 8
worked_out x = entry_is (x % 8)
