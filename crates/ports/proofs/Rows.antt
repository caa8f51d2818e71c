-- The AND of the key rows, row by row: always a byte; two rows more; and where no bit is left, none comes back.
-- Assumes nothing.
use Prim.Native.Nat.{ℕ, zero, suc, ◌+◌, ◌-◌, ◌^◌, ◌<◌, ◌≤◌}
use mathlib.Core.Path.{◌≡◌, ap, sym, ◌∙◌}
use mathlib.Core.Bool.{cond}
use mathlib.Core.List.{List}
use native.Mathlib.Nat.{mod-eq_of_lt, zero-add, suc-add}
use native.Mathlib.Omega.{arith}
use native.Mathlib.Numerals.{add-one}
use lib.Bits.{bit_and, and_le_l, and_mask, and_zero_l}
use Rattle.ports.specs.Keys.{selected, row_in, rows_and}

-- the AND is a byte, whatever stands in the rows
pub rows_byte : (rows : List ℕ) (port n : ℕ) → rows_and rows port n < 256
unfolding rows_and
rows_byte rows port zero = omega arith
rows_byte rows port (suc n) =
    omega (arith, rows_byte rows port n, and_le_l (rows_and rows port n) (cond (selected port n) (row_in rows n) 0xFF))

-- FFh leaves a byte as it is
pub and_byte : (v : ℕ) → v < 256 → bit_and v 0xFF ≡ v
and_byte v h = and_mask v 8 ∙ mod-eq_of_lt {n = v} {m = 2 ^ 8} h

-- two rows more
pub two_rows : (rows : List ℕ) (port n v : ℕ) → v ≡ rows_and rows port n
    → bit_and (bit_and v (cond (selected port n) (row_in rows n) 0xFF)) (cond (selected port (n + 1)) (row_in rows (n + 1)) 0xFF) ≡ rows_and rows port (n + 2)
unfolding rows_and
two_rows rows port n v p = let e : n + 2 ≡ suc (suc n) = omega arith in rw (e, p, add-one)

-- where no bit is left after n rows, none is left after more of them
none_back : (rows : List ℕ) (port n k : ℕ) → rows_and rows port n ≡ 0 → rows_and rows port (k + n) ≡ 0
unfolding rows_and
none_back rows port n zero h = rw (zero-add n) h
none_back rows port n (suc k) h = rw (suc-add k n, none_back rows port n k h) (and_zero_l (cond (selected port (k + n)) (row_in rows (k + n)) 0xFF))

-- so the walk may stop there, and before the last row has the AND of all
pub stopped : (rows : List ℕ) (port n v : ℕ) → v ≡ rows_and rows port n → n ≤ 8 → v ≡ 0 → v ≡ rows_and rows port 8
stopped rows port n v p l z =
    let e : 8 - n + n ≡ 8 = omega arith in
    z ∙ sym (ap (rows_and rows port) (sym e) ∙ none_back rows port n (8 - n) (sym p ∙ z))
