-- What an even port reads: with no row selected, with no key down, and what the tape bit does to it.
-- Assumes nothing.
use Prim.Native.Nat.{ℕ, zero, suc, ◌+◌, ◌≤◌, ◌<◌}
use mathlib.Core.Path.{◌≡◌, refl}
use mathlib.Core.Bool.{not, cond}
use mathlib.Core.List.{List}
use native.Mathlib.Omega.{arith}
use lib.Dec.{eqb}
use lib.ListN.{get_or}
use lib.Bits.{xor_lt}
use Rattle.laws.proofs.Cases.{by_eq, cond_same}
use Rattle.ports.specs.Keys.{selected, rows_and, keys_read}
use Rattle.ports.specs.Pages.{is_set}
use Rattle.ports.proofs.Rows.{rows_byte}
use Rattle.ports.proofs.Bits.{toggles}

-- what is read is a byte, whatever stands in the rows
pub keys_byte : (rows : List ℕ) (tape port : ℕ) → keys_read rows tape port < 256
unfolding keys_read
keys_byte rows tape port =
    by_eq (λ (v : ℕ). v < 256) tape 0 (λ e. xor_lt 8 (rows_and rows port 8) 0x40 (rows_byte rows port 8) (omega arith)) (λ e. rows_byte rows port 8)

-- port FFFEh selects no row: FFh, or BFh with tape bit 0, whatever keys are down
pub none_selected : (rows : List ℕ) (tape : ℕ) → keys_read rows tape 0xFFFE ≡ cond (eqb tape 0) 0xBF 0xFF
unfolding keys_read rows_and selected
none_selected rows tape = refl

-- with no key down, every row of every set FFh, the same is read at every port
none_and : (rows : List ℕ) (port : ℕ) → ((k : ℕ) → k < 24 → get_or rows k 0 ≡ 0xFF) → (n : ℕ) → n ≤ 8 → rows_and rows port n ≡ 0xFF
unfolding rows_and
none_and rows port h zero l = refl
none_and rows port h (suc n) l =
    rw (none_and rows port h n (omega arith), h n (omega arith), h (n + 8) (omega arith), h (n + 16) (omega arith), cond_same {A = ℕ} (selected port n) 0xFF)

pub none_down : (rows : List ℕ) (tape port : ℕ) → ((k : ℕ) → k < 24 → get_or rows k 0 ≡ 0xFF) → keys_read rows tape port ≡ cond (eqb tape 0) 0xBF 0xFF
unfolding keys_read
none_down rows tape port h = rw (none_and rows port h 8 (omega arith))

-- with tape bit 0 exactly bit 6 is turned round: bit 6 is the other one and every other bit is as with tape bit 1. It is neither cleared nor set.
pub tape_toggles : (rows : List ℕ) (port b : ℕ) → b < 8
    → is_set b (keys_read rows 0 port) ≡ cond (eqb b 6) (not (is_set b (keys_read rows 1 port))) (is_set b (keys_read rows 1 port))
unfolding keys_read
tape_toggles rows port b h = toggles (rows_and rows port 8) b (rows_byte rows port 8) h

-- a row with bit 6 down shows it: with tape bit 0 bit 6 then reads 1, where clearing would give 0. Key row 0 at BFh, port FEFEh.
pub toggled_up : (rows : List ℕ) → get_or rows 0 0 ≡ 0xBF → get_or rows 8 0 ≡ 0xFF → get_or rows 16 0 ≡ 0xFF → keys_read rows 0 0xFEFE ≡ 0xFF
unfolding keys_read rows_and selected
toggled_up rows p q r = rw (p, q, r)
