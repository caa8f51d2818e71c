-- Document 01, "Bus calls": the byte that an even port reads.
-- Assumes nothing.
use Rattle.std.specs.Prelude.{ℕ, zero, suc, ◌+◌, ◌/◌, ◌%◌, ◌^◌, List, Bool, cond, get_or, eqb}
use Rattle.std.specs.Int.Bits.{bit_and, bit_xor}

-- bit k of a number
abbrev pub bit : ℕ → ℕ → ℕ
bit k n = n / 2 ^ k % 2

-- "rows whose high port bit is 0": row n is selected by bit n of the port's high byte
unfoldable pub selected : ℕ → ℕ → Bool
selected port n = eqb (bit (8 + n) port) 0

-- row n "over three sets"
abbrev pub row_in : List ℕ → ℕ → ℕ
row_in rows n = bit_and (bit_and (get_or rows n 0) (get_or rows (n + 8) 0)) (get_or rows (n + 16) 0)

-- "AND of the rows whose high port bit is 0", of the first n rows of each set; a row that is not selected counts as FFh
unfoldable pub rows_and : List ℕ → ℕ → ℕ → ℕ
rows_and rows port zero = 0xFF
rows_and rows port (suc n) = bit_and (rows_and rows port n) (cond (selected port n) (row_in rows n) 0xFF)

-- "bit 6 toggled if the tape bit is 0"
abbrev pub taped : ℕ → ℕ → ℕ
taped tape value = cond (eqb tape 0) (bit_xor value 0x40) value

-- the byte of an even port
unfoldable pub keys_read : List ℕ → ℕ → ℕ → ℕ
keys_read rows tape port = taped tape (rows_and rows port 8)
