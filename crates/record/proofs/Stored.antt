-- std's bytes of a number are the record's.
-- Assumes nothing.
use Prim.Native.Nat.{ℕ, ◌/◌}
use mathlib.Core.Path.{◌≡◌}
use native.Mathlib.Omega.{arith}
use Rattle.std.specs.Int.{w32, to_le_bytes}
use Rattle.record.specs.Words.{bytes32}

-- std's bytes of a number are document 01's
quotients : (n : ℕ) → (n / 256 / 256 ≡ n / 65536) × (n / 65536 / 256 ≡ n / 16777216)
quotients n = (omega arith, omega arith)

pub long_le : (n : ℕ) → to_le_bytes w32 n ≡ bytes32 n
long_le n = rw ((quotients n).0, (quotients n).1)
