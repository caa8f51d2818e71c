-- What is taken of a buffer is no longer than the buffer, and a buffer of k zeros has k bytes: so the report of what is taken of one of 65,537 bytes
-- has room in 524,299 zeros.
-- Assumes nothing.
use Prim.Native.Nat.{ℕ, ◌≤◌}
use mathlib.Core.Path.{◌≡◌}
use mathlib.Core.List.{List}
use native.Mathlib.Omega.{arith}
use lib.ListN.{length, take, replicate, length-take, length-replicate}
use Rattle.beam.specs.declared.Question.{Question}
use Rattle.std.specs.Prelude.{Err}
use Rattle.beam.specs.Whole.{reported}
use Rattle.beam.proofs.Reporting.{always_room}

pub taken_within : (n k : ℕ) (now before : List ℕ) → length now ≡ length before → length before ≡ k → length (take n now) ≤ k
taken_within n k now before e f = rw length-take (omega arith)

pub zeros_long : (k : ℕ) → k ≤ length (replicate {A = ℕ} k 0)
zeros_long k = rw length-replicate (omega arith)

-- of a buffer that began as zeros some bytes are taken, and zeros are lent
pub zeros_room : (question : Question) (n lent given : ℕ) (now : List ℕ) → length now ≡ length (replicate {A = ℕ} given 0)
    → Err (record {}) ≡ reported question (take n now) (replicate {A = ℕ} lent 0) → given ≤ 65537 → 524299 ≤ lent → ⊥
zeros_room question n lent given now e r g h =
    let t : length (take n now) ≤ given = taken_within n given now _ e (length-replicate {A = ℕ} given 0) in
    let z : lent ≤ length (replicate {A = ℕ} lent 0) = zeros_long lent in
    always_room question _ _ (omega arith) (omega arith) r
