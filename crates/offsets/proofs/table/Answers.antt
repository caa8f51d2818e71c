-- `offsets::table` meets its contract: the table's rule is a test at each of its 6,144 entries, which antt computes.
-- Assumes nothing.
use mathlib.Core.Bool.{Bool}
use mathlib.Core.List.{List}
use Prim.Native.Nat.{ℕ}
use lib.Dec.{T, eqb, eqb→eq, leb, leb→le}
use lib.ListN.{length, get_or}
use native.Mathlib.Nat.{lt_of_lt_of_le}
use Rattle.offsets.specs.Offset.{offset_of, IsTable}
use Rattle.laws.specs.Tests.{every}
use Rattle.laws.proofs.Every.{at}
use Rattle.offsets.proofs.table.Goals as goal

right : ℕ → ℕ → Bool
right k x = eqb x (offset_of k)

rule : (xs : List ℕ) → T (every right 0 xs) → T (leb 6144 (length xs)) → IsTable xs
unfolding IsTable right
rule xs t l k h = eqb→eq (get_or xs k 0) (offset_of k) (at right xs t k (lt_of_lt_of_le h (leb→le 6144 (length xs) l)))

pub returns : goal.returns
unfolding right
returns c = rule _ tt tt
