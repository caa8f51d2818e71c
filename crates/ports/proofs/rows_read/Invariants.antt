-- An even number of rows has been passed, and the value is their AND.
-- Assumes nothing.
use Rattle.std.proofs.Common.{◌≡◌, ◌≤◌, ◌%◌}
use Rattle.ports.specs.Keys.{rows_and}
use Rattle.ports.proofs.rows_read.Given as goal

abbrev pub invariant-loop-n : goal.invariant-loop-n
invariant-loop-n l = (l.n ≤ 8) × (l.n % 2 ≡ 0) × (l.value ≡ rows_and l.rows l.port l.n)
