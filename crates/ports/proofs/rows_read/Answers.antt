-- Two rows more at each turn; where no bit is left the rows behind bring none back.
-- Assumes nothing.
use Rattle.std.proofs.Common.{◌+◌, refl, arith}
use Rattle.ports.specs.Keys.{rows_and}
use Rattle.ports.proofs.Rows.{two_rows, stopped}
use Rattle.ports.proofs.rows_read.Goals as goal

pub loop-n-init : goal.loop-n-init
unfolding rows_and
loop-n-init c = (omega arith, refl, refl)

pub loop-n-preserved : goal.loop-n-preserved
loop-n-preserved c =
    let l = c.loop-n in (
      omega arith,
      omega arith,
      rw (c.row_read-even.ensures, c.row_read-odd.ensures) (two_rows c.args.rows c.args.port l.n l.value l.invariant.2),
    )

pub returns-then-value-eq0 : goal.returns-then-value-eq0
returns-then-value-eq0 c =
    let l = c.loop-n in
    stopped c.args.rows c.args.port (l.n + 2) _
    (rw (c.row_read-even.ensures, c.row_read-odd.ensures) (two_rows c.args.rows c.args.port l.n l.value l.invariant.2)) (omega arith) c.if-value-eq0.true
