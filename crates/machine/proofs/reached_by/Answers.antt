use borrow.Author.Rules.{rules}
use native.Mathlib.Omega.{arith}
use Rattle.machine.proofs.Reached.{due_fits}
use Rattle.machine.proofs.reached_by.Goals as goal

pub overflow_add-due-2 : goal.overflow_add-due-2
overflow_add-due-2 g c =
    let n = g.row in
    omega (arith, due_fits n.PER_LINE n.EACH n.TOTAL c.SPECS-line.result.line c.args.origin (search rules) c.args.count (omega arith) (omega arith))
