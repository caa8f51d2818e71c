-- Two sizes on 128K, by whether a bank stands twice: `twice_due`, `once_due`.
use Rattle.snapshot.specs.File.{due_size}
use Rattle.snapshot.proofs.Leaves.{twice_due, once_due}
use borrow.Author.Rules.{rules}
use Rattle.snapshot.proofs.due_size.Goals as goal

pub returns-in-Sinclair48K : goal.returns-in-Sinclair48K
unfolding due_size
returns-in-Sinclair48K c = rw c.in-Sinclair48K.is

pub returns-then-stands_twice : goal.returns-then-stands_twice
unfolding due_size
returns-then-stands_twice c = twice_due _ _ _ c.in-Sinclair128K.is c.stands_twice.ensures (search rules)

pub returns-else-stands_twice : goal.returns-else-stands_twice
unfolding due_size
returns-else-stands_twice c = once_due _ _ _ c.in-Sinclair128K.is c.stands_twice.ensures (search rules)
