-- Bank 5 stands first and bank 2 second: `copy_5`, `copy_2`.
use borrow.Author.Rules.{rules}
use Rattle.snapshot.proofs.Leaves.{copy_5, copy_2}
use Rattle.snapshot.proofs.first_copy.Goals as goal

pub returns-then-map-eq5 : goal.returns-then-map-eq5
returns-then-map-eq5 c = (copy_5 _ _ c.requires (search rules), search rules)

pub returns-else-map-eq5 : goal.returns-else-map-eq5
returns-else-map-eq5 c = (copy_2 _ _ c.requires (search rules), search rules)
