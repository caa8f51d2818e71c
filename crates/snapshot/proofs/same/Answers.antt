-- The loop's invariant: what is left of the two slices is the same exactly where they are.
use mathlib.Core.Path.{refl}
use borrow.Author.Rules.{rules}
use Rattle.snapshot.proofs.Leaves.{same_short, same_no, same_on, same_yes}
use Rattle.snapshot.proofs.same.Goals as goal

pub returns-then-a-b : goal.returns-then-a-b
returns-then-a-b c = same_short _ _ (search rules)

pub loop-i-init : goal.loop-i-init
loop-i-init c = (search rules, refl)

pub returns-then-x-b : goal.returns-then-x-b
returns-then-x-b c = let l = c.loop-i in same_no _ _ l.i l.invariant.0 (search rules) l.invariant.1 (search rules)

pub loop-i-preserved : goal.loop-i-preserved
loop-i-preserved c = let l = c.loop-i in (l.invariant.0, same_on _ _ l.i l.invariant.0 (search rules) l.invariant.1 (search rules))

pub returns : goal.returns
returns c = let l = c.loop-i in same_yes _ _ l.i l.invariant.0 (search rules) (search rules) l.invariant.1
