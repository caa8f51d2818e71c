-- The code's test is the definition's.
-- Assumes nothing.
use mathlib.Core.Bool.{xor}
use Rattle.screen.proofs.ZXAttribute.active_color.Goals as goal

pub returns-then-state-self : goal.returns-then-state-self
unfolding xor
returns-then-state-self c = rw c.if-state-self.true

pub returns-else-state-self : goal.returns-else-state-self
unfolding xor
returns-else-state-self c = rw c.if-state-self.false
