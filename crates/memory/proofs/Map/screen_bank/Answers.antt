-- The mask 08h finds bit 3.
use Rattle.memory.proofs.Maps.{clear, found}
use Rattle.memory.proofs.Map.screen_bank.Goals as goal

pub returns-then-self-eq0 : goal.returns-then-self-eq0
returns-then-self-eq0 c = rw (c.in-Sinclair128K.is, clear 3 _ c.if-self-eq0.true)

pub returns-else-self-eq0 : goal.returns-else-self-eq0
returns-else-self-eq0 c = rw (c.in-Sinclair128K.is, found 3 _ c.if-self-eq0.false)
