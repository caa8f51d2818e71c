-- The mask 20h finds bit 5 of the byte held before the write.
use Rattle.memory.specs.Paging.{write7ffd}
use Rattle.memory.proofs.Maps.{clear, found}
use Rattle.memory.proofs.Map.write_7ffd.Goals as goal

pub returns-in-Sinclair48K : goal.returns-in-Sinclair48K
unfolding write7ffd
returns-in-Sinclair48K c = rw c.in-Sinclair48K.is

pub returns-then-self-eq0 : goal.returns-then-self-eq0
unfolding write7ffd
returns-then-self-eq0 c = rw (c.in-Sinclair128K.is, clear 5 _ c.if-self-eq0.true)

pub returns-else-self-eq0 : goal.returns-else-self-eq0
unfolding write7ffd
returns-else-self-eq0 c = rw (c.in-Sinclair128K.is, found 5 _ c.if-self-eq0.false)
