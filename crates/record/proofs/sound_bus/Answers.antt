-- The code tests the 7FFD byte before the positions, the definition behind them: a conjunction in another order.
-- Assumes nothing.
use Rattle.std.proofs.Common.{arith}
use Rattle.std.proofs.lemmas.Grind.{common_steps}
use Rattle.record.specs.Record.{sound_bus}
use Rattle.record.proofs.sound_bus.Goals as goal

pub returns-then-in_range-b : goal.returns-then-in_range-b
unfolding sound_bus
returns-then-in_range-b c = grind (arith, common_steps)

pub returns-else-in_range-b : goal.returns-else-in_range-b
unfolding sound_bus
returns-else-in_range-b c = grind (arith, common_steps)
