-- A port write that the paging latch hears, as document 01's `port_write` has it for that hearer.
-- Assumes nothing.
use Rattle.std.specs.Prelude.{ℕ}
use Rattle.machine.specs.declared.ZXMachine.{ZXMachine}
use Rattle.bus.specs.Turns.{Part, and_then}
use Rattle.bus.specs.Calls.{first_part, last_part, final_step, paging_write}

abbrev pub paged_write : ZXMachine → ℕ → ℕ → Part
paged_write m port v = and_then m (first_part m port) (and_then m (paging_write m v) (and_then m (last_part m port) final_step))
