-- The clauses of a record's soundness as facts, with names: what a contract asks, and what a proof reads off.
-- `sound_bus` is the test of them (proofs/Soundness.antt: `sound_facts`, `facts_sound`).
-- Assumes nothing.
use Rattle.std.specs.Prelude.{◌*◌, ◌<◌, ◌≤◌, ◌≡◌, true}
use Rattle.machine.specs.declared.ZXMachine.TheVariants.{Sinclair48K}
use Rattle.machine.specs.Numbers.{specs_of}
use Rattle.machine.specs.Timing.{block_position, border_position, frame_end}
use Rattle.record.specs.declared.Bus.{Bus}
use Rattle.record.specs.Record.{last_frame}

pub record Sound (b : Bus) : Type 0 where
  pub passed : b.passed ≤ last_frame
  pub phase : b.phase < 32
  pub paging : b.paging < 256
  pub reported : b.reported < 8
  pub colour : b.colour < 8
  pub clock : b.clock < (specs_of b.machine).frame
  pub painted : b.painted ≤ block_position (specs_of b.machine) b.clock
  pub pairs : 2 * b.pairs ≤ border_position (specs_of b.machine) b.clock
  pub at_end : b.blocked ≡ true → frame_end (specs_of b.machine) b.clock ≡ true
  pub no_pairs : b.blocked ≡ true → b.pairs ≡ 0
  pub unpaged : b.machine ≡ Sinclair48K → b.paging ≡ 0
