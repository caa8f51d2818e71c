use mathlib.Core.Path.{◌≡◌}
use lib.ListN.{length}
use Rattle.snapshot.proofs.Front.{Front}
use Rattle.snapshot.proofs.Reading.{banks_to}
use Rattle.snapshot.proofs.Snapshot.read_ram.Given as goal

abbrev pub invariant-loop-bank : goal.invariant-loop-bank
invariant-loop-bank l = (length l.ram ≡ length l.initial.ram) × Front l.initial.ram (banks_to l.stand l.self.file.now l.bank) l.ram
