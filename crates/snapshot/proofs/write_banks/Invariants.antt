use mathlib.Core.Path.{◌≡◌}
use lib.ListN.{length, take}
use lib.Seq.{sets}
use Rattle.memory.specs.Memory.{ram_page}
use Rattle.snapshot.specs.File.{laid}
use Rattle.snapshot.proofs.write_banks.Given as goal

abbrev pub invariant-loop-k : goal.invariant-loop-k
invariant-loop-k l = (length l.file ≡ length l.initial.file) × (l.file ≡ sets l.initial.file l.at (laid (λ bank. ram_page bank l.ram) (take l.k l.banks)))
