use lib.ListN.{drop}
use Rattle.beam.specs.Printed.{spaced}
use Rattle.beam.proofs.Runs.{Left}
use Rattle.beam.proofs.put_spaced.Given as goal

abbrev pub invariant-loop-number : goal.invariant-loop-number
invariant-loop-number l = Left l.initial.out l.at (spaced l.numbers) l.out l.next (spaced (drop l.number-index l.numbers))
