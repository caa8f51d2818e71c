use Rattle.beam.proofs.Reading.{Read}
use Rattle.beam.proofs.clock_meaning.Given as goal

abbrev pub invariant-loop-digit : goal.invariant-loop-digit
invariant-loop-digit l = Read l.text l.clock l.digit-index
