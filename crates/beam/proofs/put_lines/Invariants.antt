use Rattle.std.specs.Iterator.Adapters.{zip_first, zip_second}
use Rattle.std.specs.Slice.Iter.{split_inclusive_rest}
use Rattle.beam.proofs.Walking.{Walk}
use Rattle.beam.proofs.put_lines.Given as goal

abbrev pub invariant-loop-number : goal.invariant-loop-number
invariant-loop-number l =
    Walk l.question l.input l.initial.out l.at l.out (zip_first l.number-iterator).start l.next (split_inclusive_rest (zip_second l.number-iterator))
