-- The loop keeps that the numbers not yet passed are left to put.
-- Assumes nothing.
use borrow.Author.Rules.{rules}
use Rattle.beam.proofs.Printing.{spaced_room, spaced_next, spaced_last, spaced_end}
use Rattle.beam.proofs.put_spaced.Goals as goal

pub put_field-next-requires : goal.put_field-next-requires
put_field-next-requires c = search (spaced_room, rules)

pub loop-number-preserved : goal.loop-number-preserved
loop-number-preserved c = search (spaced_next, rules)

pub bounds-out-next : goal.bounds-out-next
bounds-out-next c = search (spaced_last, rules)

pub returns : goal.returns
returns c = search (spaced_end, rules)
