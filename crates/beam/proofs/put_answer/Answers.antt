-- The machine's number and the answer behind it, one run after the other; the match has told what is asked.
-- Assumes nothing.
use Rattle.beam.proofs.Printing.{answer_put}
use Rattle.beam.proofs.put_answer.Goals as goal

pub returns-in-Beam : goal.returns-in-Beam
returns-in-Beam c =
    answer_put _ c.args.asked.machine c.args.asked.clock _ _ _ c.model.ensures _ _ c.put_decimal-next.ensures _ c.in-Beam.is
    (rw c.fields.ensures at c.put_spaced.ensures)

pub returns-in-Held : goal.returns-in-Held
returns-in-Held c =
    answer_put _ c.args.asked.machine c.args.asked.clock _ _ _ c.model.ensures _ _ c.put_decimal-next.ensures _ c.in-Held.is c.put_held.ensures
