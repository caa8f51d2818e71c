-- What is printed goes by the delay, which the match has told.
-- Assumes nothing.
use mathlib.Core.Path.{sym, ◌∙◌}
use Rattle.beam.specs.Printed.{held_line}
use Rattle.beam.proofs.Runs.{put_then}
use Rattle.beam.proofs.Printing.{told_put}
use Rattle.beam.proofs.put_held.Goals as goal

pub returns-in-Outside : goal.returns-in-Outside
returns-in-Outside c =
    told_put (held_line c.args.asked.clock) _ _ (sym c.in-Outside.is ∙ c.contention.ensures) (put_then c.put_field-next.ensures c.put.ensures)
