-- What is copied stands where it was put (`copied`).
-- Assumes nothing.
use Rattle.beam.proofs.Runs.{copied}
use Rattle.beam.proofs.put.Goals as goal

pub returns : goal.returns
returns c = rw c.copy_from_slice.ensures.after (copied c.args.out.now c.args.text.now c.args.at c.requires)
