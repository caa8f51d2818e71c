-- Three runs of bytes one after the other are one run (`put_then`).
-- Assumes nothing.
use borrow.Author.Rules.{rules}
use Rattle.beam.proofs.Printing.{bad_put}
use Rattle.beam.proofs.put_bad.Goals as goal

pub returns : goal.returns
returns c = search (bad_put, rules)
