-- The two openings are the definition's, in its order.
-- Assumes nothing.
use mathlib.Core.Path.{◌∙◌}
use Rattle.beam.proofs.Means.{of_48, of_128, of_none}
use Rattle.beam.proofs.line_meaning.Goals as goal

pub returns-in-Some : goal.returns-in-Some
returns-in-Some c =
    of_48 c.args.line.now _ c.in-Some.clock.now c.in-Some.ensures.cases.0 c.in-Some.ensures.cases.1 c.clock_meaning.ensures

pub returns-in_err-clock : goal.returns-in_err-clock
returns-in_err-clock c =
    c.from_residual.ensures ∙ of_none c.args.line.now c.in_default.ensures.cases c.in_err-clock.ensures.cases

pub returns : goal.returns
returns c =
    of_128 c.args.line.now c.in_default.ensures.cases _ c.in_ok-clock.clock.now c.in_ok-clock.ensures.cases.0 c.in_ok-clock.ensures.cases.1 c.clock_meaning-2.ensures
