-- Accepted: what the callee requires was judged.
-- Assumes nothing.
use mathlib.Core.Path.{sym, ◌∙◌}
use Rattle.judgement.proofs.Accepted.{ready_load_scr}
use Rattle.contracts.proofs.Leaves.{load_scr_fits}
use Rattle.ulb_scr.proofs.ulb_load_scr.Goals as goal

pub load-requires : goal.load-requires
load-requires c = load_scr_fits (ready_load_scr _ _ _ _ _ (sym c.judge_load_scr.ensures ∙ c.in-Ok.is))
