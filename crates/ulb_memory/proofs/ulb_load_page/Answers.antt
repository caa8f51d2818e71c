-- Accepted: what the callee requires was judged.
-- Assumes nothing.
use mathlib.Core.Path.{sym, ◌∙◌}
use Rattle.judgement.proofs.Accepted.{ready_load}
use Rattle.contracts.proofs.Leaves.{load_fits}
use Rattle.ulb_memory.proofs.ulb_load_page.Goals as goal

pub load-requires : goal.load-requires
load-requires c = load_fits (ready_load _ _ _ _ _ (sym c.judge_load.ensures ∙ c.in-Ok.is))
