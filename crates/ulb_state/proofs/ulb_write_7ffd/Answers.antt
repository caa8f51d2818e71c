-- Accepted: what the callee requires was judged.
-- Assumes nothing.
use mathlib.Core.Path.{sym, ◌∙◌}
use Rattle.judgement.proofs.Accepted.{ready_told}
use Rattle.ulb_state.proofs.ulb_write_7ffd.Goals as goal

pub encode-requires : goal.encode-requires
encode-requires c = (ready_told _ _ _ (sym c.judge_told.ensures.verdict ∙ c.in-Ok.is)).on_record.long
