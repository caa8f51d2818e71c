-- Accepted: what the callee requires was judged.
-- Assumes nothing.
use mathlib.Core.Path.{sym, ◌∙◌}
use Rattle.judgement.proofs.Accepted.{ready_state}
use Rattle.ulb_state.proofs.ulb_reset_frame_counter.Goals as goal

pub encode-requires : goal.encode-requires
encode-requires c = (ready_state _ _ (sym c.judge_state.ensures ∙ c.in-Ok.is)).long
