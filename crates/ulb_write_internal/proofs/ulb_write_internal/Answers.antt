-- Accepted: what the callee requires was judged.
-- Assumes nothing.
use mathlib.Core.Path.{sym, ◌∙◌}
use Rattle.judgement.proofs.Accepted.{ready_write}
use Rattle.ulb_write_internal.proofs.ulb_write_internal.Goals as goal

pub write-requires : goal.write-requires
write-requires c = rw c.from-in-Ok.ensures (ready_write _ _ _ (sym c.judge_write.ensures ∙ c.in-Ok.is)).ram_is
