-- Accepted: what the callee requires was judged.
-- Assumes nothing.
use mathlib.Core.Path.{sym, ◌∙◌}
use Rattle.judgement.proofs.Accepted.{ready_read}
use Rattle.ulb_memory.proofs.ulb_read_internal.Goals as goal

pub read-value-requires : goal.read-value-requires
read-value-requires c =
    let r = ready_read _ _ _ _ _ (sym c.judge_read.ensures.verdict ∙ c.in-Ok.is) in
    rw c.from.ensures (r.rom_is, r.ram_is)
