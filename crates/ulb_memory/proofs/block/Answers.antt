-- Accepted: what the callee requires was judged.
-- Assumes nothing.
use mathlib.Core.Path.{sym, ◌∙◌}
use Rattle.judgement.proofs.Accepted.{ready_block}
use Rattle.contracts.proofs.Leaves.{block_holds}
use Rattle.ulb_memory.proofs.block.Goals as goal

pub page_data-requires : goal.page_data-requires
page_data-requires c =
    let r = ready_block _ _ _ _ _ _ (sym c.judge_block.ensures.verdict ∙ c.in-Ok.is) in
    block_holds _ r (rw c.from.ensures at c.get_bank_type-page.ensures)
