-- Accepted: what the callee requires was judged.
-- Assumes nothing.
use mathlib.Core.Path.{sym, ◌∙◌}
use Rattle.judgement.proofs.Accepted.{ready_ram_page}
use Rattle.contracts.proofs.Leaves.{page_fits}
use Rattle.ulb_memory.proofs.ram_page.Goals as goal

pub ram_page_data-requires : goal.ram_page_data-requires
ram_page_data-requires c = page_fits (ready_ram_page _ _ _ _ _ (sym c.judge_ram_page.ensures.verdict ∙ c.in-Ok.is))
