-- Accepted: what the callee requires was judged.
-- Assumes nothing.
use native.Mathlib.Omega.{arith}
use Rattle.contracts.proofs.Leaves.{page_small}
use mathlib.Core.Path.{sym, ◌∙◌}
use Rattle.judgement.proofs.Accepted.{ready_ram_page}
use Rattle.ulb_memory.proofs.ulb_ram_page.Goals as goal

pub overflow_cast-page : goal.overflow_cast-page
overflow_cast-page c = let s = page_small (ready_ram_page _ _ _ _ _ (sym c.judge_ram_page.ensures.verdict ∙ c.in-Ok.is)) in omega arith
