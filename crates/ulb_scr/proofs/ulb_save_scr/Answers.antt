-- Accepted: what the callee requires was judged.
-- Assumes nothing.
use mathlib.Core.Path.{sym, ◌∙◌}
use Rattle.judgement.proofs.Accepted.{ready_save_scr}
use Rattle.contracts.proofs.Leaves.{shown_fits}
use Rattle.ulb_scr.proofs.ulb_save_scr.Goals as goal

pub save_screen-requires : goal.save_screen-requires
save_screen-requires c =
    let r = ready_save_scr _ _ _ _ (sym c.judge_save_scr.ensures ∙ c.in-Ok.is) in
    (r.file_is, shown_fits _ r.on_record r.ram_is (rw c.from-in-Ok.ensures at c.screen_bank-page.ensures))
