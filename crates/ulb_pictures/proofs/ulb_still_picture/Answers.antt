-- Accepted: what the callee requires was judged.
-- Assumes nothing.
use mathlib.Core.Path.{sym, ◌∙◌}
use Rattle.judgement.proofs.Accepted.{ready_still}
use Rattle.contracts.proofs.Leaves.{shown_fits, page_long}
use Rattle.ulb_pictures.proofs.ulb_still_picture.Goals as goal

pub ram_page_data-page-requires : goal.ram_page_data-page-requires
ram_page_data-page-requires c =
    let r = ready_still _ _ _ _ _ (sym c.judge_still.ensures ∙ c.in-Ok.is) in
    shown_fits _ r.on_record r.ram_is (c.from-in-Ok-2.ensures ∙ rw c.from-in-Ok.ensures at c.screen_bank-shown.ensures)

pub still-requires : goal.still-requires
still-requires c =
    let r = ready_still _ _ _ _ _ (sym c.judge_still.ensures ∙ c.in-Ok.is) in
    (page_long _ _ _ c.ram_page_data-page.ensures (shown_fits _ r.on_record r.ram_is (c.from-in-Ok-2.ensures ∙ rw c.from-in-Ok.ensures at c.screen_bank-shown.ensures)), r.picture_is)
