-- THE EXPORTS' CONTRACTS ARE THE FUNCTIONS': what each export is passed, returns, requires and ensures is what the function of its name in crate ulb_scr is
-- passed, returns, requires and ensures. So what crate `runs` says of the functions it says of the calls that C makes.
-- Assumes nothing.
use Rattle.std.proofs.Common.{ℕ, List, ◌≡◌, refl}
use borrow.Fn.Kinds.{ParamKind, ResultKind, In, Out}
use Rattle.ulb_scr.proofs.ulb_save_scr.Kinds as kinds-save-scr
use Rattle.ulb_scr.proofs.ulb_save_scr.Reads as ulb-save-scr
use Rattle.ulb_scr_c.proofs.ulb_save_scr.Kinds as kinds-c-save-scr
use Rattle.ulb_scr_c.proofs.ulb_save_scr.Reads as c-save-scr
use Rattle.ulb_scr.proofs.ulb_load_scr.Kinds as kinds-load-scr
use Rattle.ulb_scr.proofs.ulb_load_scr.Reads as ulb-load-scr
use Rattle.ulb_scr_c.proofs.ulb_load_scr.Kinds as kinds-c-load-scr
use Rattle.ulb_scr_c.proofs.ulb_load_scr.Reads as c-load-scr

-- parameters, result, `requires` and `ensures` of a function of n references
abbrev Contract : ℕ → Type 3
Contract n = (ps : List (ParamKind n)) × (r : ResultKind n) × In n ps × Out n ps r

pub same_save_scr : ◌≡◌ {A = Contract 3} (kinds-c-save-scr.ps, kinds-c-save-scr.r, c-save-scr.Pre, c-save-scr.Post) (kinds-save-scr.ps, kinds-save-scr.r, ulb-save-scr.Pre, ulb-save-scr.Post)
same_save_scr = refl

pub same_load_scr : ◌≡◌ {A = Contract 3} (kinds-c-load-scr.ps, kinds-c-load-scr.r, c-load-scr.Pre, c-load-scr.Post) (kinds-load-scr.ps, kinds-load-scr.r, ulb-load-scr.Pre, ulb-load-scr.Post)
same_load_scr = refl
