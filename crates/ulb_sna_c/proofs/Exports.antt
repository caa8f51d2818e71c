-- THE EXPORTS' CONTRACTS ARE THE FUNCTIONS': what each export is passed, returns, requires and ensures is what the function of its name in crate ulb_sna is
-- passed, returns, requires and ensures. So what crate `runs` says of the functions it says of the calls that C makes.
-- Assumes nothing.
use Rattle.std.proofs.Common.{ℕ, List, ◌≡◌, refl}
use borrow.Fn.Kinds.{ParamKind, ResultKind, In, Out}
use Rattle.ulb_sna.proofs.ulb_load_sna.Kinds as kinds-load-sna
use Rattle.ulb_sna.proofs.ulb_load_sna.Reads as ulb-load-sna
use Rattle.ulb_sna_c.proofs.ulb_load_sna.Kinds as kinds-c-load-sna
use Rattle.ulb_sna_c.proofs.ulb_load_sna.Reads as c-load-sna
use Rattle.ulb_sna.proofs.ulb_save_sna.Kinds as kinds-save-sna
use Rattle.ulb_sna.proofs.ulb_save_sna.Reads as ulb-save-sna
use Rattle.ulb_sna_c.proofs.ulb_save_sna.Kinds as kinds-c-save-sna
use Rattle.ulb_sna_c.proofs.ulb_save_sna.Reads as c-save-sna

-- parameters, result, `requires` and `ensures` of a function of n references
abbrev Contract : ℕ → Type 3
Contract n = (ps : List (ParamKind n)) × (r : ResultKind n) × In n ps × Out n ps r

pub same_load_sna : ◌≡◌ {A = Contract 7} (kinds-c-load-sna.ps, kinds-c-load-sna.r, c-load-sna.Pre, c-load-sna.Post) (kinds-load-sna.ps, kinds-load-sna.r, ulb-load-sna.Pre, ulb-load-sna.Post)
same_load_sna = refl

pub same_save_sna : ◌≡◌ {A = Contract 4} (kinds-c-save-sna.ps, kinds-c-save-sna.r, c-save-sna.Pre, c-save-sna.Post) (kinds-save-sna.ps, kinds-save-sna.r, ulb-save-sna.Pre, ulb-save-sna.Post)
same_save_sna = refl
