-- THE EXPORTS' CONTRACTS ARE THE FUNCTIONS': what each export is passed, returns, requires and ensures is what the function of its name in crate ulb_wait_no_mreq is
-- passed, returns, requires and ensures. So what crate `runs` says of the functions it says of the calls that C makes.
-- Assumes nothing.
use Rattle.std.proofs.Common.{ℕ, List, ◌≡◌, refl}
use borrow.Fn.Kinds.{ParamKind, ResultKind, In, Out}
use Rattle.ulb_wait_no_mreq.proofs.ulb_wait_no_mreq.Kinds as kinds-wait-no-mreq
use Rattle.ulb_wait_no_mreq.proofs.ulb_wait_no_mreq.Reads as ulb-wait-no-mreq
use Rattle.ulb_wait_no_mreq_c.proofs.ulb_wait_no_mreq.Kinds as kinds-c-wait-no-mreq
use Rattle.ulb_wait_no_mreq_c.proofs.ulb_wait_no_mreq.Reads as c-wait-no-mreq

-- parameters, result, `requires` and `ensures` of a function of n references
abbrev Contract : ℕ → Type 3
Contract n = (ps : List (ParamKind n)) × (r : ResultKind n) × In n ps × Out n ps r

pub same_wait_no_mreq : ◌≡◌ {A = Contract 6} (kinds-c-wait-no-mreq.ps, kinds-c-wait-no-mreq.r, c-wait-no-mreq.Pre, c-wait-no-mreq.Post) (kinds-wait-no-mreq.ps, kinds-wait-no-mreq.r, ulb-wait-no-mreq.Pre, ulb-wait-no-mreq.Post)
same_wait_no_mreq = refl
