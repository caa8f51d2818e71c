-- THE EXPORTS' CONTRACTS ARE THE FUNCTIONS': what each export is passed, returns, requires and ensures is what the function of its name in crate ulb_wait_mreq is
-- passed, returns, requires and ensures. So what crate `runs` says of the functions it says of the calls that C makes.
-- Assumes nothing.
use Rattle.std.proofs.Common.{ℕ, List, ◌≡◌, refl}
use borrow.Fn.Kinds.{ParamKind, ResultKind, In, Out}
use Rattle.ulb_wait_mreq.proofs.ulb_wait_mreq.Kinds as kinds-wait-mreq
use Rattle.ulb_wait_mreq.proofs.ulb_wait_mreq.Reads as ulb-wait-mreq
use Rattle.ulb_wait_mreq_c.proofs.ulb_wait_mreq.Kinds as kinds-c-wait-mreq
use Rattle.ulb_wait_mreq_c.proofs.ulb_wait_mreq.Reads as c-wait-mreq

-- parameters, result, `requires` and `ensures` of a function of n references
abbrev Contract : ℕ → Type 3
Contract n = (ps : List (ParamKind n)) × (r : ResultKind n) × In n ps × Out n ps r

pub same_wait_mreq : ◌≡◌ {A = Contract 6} (kinds-c-wait-mreq.ps, kinds-c-wait-mreq.r, c-wait-mreq.Pre, c-wait-mreq.Post) (kinds-wait-mreq.ps, kinds-wait-mreq.r, ulb-wait-mreq.Pre, ulb-wait-mreq.Post)
same_wait_mreq = refl
