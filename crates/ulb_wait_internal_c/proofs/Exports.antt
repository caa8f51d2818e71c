-- THE EXPORTS' CONTRACTS ARE THE FUNCTIONS': what each export is passed, returns, requires and ensures is what the function of its name in crate ulb_wait_internal is
-- passed, returns, requires and ensures. So what crate `runs` says of the functions it says of the calls that C makes.
-- Assumes nothing.
use Rattle.std.proofs.Common.{ℕ, List, ◌≡◌, refl}
use borrow.Fn.Kinds.{ParamKind, ResultKind, In, Out}
use Rattle.ulb_wait_internal.proofs.ulb_wait_internal.Kinds as kinds-wait-internal
use Rattle.ulb_wait_internal.proofs.ulb_wait_internal.Reads as ulb-wait-internal
use Rattle.ulb_wait_internal_c.proofs.ulb_wait_internal.Kinds as kinds-c-wait-internal
use Rattle.ulb_wait_internal_c.proofs.ulb_wait_internal.Reads as c-wait-internal

-- parameters, result, `requires` and `ensures` of a function of n references
abbrev Contract : ℕ → Type 3
Contract n = (ps : List (ParamKind n)) × (r : ResultKind n) × In n ps × Out n ps r

pub same_wait_internal : ◌≡◌ {A = Contract 6} (kinds-c-wait-internal.ps, kinds-c-wait-internal.r, c-wait-internal.Pre, c-wait-internal.Post) (kinds-wait-internal.ps, kinds-wait-internal.r, ulb-wait-internal.Pre, ulb-wait-internal.Post)
same_wait_internal = refl
