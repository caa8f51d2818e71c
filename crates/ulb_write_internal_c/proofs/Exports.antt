-- THE EXPORTS' CONTRACTS ARE THE FUNCTIONS': what each export is passed, returns, requires and ensures is what the function of its name in crate ulb_write_internal is
-- passed, returns, requires and ensures. So what crate `runs` says of the functions it says of the calls that C makes.
-- Assumes nothing.
use Rattle.std.proofs.Common.{ℕ, List, ◌≡◌, refl}
use borrow.Fn.Kinds.{ParamKind, ResultKind, In, Out}
use Rattle.ulb_write_internal.proofs.ulb_write_internal.Kinds as kinds-write-internal
use Rattle.ulb_write_internal.proofs.ulb_write_internal.Reads as ulb-write-internal
use Rattle.ulb_write_internal_c.proofs.ulb_write_internal.Kinds as kinds-c-write-internal
use Rattle.ulb_write_internal_c.proofs.ulb_write_internal.Reads as c-write-internal

-- parameters, result, `requires` and `ensures` of a function of n references
abbrev Contract : ℕ → Type 3
Contract n = (ps : List (ParamKind n)) × (r : ResultKind n) × In n ps × Out n ps r

pub same_write_internal : ◌≡◌ {A = Contract 2} (kinds-c-write-internal.ps, kinds-c-write-internal.r, c-write-internal.Pre, c-write-internal.Post) (kinds-write-internal.ps, kinds-write-internal.r, ulb-write-internal.Pre, ulb-write-internal.Post)
same_write_internal = refl
