-- THE EXPORTS' CONTRACTS ARE THE FUNCTIONS': what each export is passed, returns, requires and ensures is what the function of its name in crate ulb_write_io is
-- passed, returns, requires and ensures. So what crate `runs` says of the functions it says of the calls that C makes.
-- Assumes nothing.
use Rattle.std.proofs.Common.{ℕ, List, ◌≡◌, refl}
use borrow.Fn.Kinds.{ParamKind, ResultKind, In, Out}
use Rattle.ulb_write_io.proofs.ulb_write_io.Kinds as kinds-write-io
use Rattle.ulb_write_io.proofs.ulb_write_io.Reads as ulb-write-io
use Rattle.ulb_write_io_c.proofs.ulb_write_io.Kinds as kinds-c-write-io
use Rattle.ulb_write_io_c.proofs.ulb_write_io.Reads as c-write-io

-- parameters, result, `requires` and `ensures` of a function of n references
abbrev Contract : ℕ → Type 3
Contract n = (ps : List (ParamKind n)) × (r : ResultKind n) × In n ps × Out n ps r

pub same_write_io : ◌≡◌ {A = Contract 7} (kinds-c-write-io.ps, kinds-c-write-io.r, c-write-io.Pre, c-write-io.Post) (kinds-write-io.ps, kinds-write-io.r, ulb-write-io.Pre, ulb-write-io.Post)
same_write_io = refl
