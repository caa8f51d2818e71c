-- THE EXPORTS' CONTRACTS ARE THE FUNCTIONS': what each export is passed, returns, requires and ensures is what the function of its name in crate ulb_read_io is
-- passed, returns, requires and ensures. So what crate `runs` says of the functions it says of the calls that C makes.
-- Assumes nothing.
use Rattle.std.proofs.Common.{ℕ, List, ◌≡◌, refl}
use borrow.Fn.Kinds.{ParamKind, ResultKind, In, Out}
use Rattle.ulb_read_io.proofs.ulb_read_io.Kinds as kinds-read-io
use Rattle.ulb_read_io.proofs.ulb_read_io.Reads as ulb-read-io
use Rattle.ulb_read_io_c.proofs.ulb_read_io.Kinds as kinds-c-read-io
use Rattle.ulb_read_io_c.proofs.ulb_read_io.Reads as c-read-io

-- parameters, result, `requires` and `ensures` of a function of n references
abbrev Contract : ℕ → Type 3
Contract n = (ps : List (ParamKind n)) × (r : ResultKind n) × In n ps × Out n ps r

pub same_read_io : ◌≡◌ {A = Contract 7} (kinds-c-read-io.ps, kinds-c-read-io.r, c-read-io.Pre, c-read-io.Post) (kinds-read-io.ps, kinds-read-io.r, ulb-read-io.Pre, ulb-read-io.Post)
same_read_io = refl
