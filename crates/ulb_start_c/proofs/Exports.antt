-- THE EXPORTS' CONTRACTS ARE THE FUNCTIONS': what each export is passed, returns, requires and ensures is what the function of its name in crate ulb_start is
-- passed, returns, requires and ensures. So what crate `runs` says of the functions it says of the calls that C makes.
-- Assumes nothing.
use Rattle.std.proofs.Common.{ℕ, List, ◌≡◌, refl}
use borrow.Fn.Kinds.{ParamKind, ResultKind, In, Out}
use Rattle.ulb_start.proofs.ulb_start_colour.Kinds as kinds-start-colour
use Rattle.ulb_start.proofs.ulb_start_colour.Reads as ulb-start-colour
use Rattle.ulb_start_c.proofs.ulb_start_colour.Kinds as kinds-c-start-colour
use Rattle.ulb_start_c.proofs.ulb_start_colour.Reads as c-start-colour
use Rattle.ulb_start.proofs.ulb_start.Kinds as kinds-start
use Rattle.ulb_start.proofs.ulb_start.Reads as ulb-start
use Rattle.ulb_start_c.proofs.ulb_start.Kinds as kinds-c-start
use Rattle.ulb_start_c.proofs.ulb_start.Reads as c-start

-- parameters, result, `requires` and `ensures` of a function of n references
abbrev Contract : ℕ → Type 3
Contract n = (ps : List (ParamKind n)) × (r : ResultKind n) × In n ps × Out n ps r

pub same_start_colour : ◌≡◌ {A = Contract 5} (kinds-c-start-colour.ps, kinds-c-start-colour.r, c-start-colour.Pre, c-start-colour.Post) (kinds-start-colour.ps, kinds-start-colour.r, ulb-start-colour.Pre, ulb-start-colour.Post)
same_start_colour = refl

pub same_start : ◌≡◌ {A = Contract 5} (kinds-c-start.ps, kinds-c-start.r, c-start.Pre, c-start.Post) (kinds-start.ps, kinds-start.r, ulb-start.Pre, ulb-start.Post)
same_start = refl
