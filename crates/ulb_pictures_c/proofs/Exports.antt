-- THE EXPORTS' CONTRACTS ARE THE FUNCTIONS': what each export is passed, returns, requires and ensures is what the function of its name in crate ulb_pictures is
-- passed, returns, requires and ensures. So what crate `runs` says of the functions it says of the calls that C makes.
-- Assumes nothing.
use Rattle.std.proofs.Common.{ℕ, List, ◌≡◌, refl}
use borrow.Fn.Kinds.{ParamKind, ResultKind, In, Out}
use Rattle.ulb_pictures.proofs.ulb_shown_picture.Kinds as kinds-shown-picture
use Rattle.ulb_pictures.proofs.ulb_shown_picture.Reads as ulb-shown-picture
use Rattle.ulb_pictures_c.proofs.ulb_shown_picture.Kinds as kinds-c-shown-picture
use Rattle.ulb_pictures_c.proofs.ulb_shown_picture.Reads as c-shown-picture
use Rattle.ulb_pictures.proofs.ulb_still_picture.Kinds as kinds-still-picture
use Rattle.ulb_pictures.proofs.ulb_still_picture.Reads as ulb-still-picture
use Rattle.ulb_pictures_c.proofs.ulb_still_picture.Kinds as kinds-c-still-picture
use Rattle.ulb_pictures_c.proofs.ulb_still_picture.Reads as c-still-picture

-- parameters, result, `requires` and `ensures` of a function of n references
abbrev Contract : ℕ → Type 3
Contract n = (ps : List (ParamKind n)) × (r : ResultKind n) × In n ps × Out n ps r

pub same_shown_picture : ◌≡◌ {A = Contract 4} (kinds-c-shown-picture.ps, kinds-c-shown-picture.r, c-shown-picture.Pre, c-shown-picture.Post) (kinds-shown-picture.ps, kinds-shown-picture.r, ulb-shown-picture.Pre, ulb-shown-picture.Post)
same_shown_picture = refl

pub same_still_picture : ◌≡◌ {A = Contract 3} (kinds-c-still-picture.ps, kinds-c-still-picture.r, c-still-picture.Pre, c-still-picture.Post) (kinds-still-picture.ps, kinds-still-picture.r, ulb-still-picture.Pre, ulb-still-picture.Post)
same_still_picture = refl
