-- DETERMINACY of each call here: see crate contracts, proofs/Determined.antt.
-- Assumes nothing.
use mathlib.Core.Path.{◌≡◌}
use contract.Lifetimes.{Lfts}
use denote.Triple.Clauses.{AtExit}
use borrow.Fn.World.{ArgsD, ResD}
use borrow.Fn.Kinds.{ended_of}
use Rattle.contracts.proofs.Determined.{changed_equal, equal, told_equal}
use Rattle.ulb_pictures.specs.contracts.ulb_shown_picture as ulb-shown-picture
use Rattle.ulb_pictures.proofs.ulb_shown_picture.Kinds as ulb-shown-picture-kinds
use Rattle.ulb_pictures.proofs.ulb_shown_picture.Reads as ulb-shown-picture-contract
use Rattle.ulb_pictures.specs.contracts.shown_picture as shown-picture
use Rattle.ulb_pictures.proofs.shown_picture.Kinds as shown-picture-kinds
use Rattle.ulb_pictures.proofs.shown_picture.Reads as shown-picture-contract
use Rattle.ulb_pictures.specs.contracts.ulb_still_picture as ulb-still-picture
use Rattle.ulb_pictures.proofs.ulb_still_picture.Kinds as ulb-still-picture-kinds
use Rattle.ulb_pictures.proofs.ulb_still_picture.Reads as ulb-still-picture-contract

pub ulb_shown_picture_determined : (κs : Lfts 4) (a : ArgsD ulb-shown-picture.signature κs) (r r' : ResD ulb-shown-picture.signature κs)
    (s s' : AtExit (ended_of 4 ulb-shown-picture-kinds.ps ulb-shown-picture-kinds.r) κs)
    → ulb-shown-picture-contract.Post κs a r s → ulb-shown-picture-contract.Post κs a r' s'
    → (r ≡ r') × (s.1.1.1.0.now ≡ s'.1.1.1.0.now)
ulb_shown_picture_determined κs a r r' s s' p q = told_equal _ r r' s.1.1.1.0.now s'.1.1.1.0.now p q

pub shown_picture_determined : (κs : Lfts 2) (a : ArgsD shown-picture.signature κs) (r r' : ResD shown-picture.signature κs)
    (s s' : AtExit (ended_of 2 shown-picture-kinds.ps shown-picture-kinds.r) κs)
    → shown-picture-contract.Post κs a r s → shown-picture-contract.Post κs a r' s'
    → r.now ≡ r'.now
shown_picture_determined κs a r r' s s' p q = equal p q

pub ulb_still_picture_determined : (κs : Lfts 3) (a : ArgsD ulb-still-picture.signature κs) (r r' : ResD ulb-still-picture.signature κs)
    (s s' : AtExit (ended_of 3 ulb-still-picture-kinds.ps ulb-still-picture-kinds.r) κs)
    → ulb-still-picture-contract.Post κs a r s → ulb-still-picture-contract.Post κs a r' s'
    → (r ≡ r') × (s.1.1.0.now ≡ s'.1.1.0.now)
ulb_still_picture_determined κs a r r' s s' p q = changed_equal _ r r' s.1.1.0.now s'.1.1.0.now p q
