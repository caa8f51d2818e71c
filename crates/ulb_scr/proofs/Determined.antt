-- DETERMINACY of each call here: see crate contracts, proofs/Determined.antt.
-- Assumes nothing.
use mathlib.Core.Path.{◌≡◌}
use contract.Lifetimes.{Lfts}
use denote.Triple.Clauses.{AtExit}
use borrow.Fn.World.{ArgsD, ResD}
use borrow.Fn.Kinds.{ended_of}
use Rattle.contracts.proofs.Determined.{changed_equal}
use Rattle.ulb_scr.specs.contracts.ulb_save_scr as ulb-save-scr
use Rattle.ulb_scr.proofs.ulb_save_scr.Kinds as ulb-save-scr-kinds
use Rattle.ulb_scr.proofs.ulb_save_scr.Reads as ulb-save-scr-contract
use Rattle.ulb_scr.specs.contracts.ulb_load_scr as ulb-load-scr
use Rattle.ulb_scr.proofs.ulb_load_scr.Kinds as ulb-load-scr-kinds
use Rattle.ulb_scr.proofs.ulb_load_scr.Reads as ulb-load-scr-contract

pub ulb_save_scr_determined : (κs : Lfts 3) (a : ArgsD ulb-save-scr.signature κs) (r r' : ResD ulb-save-scr.signature κs)
    (s s' : AtExit (ended_of 3 ulb-save-scr-kinds.ps ulb-save-scr-kinds.r) κs)
    → ulb-save-scr-contract.Post κs a r s → ulb-save-scr-contract.Post κs a r' s'
    → (r ≡ r') × (s.1.1.0.now ≡ s'.1.1.0.now)
ulb_save_scr_determined κs a r r' s s' p q = changed_equal _ r r' s.1.1.0.now s'.1.1.0.now p q

pub ulb_load_scr_determined : (κs : Lfts 3) (a : ArgsD ulb-load-scr.signature κs) (r r' : ResD ulb-load-scr.signature κs)
    (s s' : AtExit (ended_of 3 ulb-load-scr-kinds.ps ulb-load-scr-kinds.r) κs)
    → ulb-load-scr-contract.Post κs a r s → ulb-load-scr-contract.Post κs a r' s'
    → (r ≡ r') × (s.1.0.now ≡ s'.1.0.now)
ulb_load_scr_determined κs a r r' s s' p q = changed_equal _ r r' s.1.0.now s'.1.0.now p q
