-- DETERMINACY: see crate contracts, proofs/Determined.antt.
-- Assumes nothing.
use mathlib.Core.Path.{◌≡◌}
use contract.Lifetimes.{Lfts}
use denote.Triple.Clauses.{AtExit}
use borrow.Fn.World.{ArgsD, ResD}
use borrow.Fn.Kinds.{ended_of}
use Rattle.contracts.proofs.Determined.{outcome_equal}
use Rattle.ulb_wait_mreq.specs.contracts.ulb_wait_mreq as ulb-wait-mreq
use Rattle.ulb_wait_mreq.proofs.ulb_wait_mreq.Kinds as ulb-wait-mreq-kinds
use Rattle.ulb_wait_mreq.proofs.ulb_wait_mreq.Reads as ulb-wait-mreq-contract

pub ulb_wait_mreq_determined : (κs : Lfts 6) (a : ArgsD ulb-wait-mreq.signature κs) (r r' : ResD ulb-wait-mreq.signature κs)
    (s s' : AtExit (ended_of 6 ulb-wait-mreq-kinds.ps ulb-wait-mreq-kinds.r) κs)
    → ulb-wait-mreq-contract.Post κs a r s → ulb-wait-mreq-contract.Post κs a r' s'
    → (r ≡ r') × (s.0.now ≡ s'.0.now) × (s.1.1.0.now ≡ s'.1.1.0.now) × (s.1.1.1.0.now ≡ s'.1.1.1.0.now) × (s.1.1.1.1.0.now ≡ s'.1.1.1.1.0.now) × (s.1.1.1.1.1.1.1.0.now ≡ s'.1.1.1.1.1.1.1.0.now)
ulb_wait_mreq_determined κs a r r' s s' p q = outcome_equal _ r r' _ s.0.now s'.0.now s.1.1.0.now s'.1.1.0.now s.1.1.1.0.now s'.1.1.1.0.now s.1.1.1.1.0.now s'.1.1.1.1.0.now s.1.1.1.1.1.1.1.0.now s'.1.1.1.1.1.1.1.0.now p q
