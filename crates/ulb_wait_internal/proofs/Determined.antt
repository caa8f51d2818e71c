-- DETERMINACY: see crate contracts, proofs/Determined.antt.
-- Assumes nothing.
use mathlib.Core.Path.{◌≡◌}
use contract.Lifetimes.{Lfts}
use denote.Triple.Clauses.{AtExit}
use borrow.Fn.World.{ArgsD, ResD}
use borrow.Fn.Kinds.{ended_of}
use Rattle.contracts.proofs.Determined.{outcome_equal}
use Rattle.ulb_wait_internal.specs.contracts.ulb_wait_internal as ulb-wait-internal
use Rattle.ulb_wait_internal.proofs.ulb_wait_internal.Kinds as ulb-wait-internal-kinds
use Rattle.ulb_wait_internal.proofs.ulb_wait_internal.Reads as ulb-wait-internal-contract

pub ulb_wait_internal_determined : (κs : Lfts 6) (a : ArgsD ulb-wait-internal.signature κs) (r r' : ResD ulb-wait-internal.signature κs)
    (s s' : AtExit (ended_of 6 ulb-wait-internal-kinds.ps ulb-wait-internal-kinds.r) κs)
    → ulb-wait-internal-contract.Post κs a r s → ulb-wait-internal-contract.Post κs a r' s'
    → (r ≡ r') × (s.0.now ≡ s'.0.now) × (s.1.1.0.now ≡ s'.1.1.0.now) × (s.1.1.1.0.now ≡ s'.1.1.1.0.now) × (s.1.1.1.1.0.now ≡ s'.1.1.1.1.0.now) × (s.1.1.1.1.1.1.0.now ≡ s'.1.1.1.1.1.1.0.now)
ulb_wait_internal_determined κs a r r' s s' p q = outcome_equal _ r r' _ s.0.now s'.0.now s.1.1.0.now s'.1.1.0.now s.1.1.1.0.now s'.1.1.1.0.now s.1.1.1.1.0.now s'.1.1.1.1.0.now s.1.1.1.1.1.1.0.now s'.1.1.1.1.1.1.0.now p q
