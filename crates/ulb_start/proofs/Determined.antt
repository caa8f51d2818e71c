-- DETERMINACY: see crate contracts, proofs/Determined.antt.
-- Assumes nothing.
use mathlib.Core.Path.{◌≡◌}
use contract.Lifetimes.{Lfts}
use denote.Triple.Clauses.{AtExit}
use borrow.Fn.World.{ArgsD, ResD}
use borrow.Fn.Kinds.{ended_of}
use Rattle.contracts.proofs.Determined.{start_equal}
use Rattle.ulb_start.specs.contracts.ulb_start as ulb-start
use Rattle.ulb_start.proofs.ulb_start.Kinds as ulb-start-kinds
use Rattle.ulb_start.proofs.ulb_start.Reads as ulb-start-contract
use Rattle.ulb_start.specs.contracts.ulb_start_colour as ulb-start-colour
use Rattle.ulb_start.proofs.ulb_start_colour.Kinds as ulb-start-colour-kinds
use Rattle.ulb_start.proofs.ulb_start_colour.Reads as ulb-start-colour-contract

pub ulb_start_determined : (κs : Lfts 5) (a : ArgsD ulb-start.signature κs) (r r' : ResD ulb-start.signature κs)
    (s s' : AtExit (ended_of 5 ulb-start-kinds.ps ulb-start-kinds.r) κs)
    → ulb-start-contract.Post κs a r s → ulb-start-contract.Post κs a r' s'
    → (r ≡ r') × (s.0.now ≡ s'.0.now) × (s.1.0.now ≡ s'.1.0.now) × (s.1.1.0.now ≡ s'.1.1.0.now) × (s.1.1.1.0.now ≡ s'.1.1.1.0.now) × (s.1.1.1.1.0.now ≡ s'.1.1.1.1.0.now)
ulb_start_determined κs a r r' s s' p q = start_equal _ r r' s.0.now s'.0.now s.1.0.now s'.1.0.now s.1.1.0.now s'.1.1.0.now s.1.1.1.0.now s'.1.1.1.0.now s.1.1.1.1.0.now s'.1.1.1.1.0.now p q

pub ulb_start_colour_determined : (κs : Lfts 5) (a : ArgsD ulb-start-colour.signature κs) (r r' : ResD ulb-start-colour.signature κs)
    (s s' : AtExit (ended_of 5 ulb-start-colour-kinds.ps ulb-start-colour-kinds.r) κs)
    → ulb-start-colour-contract.Post κs a r s → ulb-start-colour-contract.Post κs a r' s'
    → (r ≡ r') × (s.0.now ≡ s'.0.now) × (s.1.0.now ≡ s'.1.0.now) × (s.1.1.0.now ≡ s'.1.1.0.now) × (s.1.1.1.0.now ≡ s'.1.1.1.0.now) × (s.1.1.1.1.0.now ≡ s'.1.1.1.1.0.now)
ulb_start_colour_determined κs a r r' s s' p q = start_equal _ r r' s.0.now s'.0.now s.1.0.now s'.1.0.now s.1.1.0.now s'.1.1.0.now s.1.1.1.0.now s'.1.1.1.0.now s.1.1.1.1.0.now s'.1.1.1.1.0.now p q
