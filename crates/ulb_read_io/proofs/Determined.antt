-- DETERMINACY: see crate contracts, proofs/Determined.antt.
-- Assumes nothing.
use mathlib.Core.Path.{◌≡◌}
use contract.Lifetimes.{Lfts}
use denote.Triple.Clauses.{AtExit}
use borrow.Fn.World.{ArgsD, ResD}
use borrow.Fn.Kinds.{ended_of}
use Rattle.contracts.proofs.Determined.{outcome_equal}
use Rattle.ulb_read_io.specs.contracts.ulb_read_io as ulb-read-io
use Rattle.ulb_read_io.proofs.ulb_read_io.Kinds as ulb-read-io-kinds
use Rattle.ulb_read_io.proofs.ulb_read_io.Reads as ulb-read-io-contract

pub ulb_read_io_determined : (κs : Lfts 7) (a : ArgsD ulb-read-io.signature κs) (r r' : ResD ulb-read-io.signature κs)
    (s s' : AtExit (ended_of 7 ulb-read-io-kinds.ps ulb-read-io-kinds.r) κs)
    → ulb-read-io-contract.Post κs a r s → ulb-read-io-contract.Post κs a r' s'
    → (r ≡ r') × (s.0.now ≡ s'.0.now) × (s.1.1.1.0.now ≡ s'.1.1.1.0.now) × (s.1.1.1.1.0.now ≡ s'.1.1.1.1.0.now) × (s.1.1.1.1.1.0.now ≡ s'.1.1.1.1.1.0.now) × (s.1.1.1.1.1.1.1.0.now ≡ s'.1.1.1.1.1.1.1.0.now)
ulb_read_io_determined κs a r r' s s' p q = outcome_equal _ r r' _ s.0.now s'.0.now s.1.1.1.0.now s'.1.1.1.0.now s.1.1.1.1.0.now s'.1.1.1.1.0.now s.1.1.1.1.1.0.now s'.1.1.1.1.1.0.now s.1.1.1.1.1.1.1.0.now s'.1.1.1.1.1.1.1.0.now p q
