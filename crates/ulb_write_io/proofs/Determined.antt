-- DETERMINACY: see crate contracts, proofs/Determined.antt.
-- Assumes nothing.
use mathlib.Core.Path.{◌≡◌}
use contract.Lifetimes.{Lfts}
use denote.Triple.Clauses.{AtExit}
use borrow.Fn.World.{ArgsD, ResD}
use borrow.Fn.Kinds.{ended_of}
use Rattle.contracts.proofs.Determined.{outcome_equal}
use Rattle.ulb_write_io.specs.contracts.ulb_write_io as ulb-write-io
use Rattle.ulb_write_io.proofs.ulb_write_io.Kinds as ulb-write-io-kinds
use Rattle.ulb_write_io.proofs.ulb_write_io.Reads as ulb-write-io-contract

pub ulb_write_io_determined : (κs : Lfts 7) (a : ArgsD ulb-write-io.signature κs) (r r' : ResD ulb-write-io.signature κs)
    (s s' : AtExit (ended_of 7 ulb-write-io-kinds.ps ulb-write-io-kinds.r) κs)
    → ulb-write-io-contract.Post κs a r s → ulb-write-io-contract.Post κs a r' s'
    → (r ≡ r') × (s.0.now ≡ s'.0.now) × (s.1.1.1.0.now ≡ s'.1.1.1.0.now) × (s.1.1.1.1.0.now ≡ s'.1.1.1.1.0.now) × (s.1.1.1.1.1.0.now ≡ s'.1.1.1.1.1.0.now) × (s.1.1.1.1.1.1.1.1.0.now ≡ s'.1.1.1.1.1.1.1.1.0.now)
ulb_write_io_determined κs a r r' s s' p q = outcome_equal _ r r' _ s.0.now s'.0.now s.1.1.1.0.now s'.1.1.1.0.now s.1.1.1.1.0.now s'.1.1.1.1.0.now s.1.1.1.1.1.0.now s'.1.1.1.1.1.0.now s.1.1.1.1.1.1.1.1.0.now s'.1.1.1.1.1.1.1.1.0.now p q
