-- DETERMINACY: see crate contracts, proofs/Determined.antt.
-- Assumes nothing.
use mathlib.Core.Path.{◌≡◌}
use contract.Lifetimes.{Lfts}
use denote.Triple.Clauses.{AtExit}
use borrow.Fn.World.{ArgsD, ResD}
use borrow.Fn.Kinds.{ended_of}
use Rattle.contracts.proofs.Determined.{changed_equal}
use Rattle.ulb_write_internal.specs.contracts.ulb_write_internal as ulb-write-internal
use Rattle.ulb_write_internal.proofs.ulb_write_internal.Kinds as ulb-write-internal-kinds
use Rattle.ulb_write_internal.proofs.ulb_write_internal.Reads as ulb-write-internal-contract

pub ulb_write_internal_determined : (κs : Lfts 2) (a : ArgsD ulb-write-internal.signature κs) (r r' : ResD ulb-write-internal.signature κs)
    (s s' : AtExit (ended_of 2 ulb-write-internal-kinds.ps ulb-write-internal-kinds.r) κs)
    → ulb-write-internal-contract.Post κs a r s → ulb-write-internal-contract.Post κs a r' s'
    → (r ≡ r') × (s.1.0.now ≡ s'.1.0.now)
ulb_write_internal_determined κs a r r' s s' p q = changed_equal _ r r' s.1.0.now s'.1.0.now p q
