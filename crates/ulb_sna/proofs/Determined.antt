-- DETERMINACY: see crate contracts, proofs/Determined.antt.
-- Assumes nothing.
use mathlib.Core.Path.{◌≡◌}
use contract.Lifetimes.{Lfts}
use denote.Triple.Clauses.{AtExit}
use borrow.Fn.World.{ArgsD, ResD}
use borrow.Fn.Kinds.{ended_of}
use Rattle.contracts.proofs.Determined.{import_equal, changed_equal}
use Rattle.ulb_sna.specs.contracts.ulb_load_sna as ulb-load-sna
use Rattle.ulb_sna.proofs.ulb_load_sna.Kinds as ulb-load-sna-kinds
use Rattle.ulb_sna.proofs.ulb_load_sna.Reads as ulb-load-sna-contract
use Rattle.ulb_sna.specs.contracts.ulb_save_sna as ulb-save-sna
use Rattle.ulb_sna.proofs.ulb_save_sna.Kinds as ulb-save-sna-kinds
use Rattle.ulb_sna.proofs.ulb_save_sna.Reads as ulb-save-sna-contract

pub ulb_load_sna_determined : (κs : Lfts 7) (a : ArgsD ulb-load-sna.signature κs) (r r' : ResD ulb-load-sna.signature κs)
    (s s' : AtExit (ended_of 7 ulb-load-sna-kinds.ps ulb-load-sna-kinds.r) κs)
    → ulb-load-sna-contract.Post κs a r s → ulb-load-sna-contract.Post κs a r' s'
    → (r ≡ r') × (s.0.now ≡ s'.0.now) × (s.1.0.now ≡ s'.1.0.now) × (s.1.1.1.0.now ≡ s'.1.1.1.0.now) × (s.1.1.1.1.0.now ≡ s'.1.1.1.1.0.now) × (s.1.1.1.1.1.0.now ≡ s'.1.1.1.1.1.0.now) × (s.1.1.1.1.1.1.0.now ≡ s'.1.1.1.1.1.1.0.now)
ulb_load_sna_determined κs a r r' s s' p q = import_equal _ r r' s.0.now s'.0.now s.1.0.now s'.1.0.now s.1.1.1.0.now s'.1.1.1.0.now s.1.1.1.1.0.now s'.1.1.1.1.0.now s.1.1.1.1.1.0.now s'.1.1.1.1.1.0.now s.1.1.1.1.1.1.0.now s'.1.1.1.1.1.1.0.now p q

pub ulb_save_sna_determined : (κs : Lfts 4) (a : ArgsD ulb-save-sna.signature κs) (r r' : ResD ulb-save-sna.signature κs)
    (s s' : AtExit (ended_of 4 ulb-save-sna-kinds.ps ulb-save-sna-kinds.r) κs)
    → ulb-save-sna-contract.Post κs a r s → ulb-save-sna-contract.Post κs a r' s'
    → (r ≡ r') × (s.1.1.0.now ≡ s'.1.1.0.now)
ulb_save_sna_determined κs a r r' s s' p q = changed_equal _ r r' s.1.1.0.now s'.1.1.0.now p q
