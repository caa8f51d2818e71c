-- DETERMINACY of each call here: see crate contracts, proofs/Determined.antt.
-- Assumes nothing.
use mathlib.Core.Path.{◌≡◌}
use contract.Lifetimes.{Lfts}
use denote.Triple.Clauses.{AtExit}
use borrow.Fn.World.{ArgsD, ResD}
use borrow.Fn.Kinds.{ended_of}
use Rattle.contracts.proofs.Determined.{changed_equal, equal, told_equal}
use Rattle.ulb_memory.specs.contracts.ulb_read_internal as ulb-read-internal
use Rattle.ulb_memory.proofs.ulb_read_internal.Kinds as ulb-read-internal-kinds
use Rattle.ulb_memory.proofs.ulb_read_internal.Reads as ulb-read-internal-contract
use Rattle.ulb_memory.specs.contracts.ulb_load_page as ulb-load-page
use Rattle.ulb_memory.proofs.ulb_load_page.Kinds as ulb-load-page-kinds
use Rattle.ulb_memory.proofs.ulb_load_page.Reads as ulb-load-page-contract
use Rattle.ulb_memory.specs.contracts.ulb_ram_page as ulb-ram-page
use Rattle.ulb_memory.proofs.ulb_ram_page.Kinds as ulb-ram-page-kinds
use Rattle.ulb_memory.proofs.ulb_ram_page.Reads as ulb-ram-page-contract
use Rattle.ulb_memory.specs.contracts.ulb_block as ulb-block
use Rattle.ulb_memory.proofs.ulb_block.Kinds as ulb-block-kinds
use Rattle.ulb_memory.proofs.ulb_block.Reads as ulb-block-contract
use Rattle.ulb_memory.specs.contracts.ram_page as ram-page
use Rattle.ulb_memory.proofs.ram_page.Kinds as ram-page-kinds
use Rattle.ulb_memory.proofs.ram_page.Reads as ram-page-contract
use Rattle.ulb_memory.specs.contracts.block as block
use Rattle.ulb_memory.proofs.block.Kinds as block-kinds
use Rattle.ulb_memory.proofs.block.Reads as block-contract

pub ulb_read_internal_determined : (κs : Lfts 4) (a : ArgsD ulb-read-internal.signature κs) (r r' : ResD ulb-read-internal.signature κs)
    (s s' : AtExit (ended_of 4 ulb-read-internal-kinds.ps ulb-read-internal-kinds.r) κs)
    → ulb-read-internal-contract.Post κs a r s → ulb-read-internal-contract.Post κs a r' s'
    → (r ≡ r') × (s.1.1.1.1.0.now ≡ s'.1.1.1.1.0.now)
ulb_read_internal_determined κs a r r' s s' p q = told_equal _ r r' s.1.1.1.1.0.now s'.1.1.1.1.0.now p q

pub ulb_load_page_determined : (κs : Lfts 3) (a : ArgsD ulb-load-page.signature κs) (r r' : ResD ulb-load-page.signature κs)
    (s s' : AtExit (ended_of 3 ulb-load-page-kinds.ps ulb-load-page-kinds.r) κs)
    → ulb-load-page-contract.Post κs a r s → ulb-load-page-contract.Post κs a r' s'
    → (r ≡ r') × (s.1.0.now ≡ s'.1.0.now)
ulb_load_page_determined κs a r r' s s' p q = changed_equal _ r r' s.1.0.now s'.1.0.now p q

pub ulb_ram_page_determined : (κs : Lfts 3) (a : ArgsD ulb-ram-page.signature κs) (r r' : ResD ulb-ram-page.signature κs)
    (s s' : AtExit (ended_of 3 ulb-ram-page-kinds.ps ulb-ram-page-kinds.r) κs)
    → ulb-ram-page-contract.Post κs a r s → ulb-ram-page-contract.Post κs a r' s'
    → (r ≡ r') × (s.1.1.1.0.now ≡ s'.1.1.1.0.now)
ulb_ram_page_determined κs a r r' s s' p q = told_equal _ r r' s.1.1.1.0.now s'.1.1.1.0.now p q

pub ulb_block_determined : (κs : Lfts 4) (a : ArgsD ulb-block.signature κs) (r r' : ResD ulb-block.signature κs)
    (s s' : AtExit (ended_of 4 ulb-block-kinds.ps ulb-block-kinds.r) κs)
    → ulb-block-contract.Post κs a r s → ulb-block-contract.Post κs a r' s'
    → (r ≡ r') × (s.1.1.1.1.0.now ≡ s'.1.1.1.1.0.now)
ulb_block_determined κs a r r' s s' p q = told_equal _ r r' s.1.1.1.1.0.now s'.1.1.1.1.0.now p q

pub ram_page_determined : (κs : Lfts 2) (a : ArgsD ram-page.signature κs) (r r' : ResD ram-page.signature κs)
    (s s' : AtExit (ended_of 2 ram-page-kinds.ps ram-page-kinds.r) κs)
    → ram-page-contract.Post κs a r s → ram-page-contract.Post κs a r' s'
    → r.now ≡ r'.now
ram_page_determined κs a r r' s s' p q = equal p q

pub block_determined : (κs : Lfts 2) (a : ArgsD block.signature κs) (r r' : ResD block.signature κs)
    (s s' : AtExit (ended_of 2 block-kinds.ps block-kinds.r) κs)
    → block-contract.Post κs a r s → block-contract.Post κs a r' s'
    → r.now ≡ r'.now
block_determined κs a r r' s s' p q = equal p q
