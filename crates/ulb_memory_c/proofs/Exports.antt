-- THE EXPORTS' CONTRACTS ARE THE FUNCTIONS': what each export is passed, returns, requires and ensures is what the function of its name in crate ulb_memory is
-- passed, returns, requires and ensures. So what crate `runs` says of the functions it says of the calls that C makes.
-- Assumes nothing.
use Rattle.std.proofs.Common.{ℕ, List, ◌≡◌, refl}
use borrow.Fn.Kinds.{ParamKind, ResultKind, In, Out}
use Rattle.ulb_memory.proofs.ulb_read_internal.Kinds as kinds-read-internal
use Rattle.ulb_memory.proofs.ulb_read_internal.Reads as ulb-read-internal
use Rattle.ulb_memory_c.proofs.ulb_read_internal.Kinds as kinds-c-read-internal
use Rattle.ulb_memory_c.proofs.ulb_read_internal.Reads as c-read-internal
use Rattle.ulb_memory.proofs.ulb_load_page.Kinds as kinds-load-page
use Rattle.ulb_memory.proofs.ulb_load_page.Reads as ulb-load-page
use Rattle.ulb_memory_c.proofs.ulb_load_page.Kinds as kinds-c-load-page
use Rattle.ulb_memory_c.proofs.ulb_load_page.Reads as c-load-page
use Rattle.ulb_memory.proofs.ulb_ram_page.Kinds as kinds-ram-page
use Rattle.ulb_memory.proofs.ulb_ram_page.Reads as ulb-ram-page
use Rattle.ulb_memory_c.proofs.ulb_ram_page.Kinds as kinds-c-ram-page
use Rattle.ulb_memory_c.proofs.ulb_ram_page.Reads as c-ram-page
use Rattle.ulb_memory.proofs.ulb_block.Kinds as kinds-block
use Rattle.ulb_memory.proofs.ulb_block.Reads as ulb-block
use Rattle.ulb_memory_c.proofs.ulb_block.Kinds as kinds-c-block
use Rattle.ulb_memory_c.proofs.ulb_block.Reads as c-block

-- parameters, result, `requires` and `ensures` of a function of n references
abbrev Contract : ℕ → Type 3
Contract n = (ps : List (ParamKind n)) × (r : ResultKind n) × In n ps × Out n ps r

pub same_read_internal : ◌≡◌ {A = Contract 4} (kinds-c-read-internal.ps, kinds-c-read-internal.r, c-read-internal.Pre, c-read-internal.Post) (kinds-read-internal.ps, kinds-read-internal.r, ulb-read-internal.Pre, ulb-read-internal.Post)
same_read_internal = refl

pub same_load_page : ◌≡◌ {A = Contract 3} (kinds-c-load-page.ps, kinds-c-load-page.r, c-load-page.Pre, c-load-page.Post) (kinds-load-page.ps, kinds-load-page.r, ulb-load-page.Pre, ulb-load-page.Post)
same_load_page = refl

pub same_ram_page : ◌≡◌ {A = Contract 3} (kinds-c-ram-page.ps, kinds-c-ram-page.r, c-ram-page.Pre, c-ram-page.Post) (kinds-ram-page.ps, kinds-ram-page.r, ulb-ram-page.Pre, ulb-ram-page.Post)
same_ram_page = refl

pub same_block : ◌≡◌ {A = Contract 4} (kinds-c-block.ps, kinds-c-block.r, c-block.Pre, c-block.Post) (kinds-block.ps, kinds-block.r, ulb-block.Pre, ulb-block.Post)
same_block = refl
