-- What an accepted judgement tells of the lengths that a callee asks for.
-- Assumes nothing.
use Prim.Native.Nat.{ℕ, ◌+◌, ◌*◌, ◌≤◌, ◌<◌}
use mathlib.Core.Path.{◌≡◌, ap, ◌∙◌}
use mathlib.Core.Bool.{Bool, true}
use mathlib.Core.List.{List, []}
use lib.ListN.{length, replicate}
use native.Mathlib.Omega.{arith}
use borrow.Author.Tests.{leb-true}
use Rattle.machine.specs.declared.ZXMachine.{ZXMachine}
use Rattle.machine.specs.Numbers.{specs_of}
use Rattle.machine.specs.declared.ZXMachine.TheVariants.{Sinclair48K, Sinclair128K}
use Rattle.machine.specs.Limits.{picture_length, border_length}
use Rattle.record.specs.declared.Bus.{Bus}
use Rattle.memory.specs.declared.Page.{Page}
use Rattle.memory.specs.declared.Page.TheVariants as page
use Rattle.memory.specs.Paging.{page_at, page_exists, shown_page}
use Rattle.memory.specs.Memory.{ram_page, Holds}
use Rattle.memory.proofs.Places.{exists_fits, map_holds, shown_exists}
use Rattle.memory.proofs.Stored.{length_part}
use Rattle.bus.specs.World.{clear_ram, clear_picture, clear_border}
use Rattle.judgement.specs.Ready.{OnRecord, ReadyLoad, ReadyRamPage, ReadyBlock, ReadyLoadScr}

-- ---- what an accepted call may ask of the memory
-- a RAM page that is there is whole in RAM, and its number is one byte
pub page_fits : {state : List ℕ} {ram number : ℕ} {fits : Bool} {bus : Bus} → ReadyRamPage state ram number fits bus → 16384 * number + 16384 ≤ ram
page_fits {number = number} {bus = bus} r = rw r.ram_is (exists_fits bus.machine number r.exists)

pub load_fits : {state : List ℕ} {ram bytes number : ℕ} {bus : Bus} → ReadyLoad state ram bytes number bus → 16384 * number + bytes ≤ ram
load_fits {number = number} {bus = bus} r = rw (r.ram_is, r.bytes_is) (exists_fits bus.machine number r.exists)

-- and a screen file goes into its front
pub load_scr_fits : {state : List ℕ} {ram file number : ℕ} {bus : Bus} → ReadyLoadScr state ram file number bus → 16384 * number + file ≤ ram
load_scr_fits {number = number} {bus = bus} r = rw (r.ram_is, r.file_is) (omega (arith, exists_fits bus.machine number r.exists))

small : (m : ZXMachine) (number : ℕ) → page_exists m number ≡ true → number < 8
small Sinclair48K number e = omega (arith, leb-true number 2 e)
small Sinclair128K number e = omega (arith, leb-true number 7 e)

pub page_small : {state : List ℕ} {ram number : ℕ} {fits : Bool} {bus : Bus} → ReadyRamPage state ram number fits bus → number < 8
page_small {number = number} {bus = bus} r = small bus.machine number r.exists

-- so is the page at a block
pub block_holds : {state : List ℕ} {rom ram number : ℕ} {fits : Bool} {bus : Bus} (p : Page) → ReadyBlock state rom ram number fits bus
    → p ≡ page_at bus.machine bus.paging number → Holds p rom ram
block_holds {number = number} {bus = bus} p r e = rw (e, r.rom_is, r.ram_is) (map_holds bus.machine bus.paging number)

-- and the shown one, which is 16 KiB: the page of a still picture and of a screen file
pub shown_fits : {state : List ℕ} {ram : ℕ} {bus : Bus} (number : ℕ) → OnRecord state bus → ram ≡ (specs_of bus.machine).ram
    → number ≡ shown_page bus.machine bus.paging → 16384 * number + 16384 ≤ ram
shown_fits {bus = bus} number on r e =
    rw (e, r) (exists_fits bus.machine (shown_page bus.machine bus.paging) (shown_exists bus.machine bus.paging))

pub page_long : (number : ℕ) (ram bytes : List ℕ) → bytes ≡ ram_page number ram → 16384 * number + 16384 ≤ length ram → length bytes ≡ 16384
page_long number ram bytes e h = ap length e ∙ length_part (page.Ram number) [] ram h

-- ---- zeros as many as a start or an import asks for
pub ram_cleared : (m : ZXMachine) (n : ℕ) → n ≡ (specs_of m).ram → replicate n 0 ≡ clear_ram m
unfolding clear_ram
ram_cleared m n e = ap (λ (k : ℕ). replicate k 0) e

pub picture_cleared : (n : ℕ) → n ≡ picture_length → replicate n 0 ≡ clear_picture
unfolding clear_picture
picture_cleared n e = ap (λ (k : ℕ). replicate k 0) e

pub border_cleared : (n : ℕ) → n ≡ border_length → replicate n 0 ≡ clear_border
unfolding clear_border
border_cleared n e = ap (λ (k : ℕ). replicate k 0) e
