-- Where pages and bytes lie: every page of every map is there, whatever the 7FFD byte, and every address has its byte inside ROM or RAM.
-- Assumes nothing.
use Prim.Native.Nat.{ℕ, zero, suc, ◌+◌, ◌*◌, ◌/◌, ◌%◌, ◌≤◌, ◌<◌}
use mathlib.Core.Path.{◌≡◌, refl}
use mathlib.Core.Bool.{true}
use native.Mathlib.Omega.{arith}
use lib.Dec.{lit≤}
use borrow.Author.Tests.{le-leb, leb-true}
use Rattle.laws.proofs.Cases.{by_bool}
use Rattle.machine.specs.declared.ZXMachine.{ZXMachine}
use Rattle.machine.specs.declared.ZXMachine.TheVariants.{Sinclair48K, Sinclair128K}
use Rattle.machine.specs.Numbers.{specs_of}
use Rattle.memory.specs.declared.Page.{Page}
use Rattle.memory.specs.declared.Page.TheVariants as page
use Rattle.memory.specs.declared.Place.TheVariants.{Rom, Ram}
use Rattle.memory.specs.Paging.{bit_set, page_at, shown_page, last_page, page_exists}
use Rattle.memory.specs.Memory.{place_in, place_of, Holds, Within}

-- the page at any block of any map is whole in the machine's ROM or RAM
pub map_holds : (m : ZXMachine) (paging block : ℕ) → Holds (page_at m paging block) (specs_of m).rom (specs_of m).ram
map_holds Sinclair48K paging zero = lit≤ tt
map_holds Sinclair48K paging (suc zero) = lit≤ tt
map_holds Sinclair48K paging (suc (suc zero)) = lit≤ tt
map_holds Sinclair48K paging (suc (suc (suc zero))) = lit≤ tt
map_holds Sinclair48K paging (suc (suc (suc (suc block)))) = lit≤ tt
map_holds Sinclair128K paging zero = omega arith
map_holds Sinclair128K paging (suc zero) = lit≤ tt
map_holds Sinclair128K paging (suc (suc zero)) = lit≤ tt
map_holds Sinclair128K paging (suc (suc (suc zero))) = omega arith
map_holds Sinclair128K paging (suc (suc (suc (suc block)))) = lit≤ tt

-- a byte of such a page lies inside
in_page : (m : ZXMachine) (p : Page) (offset : ℕ) → offset < 16384 → Holds p (specs_of m).rom (specs_of m).ram → Within m (place_in p offset)
in_page m (page.Rom p) offset h f = omega arith
in_page m (page.Ram p) offset h f = omega arith

-- so every address has its byte inside the machine's ROM or RAM
pub place_within : (m : ZXMachine) (paging addr : ℕ) → Within m (place_of m paging addr)
unfolding place_of
place_within m paging addr = in_page m (page_at m paging (addr / 16384)) (addr % 16384) (omega arith) (map_holds m paging (addr / 16384))

-- the same, of a place that is known to be in ROM or in RAM
pub rom_within : (m : ZXMachine) (paging addr at : ℕ) → place_of m paging addr ≡ Rom at → at < (specs_of m).rom
rom_within m paging addr at e = rw e at (place_within m paging addr)

pub ram_within : (m : ZXMachine) (paging addr at : ℕ) → place_of m paging addr ≡ Ram at → at < (specs_of m).ram
ram_within m paging addr at e = rw e at (place_within m paging addr)

-- a RAM page exists exactly where its 16,384 bytes are in RAM: what refusal 7 leaves can be handed out and loaded
pub exists_fits : (m : ZXMachine) (p : ℕ) → page_exists m p ≡ true → 16384 * p + 16384 ≤ (specs_of m).ram
exists_fits Sinclair48K p e = omega (arith, leb-true p (last_page Sinclair48K) e)
exists_fits Sinclair128K p e = omega (arith, leb-true p (last_page Sinclair128K) e)

pub fits_exists : (m : ZXMachine) (p : ℕ) → 16384 * p + 16384 ≤ (specs_of m).ram → page_exists m p ≡ true
fits_exists Sinclair48K p h = le-leb p (last_page Sinclair48K) (omega arith)
fits_exists Sinclair128K p h = le-leb p (last_page Sinclair128K) (omega arith)

-- RAM is its pages, with nothing left over
pub ram_is_pages : (m : ZXMachine) → 16384 * (last_page m + 1) ≡ (specs_of m).ram
ram_is_pages Sinclair48K = refl
ram_is_pages Sinclair128K = refl

-- every RAM page of every map exists
pub map_exists : (m : ZXMachine) (paging block p : ℕ) → page_at m paging block ≡ page.Ram p → page_exists m p ≡ true
map_exists m paging block p e = fits_exists m p (rw e at (map_holds m paging block))

-- and so does the page that the screen shows
pub shown_exists : (m : ZXMachine) (paging : ℕ) → page_exists m (shown_page m paging) ≡ true
shown_exists Sinclair48K paging = refl
shown_exists Sinclair128K paging = by_bool (λ (p : ℕ). page_exists Sinclair128K p ≡ true) (bit_set 3 paging) (λ e. refl) (λ e. refl)
