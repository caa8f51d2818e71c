-- WHY THE Z80 IS HELD: the delay's answer (machine, `delay_at`) against the pages' order of fetches, over any machine's numbers. Held, the ULA fetches
-- two columns, which are 2 x (x / 8) and the next, and the Z80 goes on at the clock of the last of their four fetches; outside nothing is fetched.
-- Assumes nothing.
use Prim.Native.Nat.{ℕ, zero, suc, ◌+◌, ◌-◌, ◌*◌, ◌/◌, ◌%◌, ◌<◌, ◌≤◌}
use mathlib.Core.Path.{◌≡◌, refl, sym, ap, subst, ◌∙◌}
use native.Mathlib.Omega.{arith}
use lib.ListN.{get_or}
use Rattle.machine.specs.declared.ZXMachine.{ZXMachine}
use Rattle.machine.specs.declared.ZXMachine.TheVariants.{Sinclair48K, Sinclair128K}
use Rattle.machine.specs.declared.ZXSpecs.{ZXSpecs}
use Rattle.machine.specs.declared.Delay.TheVariants.{Held, Outside}
use Rattle.machine.specs.Numbers.{specs_of, Regular}
use Rattle.machine.specs.Timing.{delay_at, clocks_held, first_column}
use Rattle.machine.specs.Pages.{Page, page_of}
use Rattle.machine.specs.Why.{InPicture}
use Rattle.machine.proofs.Agree.{Same, same}
use Rattle.machine.proofs.Numbered.{regular}
use Rattle.machine.proofs.Why.{found, number_in, why}
use Rattle.ports.specs.Pages.{Fetch, idle, bitmap_byte, attribute_byte, page_floating, bitmap_at, attribute_at}
use Rattle.ports.specs.Terms.{as_place, eight_clocks, Fetching}
use Rattle.ports.proofs.Fetches.{Within, place_within, agree_floating, bitmap_fetched, attribute_fetched, bitmap_only, attribute_only}
use Rattle.ports.proofs.BlockClocks.{in_numbers}

-- the page's first contended T-state is the one before its first byte is due
pub record Ahead (p : Page) : Type 0 where
  pub ahead : p.first_held + 1 ≡ p.first_byte

pub ahead_on : (m : ZXMachine) → Ahead (page_of m)
ahead_on Sinclair48K = record { ahead = refl }
ahead_on Sinclair128K = record { ahead = refl }

-- a fetch comes at place 3, 4, 5 or 6 of the eight clocks that the delays count
place_of : (x q v : ℕ) → v < 4 → x ≡ 3 + (8 * q + v) → 3 < (x + 5) % 8 → ⊥
place_of x q v h e far = omega arith

module _ (p : Page) (s : ZXSpecs) (e : Same p s) (w : Regular s) (a : Ahead p) where
  -- so the delays begin three clocks before the blocks
  three : s.contention + 3 ≡ s.block
  three = omega (arith, e.contention, e.block, a.ahead)

  wide : 128 ≤ p.per_line
  wide = omega (arith, e.line, w.wide)

  -- the clocks of a column's two fetches are in the picture
  module _ (t row column : ℕ) (h : row < 192) (g : column < 32) where
    bitmap_place : t ≡ bitmap_at p row column → InPicture s t row (3 + (8 * (column / 2) + 2 * (column % 2)))
    bitmap_place q = record { lines = h; clocks = omega arith; at = omega (arith, q, three, in_numbers p s e w row column h g) }

    attribute_place : t ≡ attribute_at p row column → InPicture s t row (3 + (8 * (column / 2) + (2 * (column % 2) + 1)))
    attribute_place q = record { lines = h; clocks = omega arith; at = omega (arith, q, three, in_numbers p s e w row column h g) }

  -- every fetch is one of a byte of the picture, so that a clock at which nothing of the picture is fetched is idle
  module _ (t : ℕ) (noBitmap : (row column : ℕ) → row < 192 → column < 32 → t ≡ bitmap_at p row column → ⊥)
      (noAttribute : (row column : ℕ) → row < 192 → column < 32 → t ≡ attribute_at p row column → ⊥) where
    inside : (f : Fetch) → page_floating p t ≡ f → Within (as_place f)
    inside f q = subst Within (sym (agree_floating p s e t) ∙ ap as_place q) (place_within s t)

    idle_by : (f : Fetch) → page_floating p t ≡ f → f ≡ idle
    idle_by idle q = refl
    idle_by (bitmap_byte row column) q = let i = inside (bitmap_byte row column) q in absurd (noBitmap row column i.0 i.1 (bitmap_only p wide row column t q))
    idle_by (attribute_byte row column) q =
        let i = inside (attribute_byte row column) q in absurd (noAttribute row column i.0 i.1 (attribute_only p wide row column t q))

    is_idle : page_floating p t ≡ idle
    is_idle = idle_by (page_floating p t) refl

  -- OUTSIDE THE PICTURE NOTHING IS FETCHED
  pub outside_idle : (t : ℕ) → delay_at s t ≡ Outside → page_floating p t ≡ idle
  outside_idle t o =
      is_idle t
      (λ row column h g q. (why s w.wide t).outside o row _ (bitmap_place t row column h g q))
      (λ row column h g q. (why s w.wide t).outside o row _ (attribute_place t row column h g q))

  -- in the picture nothing is fetched in the three clocks before the four fetches, and in the one behind them
  idle_there : (t line x : ℕ) → InPicture s t line x → 3 < (x + 5) % 8 → page_floating p t ≡ idle
  idle_there t line x i far =
      is_idle t
      (λ row column h g q. place_of x (column / 2) (2 * (column % 2)) (omega arith) (same_x row _ (bitmap_place t row column h g q)) far)
      (λ row column h g q. place_of x (column / 2) (2 * (column % 2) + 1) (omega arith) (same_x row _ (attribute_place t row column h g q)) far) where
        same_x : (row y : ℕ) → InPicture s t row y → x ≡ y
        same_x row y j = sym (found s w.wide t line x i).x_is ∙ (found s w.wide t row y j).x_is

  -- HELD: WHAT IS FETCHED, AND WHEN THE Z80 GOES ON
  module _ (t line x : ℕ) (i : InPicture s t line x) where
    abbrev first : ℕ
    first = first_column x

    at_first : bitmap_at p line first ≡ t - x % 8 + 3
    at_first = omega (arith, i.at, i.clocks, three, in_numbers p s e w line first i.lines (omega (arith, i.clocks)))

    at_next : bitmap_at p line (first + 1) ≡ t - x % 8 + 5
    at_next = omega (arith, i.at, i.clocks, three, in_numbers p s e w line (first + 1) i.lines (omega (arith, i.clocks)))

    quiet : (k : ℕ) → k < 8 → 3 < (k + 5) % 8 → page_floating p (t - x % 8 + k) ≡ idle
    quiet k h far =
        idle_there (t - x % 8 + k) line (x - x % 8 + k)
        (record { lines = i.lines; clocks = omega (arith, i.clocks); at = omega (arith, i.at) })
        (omega arith)

    in_eight : (k : ℕ) → k < 8 → page_floating p (t - x % 8 + k) ≡ get_or (eight_clocks line first) k idle
    in_eight zero h = quiet 0 h (omega arith)
    in_eight (suc zero) h = quiet 1 h (omega arith)
    in_eight (suc (suc zero)) h = quiet 2 h (omega arith)
    in_eight (suc (suc (suc zero))) h = ap (page_floating p) (sym at_first) ∙ bitmap_fetched p wide line first i.lines (omega (arith, i.clocks))
    in_eight (suc (suc (suc (suc zero)))) h =
        let q : t - x % 8 + 4 ≡ attribute_at p line first = omega (arith, at_first) in
        ap (page_floating p) q ∙ attribute_fetched p wide line first i.lines (omega (arith, i.clocks))
    in_eight (suc (suc (suc (suc (suc zero))))) h =
        ap (page_floating p) (sym at_next) ∙ bitmap_fetched p wide line (first + 1) i.lines (omega (arith, i.clocks))
    in_eight (suc (suc (suc (suc (suc (suc zero)))))) h =
        let q : t - x % 8 + 6 ≡ attribute_at p line (first + 1) = omega (arith, at_next) in
        ap (page_floating p) q ∙ attribute_fetched p wide line (first + 1) i.lines (omega (arith, i.clocks))
    in_eight (suc (suc (suc (suc (suc (suc (suc zero))))))) h = quiet 7 h (omega arith)
    in_eight (suc (suc (suc (suc (suc (suc (suc (suc k)))))))) h = let z : ⊥ = omega arith in absurd z

  pub fetching : (t line x clocks : ℕ) → delay_at s t ≡ Held line x clocks → Fetching p t line x clocks
  fetching t line x clocks q =
      let i = (why s w.wide t).held line x clocks q in
      let n : clocks ≡ 6 - x % 8 = sym (ap clocks_held q) ∙ number_in s w.wide t line x i in
      record {
        columns = in_eight t line x i;
        goes_on = λ h. omega (arith, at_next t line x i, n, i.at);
        not_held = λ h. omega (arith, at_next t line x i, n, i.at);
      }

-- on both machines
pub fetching_on : (m : ZXMachine) (t line x clocks : ℕ) → delay_at (specs_of m) t ≡ Held line x clocks → Fetching (page_of m) t line x clocks
fetching_on m = fetching (page_of m) (specs_of m) (same m) (regular m) (ahead_on m)

pub outside_idle_on : (m : ZXMachine) (t : ℕ) → delay_at (specs_of m) t ≡ Outside → page_floating (page_of m) t ≡ idle
outside_idle_on m = outside_idle (page_of m) (specs_of m) (same m) (regular m) (ahead_on m)
