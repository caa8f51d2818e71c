-- When document 01 takes the two bytes of a block, and when the ULA fetches them by the pages: where the two agree, and by how many T-states they
-- part, once over any machine's numbers.
-- Assumes nothing.
use Prim.Native.Nat.{ℕ, ◌+◌, ◌-◌, ◌*◌, ◌/◌, ◌%◌, ◌<◌}
use mathlib.Core.Path.{◌≡◌, refl, ap₂, ◌∙◌}
use native.Mathlib.Omega.{arith}
use lib.Dec.{leb}
use Rattle.machine.specs.declared.ZXMachine.{ZXMachine}
use Rattle.machine.specs.declared.ZXMachine.TheVariants.{Sinclair48K}
use Rattle.machine.specs.declared.ZXSpecs.{ZXSpecs}
use Rattle.machine.specs.Numbers.{specs_of, Regular}
use Rattle.machine.specs.Timing.{block_position}
use Rattle.machine.specs.Pages.{Page, page_of, laps}
use Rattle.machine.proofs.Agree.{Same, same}
use Rattle.machine.proofs.Numbered.{regular}
use Rattle.machine.proofs.Reached.{block_reached}
use Rattle.ports.specs.Pages.{bitmap_in, bitmap_at, attribute_at}
use Rattle.ports.specs.Terms.{block_clock, Parted}
use Rattle.ports.proofs.Fetches.{bitmap_sum}

module _ (p : Page) (s : ZXSpecs) (e : Same p s) (w : Regular s) (row column : ℕ) (h : row < 192) (g : column < 32) where
  clock_reached : (t : ℕ) → leb (32 * row + column + 1) (block_position s t) ≡ leb (block_clock s row column) t
  clock_reached t =
      let n = 32 * row + column + 1 in
      let a : (n - 1) / 32 ≡ row = omega arith in
      let b : (n - 1) % 32 ≡ column = omega arith in
      let c : s.block + row * s.line + column * 4 ≡ block_clock s row column = omega arith in
      block_reached s w t n (omega arith) (omega arith) ∙ (rw (a, b, c) refl)

  -- the T-state of a column's bitmap byte in document 01's numbers
  pub in_numbers : bitmap_at p row column ≡ s.block + row * s.line + (8 * (column / 2) + 2 * (column % 2))
  in_numbers = bitmap_sum p row column ∙ ap₂ (λ (x y : ℕ). x + row * y + (8 * (column / 2) + 2 * (column % 2))) e.block e.line

  -- THE PARTING, line by line and column by column
  pub parted : Parted p s row column
  parted =
      record {
        reached = clock_reached;
        even_bitmap = λ o. omega (arith, in_numbers);
        even_attribute = λ o. omega (arith, in_numbers);
        odd_bitmap = λ o. omega (arith, in_numbers);
        odd_attribute = λ o. omega (arith, in_numbers);
      }

  -- so of the two bytes of 32 columns the bitmap bytes of the even ones are fetched when document 01 takes them, and no other byte is
  pub same_only_even : bitmap_at p row column ≡ block_clock s row column → column % 2 ≡ 0
  same_only_even q = omega (arith, in_numbers)

  pub attribute_never : attribute_at p row column ≡ block_clock s row column → ⊥
  attribute_never q = omega (arith, in_numbers)

-- on both machines
pub parted_on : (m : ZXMachine) (row column : ℕ) → row < 192 → column < 32 → Parted (page_of m) (specs_of m) row column
parted_on m row column h g = parted (page_of m) (specs_of m) (same m) (regular m) row column h g

-- 48K, line 0: column 0's attribute at 14,339, which 01 takes at 14,338; column 1's bytes at 14,340 and 14,341, which 01 takes at 14,342
pub column_0_48k : attribute_at (page_of Sinclair48K) 0 0 ≡ 14339
unfolding bitmap_in laps
column_0_48k = refl

pub column_1_48k : (bitmap_at (page_of Sinclair48K) 0 1 ≡ 14340) × (attribute_at (page_of Sinclair48K) 0 1 ≡ 14341) × (block_clock (specs_of Sinclair48K) 0 1 ≡ 14342)
unfolding bitmap_in laps
column_1_48k = (refl, refl, refl)
