-- A PICTURE SHOWS THE FIRST 6,912 BYTES OF ITS PAGE, bitmap and attributes, and no other: two pages, or a page and a screen file, that agree there are
-- painted alike.
-- Assumes nothing.
use mathlib.Core.Path.{◌≡◌, refl, ap₂}
use mathlib.Core.Bool.{Bool}
use mathlib.Core.List.{List, ◌++◌}
use Prim.Native.Nat.{ℕ, zero, suc, ◌+◌, ◌≤◌, ◌<◌}
use native.Mathlib.Omega.{arith}
use lib.ListN.{get_or}
use Rattle.offsets.specs.Offset.{offset_of}
use Rattle.screen.specs.Address.{attribute_offset}
use Rattle.screen.specs.Pixel.{block_of}
use Rattle.paint.specs.Paint.{block_at, blocks}

module _ (page page' : List ℕ) (alike : (i : ℕ) → i < 6912 → get_or page i 0 ≡ get_or page' i 0) (flash : Bool) where
  pub front_block : (k : ℕ) → k < 6144 → block_at page flash k ≡ block_at page' flash k
  front_block k h =
      let bitmap : offset_of k < 6912 = omega arith in
      let attribute : attribute_offset k < 6912 = omega arith in
      λ i. block_of (alike (attribute_offset k) attribute i) (alike (offset_of k) bitmap i) flash

  pub front_blocks : (from n : ℕ) → from + n ≤ 6144 → blocks page flash from n ≡ blocks page' flash from n
  unfolding blocks
  front_blocks from zero h = refl
  front_blocks from (suc n) h = ap₂ (λ (x y : List ℕ). x ++ y) (front_blocks from n (omega arith)) (front_block (from + n) (omega arith))
