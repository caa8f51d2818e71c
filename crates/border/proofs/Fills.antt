-- The laws of a fill: what callers use in place of its definition.
-- Assumes nothing.
use mathlib.Core.Path.{◌≡◌, ◌∙◌, ap}
use mathlib.Core.List.{List}
use mathlib.Core.Logic.{◌⊎◌, inl, inr}
use Prim.Native.Nat.{ℕ, zero, suc, ◌+◌, ◌-◌, ◌≤◌, ◌<◌}
use native.Mathlib.Nat.{add-zero}
use native.Mathlib.Omega.{arith}
use lib.ListN.{length, get_or, set, replicate, length-replicate, get_or-replicate}
use lib.Seq.{sets, length-sets}
use borrow.Rule.Slice.PartMut.{put_mid}
use Rattle.laws.proofs.Stores.{stored, sets_out, sets_in}
use Rattle.border.specs.Edge.{filled}

-- one more pixel of the run
store_more : (k : ℕ) (l : List ℕ) (i v : ℕ) → set (sets l i (replicate k v)) (i + k) v ≡ sets l i (replicate (suc k) v)
store_more zero l i v = rw add-zero
store_more (suc k) l i v = let e : i + suc k ≡ suc i + k = omega arith in rw e (store_more k (set l i v) (suc i) v)

module _ (from to colour : ℕ) (pixels : List ℕ) where
  -- the length is kept
  pub length_filled : length (filled from to colour pixels) ≡ length pixels
  unfolding filled
  length_filled = length-sets pixels from (replicate (to - from) colour)

  -- nothing to fill
  pub filled_none : to ≤ from → filled from to colour pixels ≡ pixels
  unfolding filled
  filled_none h = let e : to - from ≡ 0 = omega arith in rw e

  -- one pixel more
  pub filled_more : from ≤ to → set (filled from to colour pixels) to colour ≡ filled from (to + 1) colour pixels
  unfolding filled
  filled_more h =
      let e : to ≡ from + (to - from) = omega arith in
      let f : to + 1 - from ≡ suc (to - from) = omega arith in
      rw f (ap (λ (i : ℕ). set (sets pixels from (replicate (to - from) colour)) i colour) e ∙ store_more (to - from) pixels from colour)

  -- a part of the pixels, written
  pub filled_part : (part : List ℕ) → part ≡ replicate (to - from) colour → from ≤ to → to ≤ length pixels
      → put_mid from (to - from) pixels part ≡ filled from to colour pixels
  unfolding filled
  filled_part part e h l = stored from (to - from) pixels part (replicate (to - from) colour) e (length-replicate (to - from) colour) (omega arith)

  -- a pixel before the run, or from its end on, is what it was
  pub filled_out : (i : ℕ) → (i < from) ⊎ (to ≤ i) → from ≤ to → get_or (filled from to colour pixels) i 0 ≡ get_or pixels i 0
  unfolding filled
  filled_out i (inl h) l = sets_out pixels from (replicate (to - from) colour) i (inl h)
  filled_out i (inr h) l = sets_out pixels from (replicate (to - from) colour) i (inr (rw length-replicate (omega arith)))

  -- a pixel of the run has the colour
  pub filled_in : (i : ℕ) → from ≤ i → i < to → to ≤ length pixels → get_or (filled from to colour pixels) i 0 ≡ colour
  unfolding filled
  filled_in i h k r =
      let e : i ≡ from + (i - from) = omega arith in
      let n : length (replicate (to - from) colour) ≡ to - from = length-replicate (to - from) colour in
      ap (λ (j : ℕ). get_or (sets pixels from (replicate (to - from) colour)) j 0) e
      ∙ sets_in pixels from (replicate (to - from) colour) (i - from) (omega arith) (omega arith)
      ∙ get_or-replicate (to - from) (i - from) colour 0 (omega arith)

-- a fill by its count of pixels
pub filled_upto : (from i to colour : ℕ) (pixels : List ℕ) → i - from ≡ to - from → filled from i colour pixels ≡ filled from to colour pixels
unfolding filled
filled_upto from i to colour pixels e = rw e
