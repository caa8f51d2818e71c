-- The laws of painting: what a caller uses in place of the definition. In each, `page` and `flash` are any, and `p` is the picture before.
-- Assumes nothing.
use mathlib.Core.Path.{◌≡◌, refl, sym, ◌∙◌}
use mathlib.Core.Bool.{Bool}
use mathlib.Core.List.{List, ◌++◌, append_assoc, append-nil}
use mathlib.Core.Logic.{◌⊎◌, inl, inr, ⊎_elim}
use Prim.Native.Nat.{ℕ, zero, suc, ◌+◌, ◌-◌, ◌*◌, ◌/◌, ◌%◌, ◌≤◌, ◌<◌}
use native.Mathlib.Nat.{add-zero, add-suc, eq-or-lt_of_le}
use native.Mathlib.Omega.{arith}
use lib.ListN.{length, get_or, take, drop, length-append, take-append-drop, drop_of_length-le}
use lib.Seq.{sets, length-sets, sets-eq, length-take-le, take_at, drop_at, drop-drop}
use Rattle.offsets.specs.Offset.{line_start, offset_of}
use Rattle.screen.specs.Pixel.{pixel_of, block_of}
use Rattle.screen.specs.Address.{attribute_offset}
use Rattle.paint.specs.Paint.{block_at, paint, blocks}
use Rattle.laws.proofs.Stores.{sets_out, sets_in}

-- entry i of a block is pixel i
pixel_in : (attr bitmap : ℕ) (flash : Bool) (i : ℕ) → i < 8 → get_or (block_of attr bitmap flash) i 0 ≡ pixel_of attr bitmap flash i
unfolding block_of
pixel_in attr bitmap flash zero h = refl
pixel_in attr bitmap flash (suc zero) h = refl
pixel_in attr bitmap flash (suc (suc zero)) h = refl
pixel_in attr bitmap flash (suc (suc (suc zero))) h = refl
pixel_in attr bitmap flash (suc (suc (suc (suc zero)))) h = refl
pixel_in attr bitmap flash (suc (suc (suc (suc (suc zero))))) h = refl
pixel_in attr bitmap flash (suc (suc (suc (suc (suc (suc zero)))))) h = refl
pixel_in attr bitmap flash (suc (suc (suc (suc (suc (suc (suc zero))))))) h = refl
pixel_in attr bitmap flash (suc (suc (suc (suc (suc (suc (suc (suc i)))))))) h = absurd (omega arith)

module _ (page : List ℕ) (flash : Bool) where
  -- a block has eight pixels
  pub eight_pixels : (k : ℕ) → length (block_at page flash k) ≡ 8
  unfolding block_of
  eight_pixels k = refl

  -- The length is kept.
  pub length_paint : (from n : ℕ) (p : List ℕ) → length (paint page flash from n p) ≡ length p
  unfolding paint
  length_paint from zero p = refl
  length_paint from (suc n) p = length-sets (paint page flash from n p) (8 * (from + n)) (block_at page flash (from + n)) ∙ length_paint from n p

  -- Where there is no block to paint, nothing changes.
  pub paint_none : (from to : ℕ) (p : List ℕ) → to ≤ from → paint page flash from (to - from) p ≡ p
  unfolding paint
  paint_none from to p h = let e : to - from ≡ 0 = omega arith in rw e

  -- m blocks and then n are m + n blocks.
  pub paint_add : (from m n : ℕ) (p : List ℕ) → paint page flash (from + m) n (paint page flash from m p) ≡ paint page flash from (m + n) p
  unfolding paint
  paint_add from m zero p = rw add-zero
  paint_add from m (suc n) p =
      let e : from + m + n ≡ from + (m + n) = omega arith in
      rw (add-suc, e, paint_add from m n p)

  -- A catch-up from a to b and then one from b to c leave what one from a to c leaves.
  pub paint_cut : (a b c : ℕ) (p : List ℕ) → a ≤ b → b ≤ c
      → paint page flash b (c - b) (paint page flash a (b - a) p) ≡ paint page flash a (c - a) p
  paint_cut a b c p h k =
      let e : a + (b - a) ≡ b = omega arith in
      let s : (b - a) + (c - b) ≡ c - a = omega arith in
      rw (e, s) at (paint_add a (b - a) (c - b) p)

  -- One block more: the step of the loop.
  pub paint_more : (from k : ℕ) (p : List ℕ) → from ≤ k
      → sets (paint page flash from (k - from) p) (8 * k) (block_at page flash k) ≡ paint page flash from (k + 1 - from) p
  unfolding paint
  paint_more from k p h =
      let s : k + 1 - from ≡ suc (k - from) = omega arith in
      let e : from + (k - from) ≡ k = omega arith in
      rw (s, e)

  -- No other byte of the picture changes.
  pub paint_out : (from n : ℕ) (p : List ℕ) (j : ℕ) → (j < 8 * from) ⊎ (8 * (from + n) ≤ j) → get_or (paint page flash from n p) j 0 ≡ get_or p j 0
  unfolding paint
  paint_out from zero p j h = refl
  paint_out from (suc n) p j h =
      sets_out (paint page flash from n p) (8 * (from + n)) (block_at page flash (from + n)) j
      (rw eight_pixels (⊎_elim (λ (q : j < 8 * from). inl (omega arith)) (λ (q : 8 * (from + suc n) ≤ j). inr (omega arith)) h))
      ∙ paint_out from n p j (⊎_elim (λ (q : j < 8 * from). inl q) (λ (q : 8 * (from + suc n) ≤ j). inr (omega arith)) h)

  -- Each block among those painted has its eight pixels.
  pub paint_in : (from n : ℕ) (p : List ℕ) (k i : ℕ) → from ≤ k → k < from + n → i < 8 → 8 * (from + n) ≤ length p
      → get_or (paint page flash from n p) (8 * k + i) 0 ≡ get_or (block_at page flash k) i 0
  unfolding paint
  paint_in from zero p k i a b h r = absurd (omega arith)
  paint_in from (suc n) p k i a b h r =
      ⊎_elim
      (λ (e : k ≡ from + n).
      rw e (sets_in (paint page flash from n p) (8 * (from + n)) (block_at page flash (from + n)) i (rw eight_pixels h)
      (rw (eight_pixels, length_paint) (omega arith))))
      (λ (l : k < from + n).
      sets_out (paint page flash from n p) (8 * (from + n)) (block_at page flash (from + n)) (8 * k + i) (inl (omega arith))
      ∙ paint_in from n p k i a l h (omega arith))
      (eq-or-lt_of_le {n = k} {m = from + n} (omega arith))

  pub length_blocks : (from n : ℕ) → length (blocks page flash from n) ≡ 8 * n
  unfolding blocks
  length_blocks from zero = refl
  length_blocks from (suc n) = rw (length-append, length_blocks from n, eight_pixels) (omega arith)

  -- m blocks' pixels and then n blocks' are those of m + n blocks.
  pub blocks_add : (from m n : ℕ) → blocks page flash from m ++ blocks page flash (from + m) n ≡ blocks page flash from (m + n)
  unfolding blocks
  blocks_add from m zero = rw add-zero (append-nil (blocks page flash from m))
  blocks_add from m (suc n) =
      let e : from + m + n ≡ from + (m + n) = omega arith in
      rw (add-suc, ← append_assoc, blocks_add from m n, e)

  -- The same as a splice: what stood before, the blocks' pixels, what stood behind.
  pub paint_splice : (from n : ℕ) (p : List ℕ) → 8 * (from + n) ≤ length p
      → paint page flash from n p ≡ take (8 * from) p ++ (blocks page flash from n ++ drop (8 * (from + n)) p)
  unfolding paint blocks
  paint_splice from zero p h = rw add-zero (sym (take-append-drop (8 * from) p))
  paint_splice from (suc n) p h =
      let i : ℕ = 8 * (from + n) in
      let l : List ℕ = paint page flash from n p in
      let head : List ℕ = take (8 * from) p ++ blocks page flash from n in
      let split : l ≡ head ++ drop i p = rw append_assoc (paint_splice from n p (omega arith)) in
      let long : length head ≡ i = rw (length-append, length-take-le (8 * from) p (omega arith), length_blocks) (omega arith) in
      let room : i + length (block_at page flash (from + n)) ≤ length l = rw (eight_pixels, length_paint) (omega arith) in
      let next : i + 8 ≡ 8 * (from + suc n) = omega arith in
      let before : take i l ≡ head = rw split (take_at head (drop i p) i long) in
      let behind : drop (i + 8) l ≡ drop (8 * (from + suc n)) p =
      sym (drop-drop 8 i l) ∙ rw (split, drop_at head (drop i p) i long) (drop-drop 8 i p ∙ rw next) in
      sets-eq (block_at page flash (from + n)) l i room
      ∙ rw (eight_pixels, before, behind) (simp append_assoc)

  -- Pixel i of block k, byte by byte: the pixel rule on the attribute and the bitmap byte of that block.
  pub paint_pixel : (from n : ℕ) (p : List ℕ) (k i : ℕ) → from ≤ k → k < from + n → i < 8 → 8 * (from + n) ≤ length p
      → get_or (paint page flash from n p) (8 * k + i) 0 ≡ pixel_of (get_or page (attribute_offset k) 0) (get_or page (offset_of k) 0) flash i
  paint_pixel from n p k i a b h r = paint_in from n p k i a b h r ∙ pixel_in (get_or page (attribute_offset k) 0) (get_or page (offset_of k) 0) flash i h

-- A whole picture is the page's blocks, whatever stood there before.
pub paint_whole : (page : List ℕ) (flash : Bool) (p : List ℕ) → length p ≡ 49152 → paint page flash 0 6144 p ≡ blocks page flash 0 6144
paint_whole page flash p h =
    paint_splice page flash 0 6144 p (omega arith)
    ∙ rw (drop_of_length-le p {i = 49152} (omega arith)) (append-nil (blocks page flash 0 6144))

-- So two pictures that are painted whole from one page are the same.
pub paint_forgets : (page : List ℕ) (flash : Bool) (p q : List ℕ) → length p ≡ 49152 → length q ≡ 49152
    → paint page flash 0 6144 p ≡ paint page flash 0 6144 q
paint_forgets page flash p q h k = paint_whole page flash p h ∙ sym (paint_whole page flash q k)

-- The pixel in column x of line y of a whole picture, as a screen is looked at: byte 256 y + x, from bit 7 - x mod 8 of the byte in
-- column x / 8 of bitmap line y, and the attribute in column x / 8 of row y / 8.
pub pixel_at : (page : List ℕ) (flash : Bool) (p : List ℕ) → length p ≡ 49152 → (x y : ℕ) → x < 256 → y < 192
    → get_or (paint page flash 0 6144 p) (256 * y + x) 0
    ≡ pixel_of (get_or page (0x1800 + y / 8 * 32 + x / 8) 0) (get_or page (line_start y + x / 8) 0) flash (x % 8)
pixel_at page flash p long x y hx hy =
    let k : ℕ = 32 * y + x / 8 in
    let place : 8 * k + x % 8 ≡ 256 * y + x = omega arith in
    let row : attribute_offset k ≡ 0x1800 + y / 8 * 32 + x / 8 = omega arith in
    let line : k / 32 ≡ y = omega arith in
    let column : k % 32 ≡ x / 8 = omega arith in
    rw (place, row, line, column) at (paint_pixel page flash 0 6144 p k (x % 8) (omega arith) (omega arith) (omega arith) (omega arith))

-- The same of the still picture.
pub still_pixel_at : (page : List ℕ) (flash : Bool) (x y : ℕ) → x < 256 → y < 192
    → get_or (blocks page flash 0 6144) (256 * y + x) 0
    ≡ pixel_of (get_or page (0x1800 + y / 8 * 32 + x / 8) 0) (get_or page (line_start y + x / 8) 0) flash (x % 8)
still_pixel_at page flash x y hx hy =
    let long : length (blocks page flash 0 6144) ≡ 49152 = length_blocks page flash 0 6144 in
    rw (paint_whole page flash (blocks page flash 0 6144) long) at (pixel_at page flash (blocks page flash 0 6144) long x y hx hy)
