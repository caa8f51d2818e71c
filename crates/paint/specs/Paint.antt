-- Painting (01, Start, time and paint). `page` is the list of a video page's 16,384 bytes, `picture` that of the 49,152 pixels.
-- Assumes nothing.
use Rattle.std.specs.Prelude.{ℕ, zero, suc, ◌+◌, ◌*◌, Bool, List, [], ◌++◌, get_or}
use Rattle.std.proofs.lemmas.List.Edits.{sets}
use Rattle.offsets.specs.Offset.{offset_of}
use Rattle.screen.specs.Address.{attribute_offset}
use Rattle.screen.specs.Pixel.{block_of}

-- "A block takes bitmap and attribute from the shown page": the eight pixels of raster block k, its bitmap byte found by the line rule
abbrev pub block_at : List ℕ → Bool → ℕ → List ℕ
block_at page flash k = block_of (get_or page (attribute_offset k) 0) (get_or page (offset_of k) 0) flash

-- "in raster order, every block": the picture after n blocks, from block `from` on, one after the other; block k is bytes 8 k to 8 k + 7
unfoldable pub paint : List ℕ → Bool → ℕ → ℕ → List ℕ → List ℕ
paint page flash from zero picture = picture
paint page flash from (suc n) picture = sets (paint page flash from n picture) (8 * (from + n)) (block_at page flash (from + n))

-- the pixels of n blocks in a row, from block `from` on; all 6,144 are the still picture
unfoldable pub blocks : List ℕ → Bool → ℕ → ℕ → List ℕ
blocks page flash from zero = []
blocks page flash from (suc n) = blocks page flash from n ++ block_at page flash (from + n)
