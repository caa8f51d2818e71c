-- The attribute byte and flash in the words of the public reference pages: by the single bits of the byte, and by frames counted one after
-- the other. What the pages do not say stands apart, and says so.
-- Assumes nothing.
use Rattle.std.specs.Prelude.{ℕ, zero, suc, ◌+◌, ◌*◌, Bool, false, cond, not, ◌&&◌, eqb}
use Rattle.offsets.specs.Pages.{bit}

-- "bit 7 flash, bit 6 bright"
abbrev pub page_flash : ℕ → Bool
page_flash byte = eqb (bit 7 byte) 1

abbrev pub page_bright : ℕ → Bool
page_bright byte = eqb (bit 6 byte) 1

-- "bits 5 to 3 paper, bits 2 to 0 ink"
abbrev pub page_paper : ℕ → ℕ
page_paper byte = 4 * bit 5 byte + 2 * bit 4 byte + bit 3 byte

abbrev pub page_ink : ℕ → ℕ
page_ink byte = 4 * bit 2 byte + 2 * bit 1 byte + bit 0 byte

-- "Flash exchanges ink and paper": the colours that stand for ink and for paper while flash has them exchanged, or has not
abbrev pub ink_shown : ℕ → Bool → ℕ
ink_shown byte exchanged = cond (page_flash byte && exchanged) (page_paper byte) (page_ink byte)

abbrev pub paper_shown : ℕ → Bool → ℕ
paper_shown byte exchanged = cond (page_flash byte && exchanged) (page_ink byte) (page_paper byte)

-- ".. every 16 frames": whether ink and paper stand exchanged n frames from now, where they stand so or not now and for `more` frames yet;
-- from each exchange to the next there are 16 frames
unfoldable pub exchanged_after : Bool → ℕ → ℕ → Bool
exchanged_after now more zero = now
exchanged_after now zero (suc n) = exchanged_after (not now) 15 n
exchanged_after now (suc more) (suc n) = exchanged_after now more n

-- Not from the pages, which do not say in which frame it begins. A start finds ink and paper in their places for one frame, and the
-- first exchange comes after it.
abbrev pub exchanged_since_start : ℕ → Bool
exchanged_since_start n = exchanged_after false 0 n
