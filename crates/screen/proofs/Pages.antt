-- Document 01's attribute and pixel rule (specs/Colour, specs/Pixel) agree with the public pages' fields (specs/Pages) for every byte, and
-- the pages' flash turns over every 16 frames, for ever. Flash against document 01's phase stands in bus, which has the phase.
-- Assumes nothing.
use mathlib.Core.Path.{◌≡◌, refl, ap, ◌∙◌}
use mathlib.Core.Bool.{Bool, true, false, cond, not, ◌&&◌, xor}
use Prim.Native.Nat.{ℕ, zero, suc, ◌+◌, ◌-◌, ◌*◌, ◌/◌, ◌%◌, ◌<◌, ◌≤◌}
use native.Mathlib.Omega.{arith}
use lib.Dec.{eqb}
use borrow.Author.Tests.{ne_eqb}
use Rattle.screen.specs.declared.ZXBrightness.TheVariants.{Normal, Bright}
use Rattle.screen.specs.Colour.{bit, colour_of, colour_number, attribute_of, active_color}
use Rattle.screen.specs.Pixel.{ink_of, paper_of, pixel_of}
use Rattle.screen.specs.Pages.{page_flash, page_bright, page_paper, page_ink, ink_shown, paper_shown, exchanged_after}
use Rattle.screen.proofs.RoundTrips.{number_then_colour}

-- three bits are a number below 8
three : (n : ℕ) → n % 8 ≡ 4 * (n / 2 / 2 % 2) + 2 * (n / 2 % 2) + n % 2
three n = omega arith

ink_is : (byte : ℕ) → byte % 8 ≡ page_ink byte
ink_is byte =
    let e₀ : byte / 1 ≡ byte = omega arith in
    let e₂ : byte / 2 / 2 ≡ byte / 4 = omega arith in
    rw e₀ (rw e₂ at (three byte))

paper_is : (byte : ℕ) → byte / 8 % 8 ≡ page_paper byte
paper_is byte =
    let e₁ : byte / 8 / 2 ≡ byte / 16 = omega arith in
    let e₂ : byte / 8 / 2 / 2 ≡ byte / 32 = omega arith in
    rw (e₂, e₁) at (three (byte / 8))

module _ (byte : ℕ) where
  -- THE FOUR FIELDS OF AN ATTRIBUTE ARE THE PAGES'.
  pub agree_ink : colour_number (attribute_of byte).ink ≡ page_ink byte
  agree_ink = (number_then_colour (byte % 8) (omega arith)).1 ∙ ink_is byte

  pub agree_paper : colour_number (attribute_of byte).paper ≡ page_paper byte
  agree_paper = (number_then_colour (byte / 8 % 8) (omega arith)).1 ∙ paper_is byte

  pub agree_brightness : (attribute_of byte).brightness ≡ cond (page_bright byte) Bright Normal
  agree_brightness = refl

  pub agree_flash : (attribute_of byte).flash ≡ page_flash byte
  agree_flash = refl

  -- and so are the bytes of an ink and a paper pixel: "plus 8 if bright" is document 01's
  pub agree_ink_byte : ink_of byte ≡ page_ink byte + cond (page_bright byte) 8 0
  agree_ink_byte = ap (λ (n : ℕ). n + cond (page_bright byte) 8 0) (ink_is byte)

  pub agree_paper_byte : paper_of byte ≡ page_paper byte + cond (page_bright byte) 8 0
  agree_paper_byte = ap (λ (n : ℕ). n + cond (page_bright byte) 8 0) (paper_is byte)

  -- FLASH EXCHANGES INK AND PAPER: what document 01's rule takes for ink and for paper, with flash on or off, is what the pages show.
  pub agree_ink_shown : (on : Bool) → colour_number (active_color (attribute_of byte) true on) ≡ ink_shown byte on
  unfolding xor
  agree_ink_shown on = swaps (bit 7 byte && on) where
    swaps : (t : Bool) → colour_number (cond (xor true t) (colour_of (byte % 8)) (colour_of (byte / 8 % 8))) ≡ cond t (page_paper byte) (page_ink byte)
    swaps true = agree_paper
    swaps false = agree_ink

  pub agree_paper_shown : (on : Bool) → colour_number (active_color (attribute_of byte) false on) ≡ paper_shown byte on
  unfolding xor
  agree_paper_shown on = swaps (bit 7 byte && on) where
    swaps : (t : Bool) → colour_number (cond (xor false t) (colour_of (byte % 8)) (colour_of (byte / 8 % 8))) ≡ cond t (page_ink byte) (page_paper byte)
    swaps true = agree_ink
    swaps false = agree_paper

  -- and so is every pixel of a block: that a set bit of the bitmap is ink, and which pixel it is, is document 01's
  pub agree_pixel : (bitmap : ℕ) (on : Bool) (i : ℕ)
      → pixel_of byte bitmap on i ≡ cond (bit (7 - i) bitmap) (ink_shown byte on) (paper_shown byte on) + cond (page_bright byte) 8 0
  unfolding xor
  agree_pixel bitmap on i = picks (bit (7 - i) bitmap) (bit 7 byte && on) where
    picks : (b t : Bool) → cond (xor b t) (ink_of byte) (paper_of byte)
        ≡ cond b (cond t (page_paper byte) (page_ink byte)) (cond t (page_ink byte) (page_paper byte)) + cond (page_bright byte) 8 0
    picks true true = agree_paper_byte
    picks true false = agree_ink_byte
    picks false true = agree_ink_byte
    picks false false = agree_paper_byte

-- ---- flash, by the pages alone

stays : (now : Bool) (more n : ℕ) → n ≤ more → exchanged_after now more n ≡ now
unfolding exchanged_after
stays now more zero h = refl
stays now zero (suc n) h = absurd (omega arith)
stays now (suc more) (suc n) h = stays now more n (omega arith)

turns : (now : Bool) (more n : ℕ) → exchanged_after now more (suc (more + n)) ≡ exchanged_after (not now) 15 n
unfolding exchanged_after
turns now zero n = let e : 0 + n ≡ n = omega arith in rw e
turns now (suc more) n = let e : suc more + n ≡ suc (more + n) = omega arith in rw e (turns now more n)

-- n frames and 16 more: the other way round, whatever n is and wherever between two exchanges one starts
pub every_16 : (now : Bool) (more n : ℕ) → more < 16 → exchanged_after now more (n + 16) ≡ not (exchanged_after now more n)
unfolding exchanged_after
every_16 now more zero h =
    let e : 0 + 16 ≡ suc (more + (15 - more)) = omega arith in
    rw e (turns now more (15 - more) ∙ stays (not now) 15 (15 - more) (omega arith))
every_16 now zero (suc n) h = let e : suc n + 16 ≡ suc (n + 16) = omega arith in rw e (every_16 (not now) 15 n (omega arith))
every_16 now (suc more) (suc n) h = let e : suc n + 16 ≡ suc (n + 16) = omega arith in rw e (every_16 now more n (omega arith))

-- one frame on: the next exchange comes, or is a frame nearer
pub one_frame : (now : Bool) (more n : ℕ)
    → exchanged_after now more (suc n) ≡ exchanged_after (cond (eqb more 0) (not now) now) (cond (eqb more 0) 15 (more - 1)) n
unfolding exchanged_after
one_frame now zero n = refl
one_frame now (suc more) n =
    let e : suc more - 1 ≡ more = omega arith in
    rw (ne_eqb (suc more) 0 (λ q. omega arith), e)
