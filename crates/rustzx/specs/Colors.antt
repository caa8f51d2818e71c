-- rustzx-core/src/zx/video/colors.rs.
-- Assumes nothing.
use Rattle.std.specs.Prelude.{ℕ, zero, suc, ◌/◌, Bool, cond, not, ◌&&◌, leb, eqb}
use Rattle.std.specs.Bool.{xor}
use Rattle.std.specs.Int.Bits.{bit_and}
use Rattle.rustzx.specs.Panics.{OrPanic, done, panics, on_done, assert}

-- enum ZXColor, enum ZXBrightness, struct ZXAttribute
pub data ZXColor : Type 0 where
  Black : ZXColor
  Blue : ZXColor
  Red : ZXColor
  Purple : ZXColor
  Green : ZXColor
  Cyan : ZXColor
  Yellow : ZXColor
  White : ZXColor

pub data ZXBrightness : Type 0 where
  Normal : ZXBrightness
  Bright : ZXBrightness

pub record ZXAttribute : Type 0 where
  pub ink : ZXColor
  pub paper : ZXColor
  pub flash : Bool
  pub brightness : ZXBrightness

-- fn from_bits: assert!(bits <= 7), then a match whose last arm is unreachable!()
abbrev pub matched : ℕ → OrPanic ZXColor
matched zero = done Black
matched (suc zero) = done Blue
matched (suc (suc zero)) = done Red
matched (suc (suc (suc zero))) = done Purple
matched (suc (suc (suc (suc zero)))) = done Green
matched (suc (suc (suc (suc (suc zero))))) = done Cyan
matched (suc (suc (suc (suc (suc (suc zero)))))) = done Yellow
matched (suc (suc (suc (suc (suc (suc (suc zero))))))) = done White
matched (suc (suc (suc (suc (suc (suc (suc (suc n)))))))) = panics

unfoldable pub from_bits : ℕ → OrPanic ZXColor
from_bits bits = assert (leb bits 7) (matched bits)

-- impl From<ZXColor> for u8
abbrev pub color_byte : ZXColor → ℕ
color_byte Black = 0
color_byte Blue = 1
color_byte Red = 2
color_byte Purple = 3
color_byte Green = 4
color_byte Cyan = 5
color_byte Yellow = 6
color_byte White = 7

-- brightness as u8
abbrev pub brightness_byte : ZXBrightness → ℕ
brightness_byte Normal = 0
brightness_byte Bright = 1

-- fn from_byte
unfoldable pub from_byte : ℕ → OrPanic ZXAttribute
from_byte value =
    on_done (from_bits (bit_and value 0x07)) (λ ink.
    on_done (from_bits (bit_and (value / 8) 0x07)) (λ paper.
    done (record {
      ink = ink;
      paper = paper;
      brightness = cond (not (eqb (bit_and value 0x40) 0)) Bright Normal;
      flash = not (eqb (bit_and value 0x80) 0);
    })))

-- fn active_color
abbrev pub active_color : ZXAttribute → Bool → Bool → ZXColor
active_color a state enable = cond (xor state (a.flash && enable)) a.ink a.paper
