-- The Rust's address helpers, colours and attributes are document 01's, and its panics fall exactly where a call is refused.
-- Assumes nothing.
use mathlib.Core.Path.{◌≡◌, refl, ap, ◌∙◌}
use mathlib.Core.Bool.{Bool, true, false, cond, not, ◌&&◌, xor}
use Prim.Native.Nat.{ℕ, zero, suc, ◌+◌, ◌*◌, ◌/◌, ◌%◌, ◌^◌, ◌<◌}
use native.Mathlib.Omega.{arith}
use lib.Dec.{ltb, leb, eqb}
use lib.Bits.{bit_and, and_mask}
use borrow.Author.Tests.{leb-true, leb-false, lt-ltb, le-ltb, le-leb, lt-leb}
use Rattle.laws.proofs.Below.{same}
use Rattle.offsets.specs.Offset.{line_start}
use Rattle.std.specs.Prelude.{Option, Some, None}
use Rattle.screen.specs.declared.ZXColor as picture
use Rattle.screen.specs.declared.ZXColor.TheVariants as color
use Rattle.screen.specs.declared.ZXBrightness as bright
use Rattle.screen.specs.declared.ZXBrightness.TheVariants as brightness
use Rattle.screen.specs.declared.ZXAttribute as attribute
use Rattle.screen.specs.Address.{line_address, line_of, line_at, column_at, is_attribute, attribute_row, attribute_column}
use Rattle.screen.specs.Colour as ours
use Rattle.screen.specs.Colour.{bit, colour_of, colour_number, attribute_of}
use Rattle.screen.specs.Pixel.{pixel_byte}
use Rattle.screen.proofs.OneBit.{mask_bit}
use Rattle.screen.proofs.RoundTrips.{number_then_colour}
use Rattle.rustzx.specs.Panics.{OrPanic, done, panics, assert}
use Rattle.rustzx.specs.Addresses.{line_addr, bitmap_line_addr, line_rel, bitmap_line_rel, bitmap_col_rel, attr_row_rel, attr_col_rel}
use Rattle.rustzx.specs.Colors.{ZXColor, Black, Blue, Red, Purple, Green, Cyan, Yellow, White, ZXBrightness, Normal, Bright, ZXAttribute, from_bits, color_byte, brightness_byte, from_byte, active_color}
use Rattle.rustzx.specs.Related.{our_colour, our_brightness, our_attribute}

-- ---- the five helpers: a number is that number, and a refusal 8 is a panic
abbrev pub as_run : Option ℕ → OrPanic ℕ
as_run (Some n) = done n
as_run None = panics

below_is : (t : Bool) (n k : ℕ) → leb n k ≡ t → ltb n (k + 1) ≡ t
below_is true n k e = let h = leb-true n k e in lt-ltb n (k + 1) (omega arith)
below_is false n k e = let h = leb-false n k e in le-ltb n (k + 1) (omega arith)

asserted : (t : Bool) {x y : ℕ} → (t ≡ true → x ≡ y) → assert t (done x) ≡ as_run (cond t (Some y) None)
asserted true f = ap done (f refl)
asserted false f = refl

line_value : (line : ℕ) → line < 192 → line_addr line ≡ 0x4000 + line_start line
line_value = same line_addr (λ line. 0x4000 + line_start line) 192 tt

-- bitmap_line_addr
pub line_address_is : (line : ℕ) → bitmap_line_addr line ≡ as_run (line_address line)
unfolding bitmap_line_addr
line_address_is line =
    rw (below_is (leb line 191) line 191 refl)
    (asserted (leb line 191) (λ e. let h = leb-true line 191 e in line_value line (omega arith)))

rel_value : (addr : ℕ) → addr < 6144 → line_rel addr ≡ line_of addr
rel_value = same line_rel line_of 6144 tt

-- bitmap_line_rel
pub line_rel_is : (addr : ℕ) → bitmap_line_rel addr ≡ as_run (line_at addr)
unfolding bitmap_line_rel
line_rel_is addr =
    rw (below_is (leb addr 0x17FF) addr 0x17FF refl)
    (asserted (leb addr 0x17FF) (λ e. let h = leb-true addr 0x17FF e in rel_value addr (omega arith)))

column_value : (addr : ℕ) → bit_and (addr % 256) 0x1F ≡ addr % 32
column_value addr = and_mask (addr % 256) 5 ∙ omega arith

-- bitmap_col_rel
pub col_rel_is : (addr : ℕ) → bitmap_col_rel addr ≡ as_run (column_at addr)
unfolding bitmap_col_rel
col_rel_is addr = rw (below_is (leb addr 0x17FF) addr 0x17FF refl) (asserted (leb addr 0x17FF) (λ e. column_value addr))

-- attr_row_rel, attr_col_rel
pub attr_row_is : (addr : ℕ) → attr_row_rel addr ≡ as_run (attribute_row addr)
unfolding attr_row_rel
attr_row_is addr = asserted (is_attribute addr) (λ e. refl)

pub attr_col_is : (addr : ℕ) → attr_col_rel addr ≡ as_run (attribute_column addr)
unfolding attr_col_rel
attr_col_is addr = asserted (is_attribute addr) (λ e. refl)

-- ---- colours
-- each colour, brightness and attribute of ours is the Rust's
abbrev pub rust_colour : picture.ZXColor → ZXColor
rust_colour color.Black = Black
rust_colour color.Blue = Blue
rust_colour color.Red = Red
rust_colour color.Purple = Purple
rust_colour color.Green = Green
rust_colour color.Cyan = Cyan
rust_colour color.Yellow = Yellow
rust_colour color.White = White

abbrev pub rust_brightness : bright.ZXBrightness → ZXBrightness
rust_brightness brightness.Normal = Normal
rust_brightness brightness.Bright = Bright

abbrev pub rust_attribute : attribute.ZXAttribute → ZXAttribute
rust_attribute a = record { ink = rust_colour a.ink; paper = rust_colour a.paper; flash = a.flash; brightness = rust_brightness a.brightness }

colour_there : (c : picture.ZXColor) → our_colour (rust_colour c) ≡ c
colour_there color.Black = refl
colour_there color.Blue = refl
colour_there color.Red = refl
colour_there color.Purple = refl
colour_there color.Green = refl
colour_there color.Cyan = refl
colour_there color.Yellow = refl
colour_there color.White = refl

brightness_there : (b : bright.ZXBrightness) → our_brightness (rust_brightness b) ≡ b
brightness_there brightness.Normal = refl
brightness_there brightness.Bright = refl

attribute_by : (f : Bool) {i i' p p' : picture.ZXColor} {b b' : bright.ZXBrightness} → i ≡ i' → p ≡ p' → b ≡ b'
    → ◌≡◌ {A = attribute.ZXAttribute} (record { ink = i; paper = p; brightness = b; flash = f }) (record { ink = i'; paper = p'; brightness = b'; flash = f })
attribute_by f e g h = cc

pub attribute_there : (a : attribute.ZXAttribute) → our_attribute (rust_attribute a) ≡ a
attribute_there a = attribute_by a.flash (colour_there a.ink) (colour_there a.paper) (brightness_there a.brightness)

abbrev pub coloured_run : Option picture.ZXColor → OrPanic ZXColor
coloured_run (Some c) = done (rust_colour c)
coloured_run None = panics

-- from_bits: every number, those that panic among them
pub from_bits_is : (n : ℕ) → from_bits n ≡ coloured_run (ours.from_bits n)
unfolding from_bits
from_bits_is zero = refl
from_bits_is (suc zero) = refl
from_bits_is (suc (suc zero)) = refl
from_bits_is (suc (suc (suc zero))) = refl
from_bits_is (suc (suc (suc (suc zero)))) = refl
from_bits_is (suc (suc (suc (suc (suc zero))))) = refl
from_bits_is (suc (suc (suc (suc (suc (suc zero)))))) = refl
from_bits_is (suc (suc (suc (suc (suc (suc (suc zero))))))) = refl
from_bits_is (suc (suc (suc (suc (suc (suc (suc (suc n)))))))) =
    let l = lt-leb (suc (suc (suc (suc (suc (suc (suc (suc n)))))))) 7 (omega arith) in
    rw l

-- a number below 8 is its colour
pub from_bits_done : (n : ℕ) → n < 8 → from_bits n ≡ done (rust_colour (colour_of n))
from_bits_done n h = let l = le-leb n 7 (omega arith) in from_bits_is n ∙ rw l

-- u8::from(color)
pub colour_byte_is : (c : ZXColor) → color_byte c ≡ colour_number (our_colour c)
colour_byte_is Black = refl
colour_byte_is Blue = refl
colour_byte_is Red = refl
colour_byte_is Purple = refl
colour_byte_is Green = refl
colour_byte_is Cyan = refl
colour_byte_is Yellow = refl
colour_byte_is White = refl

pub colour_number_lem : (c : picture.ZXColor) → color_byte (rust_colour c) ≡ colour_number c
colour_number_lem c = colour_byte_is (rust_colour c) ∙ ap colour_number (colour_there c)

-- a number below 8 is that of its colour
pub colour_back : (n : ℕ) → n < 8 → color_byte (rust_colour (colour_of n)) ≡ n
colour_back n h = colour_number_lem (colour_of n) ∙ (number_then_colour n (omega arith)).1

-- what set_color puts into a frame buffer is the pixel's byte
pub pixel_byte_is : (c : ZXColor) (b : ZXBrightness) → color_byte c + 8 * brightness_byte b ≡ pixel_byte (our_colour c) (our_brightness b)
pixel_byte_is c Normal = rw (colour_byte_is c) (omega arith)
pixel_byte_is c Bright = rw (colour_byte_is c)

-- ---- attributes
pub bit_set_lem : (k n : ℕ) → not (eqb (bit_and n (2 ^ k)) 0) ≡ bit k n
bit_set_lem k n = rw (mask_bit k n) (not_not (bit k n)) where
  not_not : (t : Bool) → not (not t) ≡ t
  not_not true = refl
  not_not false = refl

-- from_byte never panics, and gives the attribute of the byte
pub from_byte_is : (v : ℕ) → from_byte v ≡ done (rust_attribute (attribute_of v))
unfolding from_byte
from_byte_is v =
    rw (and_mask v 3, and_mask (v / 8) 3, from_bits_done (v % 8) (omega arith), from_bits_done (v / 8 % 8) (omega arith), bit_set_lem 6 v, bit_set_lem 7 v)
    (ap (λ (b : ZXBrightness). done (record { ink = rust_colour (colour_of (v % 8)); paper = rust_colour (colour_of (v / 8 % 8)); flash = bit 7 v; brightness = b })) (by_test (bit 6 v))) where
      by_test : (t : Bool) → cond t Bright Normal ≡ rust_brightness (cond t brightness.Bright brightness.Normal)
      by_test true = refl
      by_test false = refl

-- active_color is the active colour
pub active_is : (a : ZXAttribute) (state flash : Bool) → our_colour (active_color a state flash) ≡ ours.active_color (our_attribute a) state flash
active_is a state flash = picked (xor state (a.flash && flash)) where
  picked : (t : Bool) → our_colour (cond t a.ink a.paper) ≡ cond t (our_colour a.ink) (our_colour a.paper)
  picked true = refl
  picked false = refl
