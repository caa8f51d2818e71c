-- Theorems on the address helpers and the colours: what goes one way comes back.
-- Assumes nothing.
use mathlib.Core.Path.{◌≡◌, refl, ap}
use Prim.Native.Nat.{ℕ, ◌+◌, ◌*◌, ◌-◌, ◌/◌, ◌%◌, ◌≤◌, ◌<◌}
use native.Mathlib.Omega.{arith}
use lib.Dec.{lit≤}
use borrow.Author.Tests.{le-leb}
use Rattle.laws.proofs.Below.{same}
use Rattle.offsets.specs.Offset.{line_start, offset_of}
use Rattle.std.specs.Prelude.{Some}
use Rattle.screen.specs.declared.ZXColor.{ZXColor}
use Rattle.screen.specs.declared.ZXColor.TheVariants.{Black, Blue, Red, Purple, Green, Cyan, Yellow, White}
use Rattle.screen.specs.Address.{line_of, line_address, line_at, column_at, attribute_row, attribute_column, attribute_offset}
use Rattle.screen.specs.Colour.{colour_of, colour_number, from_bits}

-- an offset by its four parts: third, line of a row, row of a third, column
module _ (a b c col : ℕ) (hb : b < 8) (hc : c < 8) (hcol : col < 32) where
  abbrev place : ℕ
  place = a * 2048 + c * 256 + b * 32 + col

  third : place / 2048 ≡ a
  third = omega arith

  row : place / 32 % 8 ≡ b
  row = omega arith

  line : place / 256 % 8 ≡ c
  line = omega arith

-- a line by its three parts
digits : (n : ℕ) → n / 64 * 64 + n / 8 % 8 * 8 + n % 8 ≡ n
digits n = omega arith

-- the other way
module _ (a b c : ℕ) (hb : b < 8) (hc : c < 8) where
  third_of : (a * 64 + b * 8 + c) / 64 ≡ a
  third_of = omega arith

  row_of : (a * 64 + b * 8 + c) / 8 % 8 ≡ b
  row_of = omega arith

  line_of_lem : (a * 64 + b * 8 + c) % 8 ≡ c
  line_of_lem = omega arith

offset_digits : (n : ℕ) → n / 2048 * 2048 + n / 256 % 8 * 256 + n / 32 % 8 * 32 + n % 32 ≡ n
offset_digits n = omega arith

-- The line rule, there and back: the byte in column `col` of line `line` is a byte of that line; and a byte's line and column find the byte.
pub line_back : (line col : ℕ) → col < 32 → line_of (line_start line + col) ≡ line
line_back n col k =
    let hb : n / 8 % 8 < 8 = omega arith in
    let hc : n % 8 < 8 = omega arith in
    rw (third (n / 64) (n / 8 % 8) (n % 8) col hb hc k, row (n / 64) (n / 8 % 8) (n % 8) col hb hc k, line (n / 64) (n / 8 % 8) (n % 8) col hb hc k) (digits n)

pub offset_back : (addr : ℕ) → line_start (line_of addr) + addr % 32 ≡ addr
offset_back n =
    let hb : n / 32 % 8 < 8 = omega arith in
    let hc : n / 256 % 8 < 8 = omega arith in
    rw (third_of (n / 2048) (n / 32 % 8) (n / 256 % 8) hb hc, row_of (n / 2048) (n / 32 % 8) (n / 256 % 8) hb hc, line_of_lem (n / 2048) (n / 32 % 8) (n / 256 % 8) hb hc) (offset_digits n)

-- At each of the 192 x 32 places: the helper's address of the line, less 4000h, plus the column is an offset at which the other two
-- helpers answer that line and that column.
pub address_then_place : (line col : ℕ) → line < 192 → col < 32
    → (line_address line ≡ Some (0x4000 + line_start line)) × (line_at (line_start line + col) ≡ Some line) × (column_at (line_start line + col) ≡ Some col)
address_then_place n col h k =
    let in_bitmap : line_start n + col ≤ 0x17FF = omega arith in
    let column : (line_start n + col) % 32 ≡ col = omega arith in (
      rw (le-leb n 191 (omega arith)),
      rw (le-leb (line_start n + col) 0x17FF in_bitmap) (ap Some (line_back n col k)),
      rw (le-leb (line_start n + col) 0x17FF in_bitmap) (ap Some column),
    )

-- At each of the 6,144 offsets: the two helpers answer a line below 192 and a column below 32, whose address is 4000h past the offset.
pub place_then_address : (addr : ℕ) → addr < 6144
    → (line_at addr ≡ Some (line_of addr)) × (column_at addr ≡ Some (addr % 32)) × (line_of addr < 192) × (line_start (line_of addr) + addr % 32 ≡ addr)
place_then_address n h =
    let e = le-leb n 0x17FF (omega arith) in
    (rw e, rw e, omega arith, offset_back n)

-- At each of the 24 x 32 attributes: the helpers answer its row and its column; and a row and a column find the attribute.
pub attribute_then_place : (row col : ℕ) → row < 24 → col < 32
    → (attribute_row (0x1800 + row * 32 + col) ≡ Some row) × (attribute_column (0x1800 + row * 32 + col) ≡ Some col)
attribute_then_place row col h k =
    let addr : ℕ = 0x1800 + row * 32 + col in
    let low = le-leb 0x1800 addr (omega arith) in
    let high = le-leb addr 0x1AFF (omega arith) in
    let r : (addr - 0x1800) / 32 ≡ row = omega arith in
    let c : (addr - 0x1800) % 32 ≡ col = omega arith in
    (rw (low, high) (ap Some r), rw (low, high) (ap Some c))

pub place_then_attribute : (addr : ℕ) → 0x1800 ≤ addr → addr ≤ 0x1AFF
    → (attribute_row addr ≡ Some ((addr - 0x1800) / 32)) × (attribute_column addr ≡ Some ((addr - 0x1800) % 32))
    × ((addr - 0x1800) / 32 < 24) × (0x1800 + (addr - 0x1800) / 32 * 32 + (addr - 0x1800) % 32 ≡ addr)
place_then_attribute addr h k =
    let low = le-leb 0x1800 addr h in
    let high = le-leb addr 0x1AFF k in
    (rw (low, high), rw (low, high), omega arith, omega arith)

-- The two bytes of raster block k, of all 6,144: its bitmap byte is in column k mod 32 of line k / 32, and its attribute in the same column
-- of row k / 256, as the helpers count them.
pub bytes_of_block : (k : ℕ) → k < 6144
    → (line_at (offset_of k) ≡ Some (k / 32)) × (column_at (offset_of k) ≡ Some (k % 32))
    × (attribute_row (attribute_offset k) ≡ Some (k / 256)) × (attribute_column (attribute_offset k) ≡ Some (k % 32))
bytes_of_block k h =
    let b = address_then_place (k / 32) (k % 32) (omega arith) (omega arith) in
    let a = attribute_then_place (k / 256) (k % 32) (omega arith) (omega arith) in
    (b.1, b.2, a.0, a.1)

-- The eight colours and the numbers 0 to 7 are the same, both ways.
pub colour_then_number : (c : ZXColor) → from_bits (colour_number c) ≡ Some c
colour_then_number Black = refl
colour_then_number Blue = refl
colour_then_number Red = refl
colour_then_number Purple = refl
colour_then_number Green = refl
colour_then_number Cyan = refl
colour_then_number Yellow = refl
colour_then_number White = refl

pub number_then_colour : (n : ℕ) → n ≤ 7 → (from_bits n ≡ Some (colour_of n)) × (colour_number (colour_of n) ≡ n)
number_then_colour n h = (rw (le-leb n 7 h), same (λ k. colour_number (colour_of k)) (λ k. k) 8 tt n (omega arith))

-- a colour's number is at most 7
pub number_small : (c : ZXColor) → colour_number c ≤ 7
number_small Black = lit≤ tt
number_small Blue = lit≤ tt
number_small Red = lit≤ tt
number_small Purple = lit≤ tt
number_small Green = lit≤ tt
number_small Cyan = lit≤ tt
number_small Yellow = lit≤ tt
number_small White = lit≤ tt

-- A row of 01's table of cases: line 191 -> 57E0h.
pub line_191 : line_address 191 ≡ Some 0x57E0
line_191 = refl
