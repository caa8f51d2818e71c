-- rustzx-core/src/zx/video/screen.rs. A frame buffer is the list of its pixels' bytes: `set_color` puts the colour's number, and 8 more if
-- bright, at y x width + x.
-- Assumes nothing.
use Rattle.std.specs.Prelude.{ℕ, ◌+◌, ◌-◌, ◌*◌, ◌/◌, ◌%◌, ◌^◌, Bool, false, cond, not, List, ltb, leb, eqb, get_or, set, replicate}
use Rattle.std.specs.Int.Bits.{bit_and}
use Rattle.rustzx.specs.Panics.{OrPanic, done, Option, some, none, on_done, each}
use Rattle.rustzx.specs.Machine.{ZXMachine, Sinclair48K, Sinclair128K, specs}
use Rattle.rustzx.specs.Addresses.{canvas_height, attr_cols, bitmap_line_rel, bitmap_col_rel, attr_row_rel, attr_col_rel}
use Rattle.rustzx.specs.Colors.{ZXColor, Black, ZXBrightness, Normal, ZXAttribute, color_byte, brightness_byte, from_byte, active_color}

-- struct BlocksCount
pub record BlocksCount : Type 0 where
  pub lines : ℕ
  pub columns : ℕ

-- fn from_clocks: "if out of visible canvas line", then the last line
abbrev pub in_canvas : ℕ → ℕ → BlocksCount
in_canvas lines columns = cond (leb canvas_height lines) (record { lines = canvas_height; columns = 0 }) (record { lines = lines; columns = columns })

abbrev pub in_line : ℕ → ℕ → BlocksCount
in_line lines columns = cond (ltb attr_cols columns) (in_canvas (lines + 1) 0) (in_canvas lines columns)

unfoldable pub from_clocks : ZXMachine → ℕ → BlocksCount
from_clocks m clocks =
    cond (ltb clocks (specs m).clocks_ula_read_origin) (record { lines = 0; columns = 0 })
    (in_line ((clocks - (specs m).clocks_ula_read_origin) / (specs m).clocks.line) ((clocks - (specs m).clocks_ula_read_origin) % (specs m).clocks.line / 4 + 1))

-- fn passed_from
unfoldable pub passed_from : BlocksCount → BlocksCount → ℕ
passed_from now prev =
    cond (ltb now.lines prev.lines) (attr_cols - prev.columns)
    (cond (eqb now.lines prev.lines) (now.columns - prev.columns)
    (attr_cols - prev.columns + (now.lines - prev.lines - 1) * attr_cols + now.columns))

-- struct ScreenBank
pub record ScreenBank : Type 0 where
  pub attributes : List ZXAttribute
  pub bitmap : List ℕ

-- struct ZXScreen; its two banks, local 0 and 1
pub record ZXScreen : Type 0 where
  pub last_blocks : BlocksCount
  pub flash : Bool
  pub frame_counter : ℕ
  pub buffer : List ℕ
  pub back_buffer : List ℕ
  pub bank0 : ScreenBank
  pub bank1 : ScreenBank
  pub active_bank : ℕ

-- fn new; ZXAttribute::from_byte(0) is black on black, normal and steady
abbrev pub black_attribute : ZXAttribute
black_attribute = record { ink = Black; paper = Black; brightness = Normal; flash = false }

unfoldable pub new_bank : ScreenBank
new_bank = record { attributes = replicate 768 black_attribute; bitmap = replicate 6144 0 }

unfoldable pub new_buffer : List ℕ
new_buffer = replicate 49152 0

abbrev pub new_screen : ZXScreen
new_screen =
    record {
      last_blocks = record { lines = 0; columns = 0 };
      flash = false;
      frame_counter = 0;
      buffer = new_buffer;
      back_buffer = new_buffer;
      bank0 = new_bank;
      bank1 = new_bank;
      active_bank = 0;
    }

-- fn local_bank
abbrev pub local_bank : ZXMachine → ℕ → Option ℕ
local_bank Sinclair48K bank = cond (eqb bank 0) (some 0) none
local_bank Sinclair128K bank = cond (eqb bank 5) (some 0) (cond (eqb bank 7) (some 1) none)

-- fn switch_bank
abbrev pub with_active : ℕ → ZXScreen → ZXScreen
with_active bank s =
    record { last_blocks = s.last_blocks; flash = s.flash; frame_counter = s.frame_counter; buffer = s.buffer; back_buffer = s.back_buffer; bank0 = s.bank0; bank1 = s.bank1; active_bank = bank }

abbrev pub switch_to : Option ℕ → ZXScreen → ZXScreen
switch_to (some bank) s = with_active bank s
switch_to none s = s

abbrev pub switch_bank : ZXMachine → ℕ → ZXScreen → ZXScreen
switch_bank m bank s = switch_to (local_bank m bank) s

-- set_color(x, y, color, brightness) of a buffer 256 pixels wide
abbrev pub set_color : ℕ → ℕ → ZXColor → ZXBrightness → List ℕ → List ℕ
set_color x y color brightness buffer = set buffer (y * 256 + x) (color_byte color + 8 * brightness_byte brightness)

-- the active bank
abbrev pub active_bank_of : ZXScreen → ScreenBank
active_bank_of s = cond (eqb s.active_bank 0) s.bank0 s.bank1

-- one pixel of a block, from the most significant bit: ((bitmap << pixel) & 0x80) != 0, in eight bits
abbrev pub pixel_state : ℕ → ℕ → Bool
pixel_state bitmap pixel = not (eqb (bit_and (bitmap * 2 ^ pixel % 256) 0x80) 0)

abbrev pub attr_of : ScreenBank → ℕ → ZXAttribute
attr_of bank block = get_or bank.attributes (block / (attr_cols * 8) * attr_cols + block % attr_cols) black_attribute

abbrev pub draw_pixel : ScreenBank → Bool → ℕ → ℕ → List ℕ → List ℕ
draw_pixel bank flash block pixel buffer =
    set_color (block % attr_cols * 8 + pixel) (block / attr_cols)
    (active_color (attr_of bank block) (pixel_state (get_or bank.bitmap block 0) pixel) flash) (attr_of bank block).brightness buffer

abbrev pub draw_block : ScreenBank → Bool → ℕ → List ℕ → List ℕ
draw_block bank flash block buffer = each 0 8 (draw_pixel bank flash block) buffer

abbrev pub block_index : BlocksCount → ℕ
block_index b = b.lines * attr_cols + b.columns

-- fn process_clocks
abbrev pub rendered : BlocksCount → ZXScreen → ZXScreen
rendered blocks s =
    record {
      last_blocks = blocks;
      flash = s.flash;
      frame_counter = s.frame_counter;
      buffer = s.buffer;
      back_buffer = each (block_index s.last_blocks) (block_index blocks - block_index s.last_blocks) (draw_block (active_bank_of s) s.flash) s.back_buffer;
      bank0 = s.bank0;
      bank1 = s.bank1;
      active_bank = s.active_bank;
    }

unfoldable pub process_clocks : ZXMachine → ℕ → ZXScreen → ZXScreen
process_clocks m clocks s = cond (ltb 0 (passed_from (from_clocks m clocks) s.last_blocks)) (rendered (from_clocks m clocks) s) s

-- fn new_frame: the buffers are swapped, flash is switched in every sixteenth frame, the first among them
unfoldable pub new_frame : ZXScreen → ZXScreen
new_frame s =
    record {
      last_blocks = record { lines = 0; columns = 0 };
      flash = cond (eqb (s.frame_counter % 16) 0) (not s.flash) s.flash;
      frame_counter = s.frame_counter + 1;
      buffer = s.back_buffer;
      back_buffer = s.buffer;
      bank0 = s.bank0;
      bank1 = s.bank1;
      active_bank = s.active_bank;
    }

-- fn update: self.banks[bank].bitmap[..] = data, self.banks[bank].attributes[..] = from_byte(data)
abbrev pub with_bank : ℕ → (ScreenBank → ScreenBank) → ZXScreen → ZXScreen
with_bank bank f s =
    record {
      last_blocks = s.last_blocks;
      flash = s.flash;
      frame_counter = s.frame_counter;
      buffer = s.buffer;
      back_buffer = s.back_buffer;
      bank0 = cond (eqb bank 0) (f s.bank0) s.bank0;
      bank1 = cond (eqb bank 0) s.bank1 (f s.bank1);
      active_bank = s.active_bank;
    }

abbrev pub put_bitmap : ℕ → ℕ → ScreenBank → ScreenBank
put_bitmap i byte b = record { attributes = b.attributes; bitmap = set b.bitmap i byte }

abbrev pub put_attribute : ℕ → ZXAttribute → ScreenBank → ScreenBank
put_attribute i a b = record { attributes = set b.attributes i a; bitmap = b.bitmap }

abbrev pub update_bitmap : ℕ → ℕ → ℕ → ZXScreen → OrPanic ZXScreen
update_bitmap bank rel byte s =
    on_done (bitmap_line_rel rel) (λ line. on_done (bitmap_col_rel rel) (λ col. done (with_bank bank (put_bitmap (line * attr_cols + col) byte) s)))

abbrev pub update_attribute : ℕ → ℕ → ℕ → ZXScreen → OrPanic ZXScreen
update_attribute bank rel byte s =
    on_done (attr_row_rel rel) (λ row. on_done (attr_col_rel rel) (λ col. on_done (from_byte byte) (λ a.
    done (with_bank bank (put_attribute (row * attr_cols + col) a) s))))

abbrev pub update_in : Option ℕ → ℕ → ℕ → ZXScreen → OrPanic ZXScreen
update_in none rel byte s = done s
update_in (some bank) rel byte s =
    cond (leb rel 0x17FF) (update_bitmap bank rel byte s) (cond (leb rel 0x1AFF) (update_attribute bank rel byte s) (done s))

abbrev pub update : ZXMachine → ℕ → ℕ → ℕ → ZXScreen → OrPanic ZXScreen
update m rel bank byte s = update_in (local_bank m bank) rel byte s
