-- rustzx-core/src/zx/video/border.rs. A frame buffer is the list of its pixels' bytes.
-- Assumes nothing.
use Rattle.std.specs.Prelude.{ℕ, ◌+◌, ◌-◌, ◌*◌, ◌/◌, ◌%◌, Bool, true, false, cond, not, List, ltb, leb, set, replicate}
use Rattle.rustzx.specs.Panics.{each}
use Rattle.rustzx.specs.Machine.{ZXSpecs, ZXMachine, specs}
use Rattle.rustzx.specs.Colors.{ZXColor, White, color_byte}

abbrev pub screen_width : ℕ
screen_width = 320

abbrev pub screen_height : ℕ
screen_height = 240

-- struct BeamInfo and struct ZXBorder
pub record BeamInfo : Type 0 where
  pub line : ℕ
  pub pixel : ℕ
  pub color : ZXColor

pub record ZXBorder : Type 0 where
  pub buffer : List ℕ
  pub beam_last : BeamInfo
  pub border_changed : Bool
  pub beam_block : Bool

-- fn new
unfoldable pub new_buffer : List ℕ
new_buffer = replicate 76800 0

abbrev pub new_border : ZXBorder
new_border = record { buffer = new_buffer; beam_last = record { line = 0; pixel = 0; color = White }; border_changed = true; beam_block = false }

-- fn next_border_pixel's answer: line, pixel, frame end
pub record Next : Type 0 where
  pub line : ℕ
  pub pixel : ℕ
  pub frame_end : Bool

-- clocks_first_pixel - 8 * BORDER_ROWS * clocks_line - BORDER_COLS * CLOCKS_PER_COL + clocks_ula_beam_shift
abbrev pub clocks_origin : ZXSpecs → ℕ
clocks_origin s = s.clocks_first_pixel - 8 * 3 * s.clocks.line - 4 * 4 + s.clocks_ula_beam_shift

-- "if beam out of screen on vertical pos."
abbrev pub in_height : ℕ → ℕ → Next
in_height line pixel = cond (leb screen_height line) (record { line = 0; pixel = 0; frame_end = true }) (record { line = line; pixel = pixel; frame_end = false })

-- "if beam out of screen on horizontal pos."
abbrev pub in_width : ℕ → ℕ → Next
in_width line pixel = cond (leb screen_width (pixel - 2)) (in_height (line + 1) 0) (in_height line pixel)

unfoldable pub next_border_pixel : ZXMachine → ℕ → Next
next_border_pixel m clocks =
    let origin = clocks_origin (specs m) in
    cond (ltb clocks origin) (record { line = 0; pixel = 0; frame_end = false })
    (in_width ((clocks - origin) / (specs m).clocks.line) (((clocks - origin) % (specs m).clocks.line + 1) * 2))

-- fn fill_to: set_color(p % SCREEN_WIDTH, p / SCREEN_WIDTH, last.color, Normal)
abbrev pub pixel_index : ℕ → ℕ
pixel_index p = p / screen_width * screen_width + p % screen_width

abbrev pub fill_to : ℕ → ℕ → BeamInfo → List ℕ → List ℕ
fill_to line pixel last buffer =
    let from = last.line * screen_width + last.pixel in
    each from (line * screen_width + pixel - from) (λ p pixels. set pixels (pixel_index p) (color_byte last.color)) buffer

-- beam_last.reset()
abbrev pub reset : BeamInfo → BeamInfo
reset b = record { line = 0; pixel = 0; color = b.color }

-- fn new_frame
abbrev pub whole : ZXBorder → BeamInfo
whole b = cond (not b.border_changed) (reset b.beam_last) b.beam_last

unfoldable pub new_frame : ZXBorder → ZXBorder
new_frame b =
    record {
      buffer = cond (not b.beam_block) (fill_to (screen_height - 1) screen_width (whole b) b.buffer) b.buffer;
      beam_last = reset (whole b);
      border_changed = false;
      beam_block = false;
    }

-- fn set_border: where the frame ends it fills to the last pixel and blocks, and then fills to (0, 0), which is nothing
abbrev pub set_at : Next → ZXColor → ZXBorder → ZXBorder
set_at n color b =
    record {
      buffer = cond (not b.beam_block)
          (fill_to n.line n.pixel b.beam_last (cond n.frame_end (fill_to (screen_height - 1) screen_width b.beam_last b.buffer) b.buffer))
          b.buffer;
      beam_last = record { line = n.line; pixel = n.pixel; color = color };
      border_changed = true;
      beam_block = cond (not b.beam_block) n.frame_end b.beam_block;
    }

unfoldable pub set_border : ZXMachine → ℕ → ZXColor → ZXBorder → ZXBorder
set_border m clocks color b = set_at (next_border_pixel m clocks) color b
