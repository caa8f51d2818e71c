-- rustzx-core/src/zx/machine/specs.rs and mod.rs.
-- Assumes nothing.
use Rattle.std.specs.Prelude.{ℕ, ◌+◌, ◌-◌, ◌*◌, ◌%◌, Bool, false, cond, ◌||◌, List, [], ◌∷◌, ltb, leb, eqb, get_or}
use Rattle.std.specs.Int.Bits.{bit_and}

-- struct ZXSpecs; the two builder methods that set several fields at once each have a record of their own
pub record ClocksRow : Type 0 where
  pub left_border : ℕ
  pub screen_row : ℕ
  pub right_border : ℕ
  pub retrace : ℕ
  pub line : ℕ

pub record Lines : Type 0 where
  pub vsync : ℕ
  pub top_border : ℕ
  pub screen : ℕ
  pub bottom_border : ℕ
  pub all : ℕ

pub record ZXSpecs : Type 0 where
  pub freq_cpu : ℕ
  pub clocks_first_pixel : ℕ
  pub clocks : ClocksRow
  pub clocks_ula_read_shift : ℕ
  pub clocks_ula_read_origin : ℕ
  pub clocks_ula_contention_origin : ℕ
  pub clocks_ula_beam_shift : ℕ
  pub clocks_frame : ℕ
  pub lines : Lines
  pub interrupt_length : ℕ
  pub contention_offset : ℕ
  pub contention_pattern : List ℕ
  pub rom_pages : ℕ

-- fn clocks_row
abbrev pub clocks_row : ℕ → ℕ → ℕ → ℕ → ClocksRow
clocks_row lborder screen rborder retrace =
    record { left_border = lborder; screen_row = screen; right_border = rborder; retrace = retrace; line = lborder + screen + rborder + retrace }

-- fn lines
abbrev pub lines_of : ℕ → ℕ → ℕ → ℕ → Lines
lines_of tborder screen bborder vsync =
    record { vsync = vsync; top_border = tborder; screen = screen; bottom_border = bborder; all = tborder + screen + bborder }

-- fn build, with what the builder was told before it
abbrev pub build : ℕ → ℕ → ℕ → ℕ → ClocksRow → Lines → List ℕ → ℕ → ℕ → ℕ → ZXSpecs
build freq first read beam row lines pattern offset interrupt roms =
    record {
      freq_cpu = freq;
      clocks_first_pixel = first;
      clocks = row;
      clocks_ula_read_shift = read;
      clocks_ula_read_origin = first + read;
      clocks_ula_contention_origin = first - offset;
      clocks_ula_beam_shift = beam;
      clocks_frame = (lines.all + lines.vsync) * row.line;
      lines = lines;
      interrupt_length = interrupt;
      contention_offset = offset;
      contention_pattern = pattern;
      rom_pages = roms;
    }

-- SPECS_48K, SPECS_128K
abbrev pub pattern : List ℕ
pattern = 6 ∷ 5 ∷ 4 ∷ 3 ∷ 2 ∷ 1 ∷ 0 ∷ 0 ∷ []

abbrev pub specs48k : ZXSpecs
specs48k = build 3500000 14336 2 1 (clocks_row 24 128 24 48) (lines_of 48 192 48 24) pattern 1 32 1

abbrev pub specs128k : ZXSpecs
specs128k = build 3546900 14362 2 1 (clocks_row 24 128 24 52) (lines_of 48 192 48 23) pattern 1 32 2

-- enum ZXMachine
pub data ZXMachine : Type 0 where
  Sinclair48K : ZXMachine
  Sinclair128K : ZXMachine

-- fn specs
abbrev pub specs : ZXMachine → ZXSpecs
specs Sinclair48K = specs48k
specs Sinclair128K = specs128k

-- fn contention_clocks
abbrev pub trough_line : ZXSpecs → ℕ → ℕ
trough_line s clocks = (clocks - (s.clocks_first_pixel - 1)) % s.clocks.line

unfoldable pub contention_clocks : ZXMachine → ℕ → ℕ
contention_clocks m clocks =
    cond (ltb clocks ((specs m).clocks_first_pixel - 1) || leb ((specs m).clocks_first_pixel - 1 + (specs m).lines.screen * (specs m).clocks.line) clocks) 0
    (cond (leb (specs m).clocks.screen_row (trough_line (specs m) clocks)) 0
    (get_or (specs m).contention_pattern (trough_line (specs m) clocks % 8) 0))

-- fn port_is_contended
abbrev pub port_is_contended : ZXMachine → ℕ → Bool
port_is_contended m port = eqb (bit_and port 0x0001) 0

-- fn bank_is_contended; iter().any
abbrev pub any : {A : Type 0} → (A → Bool) → List A → Bool
any f [] = false
any f (x ∷ xs) = f x || any f xs

abbrev pub bank_is_contended : ZXMachine → ℕ → Bool
bank_is_contended Sinclair48K page = eqb page 0
bank_is_contended Sinclair128K page = any (eqb page) (1 ∷ 3 ∷ 5 ∷ 7 ∷ [])
