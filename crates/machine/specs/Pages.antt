-- The frame in the words of the public 48K and 128K reference pages: lines and T-states counted one after the other, with no division.
-- Numbers that no page states, because they are the handheld's window or a shift of the Rust's, stand apart at the end and say so.
-- Assumes nothing.
use Rattle.std.specs.Prelude.{ℕ, zero, suc, ◌+◌, ◌-◌, ◌*◌, Bool, false, cond, ◌||◌, List, [], ◌∷◌, ltb, leb, eqb, get_or}
use Rattle.machine.specs.declared.ZXMachine.{ZXMachine}
use Rattle.machine.specs.declared.ZXMachine.TheVariants.{Sinclair48K, Sinclair128K}

-- what a page says of a machine: lines before the picture, lines in a frame, T-states in a line, the T-state at which the first
-- byte of the picture is due, and the first contended T-state
pub record Page : Type 0 where
  pub top : ℕ
  pub lines : ℕ
  pub per_line : ℕ
  pub first_byte : ℕ
  pub first_held : ℕ

-- 48K: 312 lines of 224 T-states, 64 before the picture; 14,336 and 14,335. 128K: 311 lines of 228, 63 before; 14,362 and 14,361.
-- (On 128K 63 lines are 14,364 T-states: the page's line count and its first T-state do not meet, and the T-state is what is used.)
abbrev pub page_of : ZXMachine → Page
page_of Sinclair48K = record { top = 64; lines = 312; per_line = 224; first_byte = 14336; first_held = 14335 }
page_of Sinclair128K = record { top = 63; lines = 311; per_line = 228; first_byte = 14362; first_held = 14361 }

-- the T-states of a frame: so many lines, one after the other
unfoldable pub laps : ℕ → ℕ → ℕ
laps zero per_line = 0
laps (suc k) per_line = per_line + laps k per_line

-- k times the pattern 6, 5, 4, 3, 2, 1, none, none
unfoldable pub patterns : ℕ → List ℕ
patterns zero = []
patterns (suc k) = 6 ∷ 5 ∷ 4 ∷ 3 ∷ 2 ∷ 1 ∷ 0 ∷ 0 ∷ patterns k

-- what T-state t costs over k lines of the picture, of which the next starts to be contended at T-state `start`: the pattern
-- repeats through 128 T-states of the line, and none is due elsewhere
unfoldable pub scan : ℕ → ℕ → ℕ → ℕ → ℕ
scan zero start per_line t = 0
scan (suc k) start per_line t =
    cond (ltb t start) 0
    (cond (ltb t (start + 128)) (get_or (patterns 16) (t - start) 0) (scan k (start + per_line) per_line t))

abbrev pub page_delay : Page → ℕ → ℕ
page_delay p t = scan 192 p.first_held p.per_line t

-- t is one of the n T-states from `start` on
unfoldable pub lasts : ℕ → ℕ → ℕ → Bool
lasts zero start t = false
lasts (suc n) start t = eqb t start || lasts n (start + 1) t

-- 48K: "Time starts at the interrupt, which lasts 32 T-states." The 128K page as we know it states no length, and none is made up for it
-- here: libspectrum has 36, which is no page's word.
abbrev pub interrupt48k : ℕ → Bool
interrupt48k t = lasts 32 0 t

-- how many of the n moments start, start + step, start + 2 step, … have come at T-state t
unfoldable pub ticks : ℕ → ℕ → ℕ → ℕ → ℕ
ticks zero step start t = 0
ticks (suc n) step start t = cond (leb start t) 1 0 + ticks n step (start + step) t

-- the same over k lines of n moments each
unfoldable pub passed : ℕ → ℕ → ℕ → ℕ → ℕ → ℕ → ℕ
passed zero n step per_line start t = 0
passed (suc k) n step per_line start t = ticks n step start t + passed k n step per_line (start + per_line) t

-- Not from the pages. The Rust's shift from the first byte's T-state to the first block (clocks_ula_read_shift); on 48K the page's own
-- "first bitmap byte is seen at 14,338" on the floating bus is the same moment.
abbrev pub read_shift : ℕ
read_shift = 2

-- Not from the pages. The Rust's shift of the border's beam (clocks_ula_beam_shift).
abbrev pub beam_shift : ℕ
beam_shift = 1

-- Not from the pages. The handheld's window of 320 x 240: 24 lines above the picture, and 32 pixels, which are 16 T-states, to its left.
abbrev pub window_lines : ℕ
window_lines = 24

abbrev pub window_clocks : ℕ
window_clocks = 16

-- Blocks of the picture that have come, at the pace of the pixels: two take one T-state and a block's eight take four, a line has 32 blocks, the
-- picture 192 lines. When the ULA fetches the two bytes of a block is another question, which the pages answer by the order of the floating bus
-- (crate ports, specs/Pages); the two answers are the same for the bitmap bytes of even columns alone (there, proofs/BlockClocks).
abbrev pub page_blocks : Page → ℕ → ℕ
page_blocks p t = passed 192 32 4 p.per_line (p.first_byte + read_shift) t

-- the T-state of the window's first pixel pair
abbrev pub window_start : Page → ℕ
window_start p = p.first_byte + beam_shift - window_lines * p.per_line - window_clocks

-- pixel pairs of the window that have come: two pixels take one T-state, a line of the window has 160 pairs, the window 240 lines
abbrev pub page_pairs : Page → ℕ → ℕ
page_pairs p t = passed 240 160 1 p.per_line (window_start p) t
