-- Document 01, "Numbers of the two machines": delay, block position, border position and interrupt at a clock of the frame.
-- Assumes nothing.
use Rattle.std.specs.Prelude.{ℕ, ◌+◌, ◌-◌, ◌*◌, ◌/◌, ◌%◌, Bool, true, false, cond, List, [], ◌∷◌, ltb, leb, get_or, Option, Some, None}
use Rattle.machine.specs.declared.ZXSpecs.{ZXSpecs}
use Rattle.machine.specs.declared.Delay.{Delay}
use Rattle.machine.specs.declared.Delay.TheVariants.{Held, Outside}
use Rattle.machine.specs.declared.BlocksCount.{BlocksCount}
use Rattle.machine.specs.declared.BorderPixel.{BorderPixel}
use Rattle.machine.specs.Limits.{border_length}

-- "6 5 4 3 2 1 0 0"
abbrev pub pattern : List ℕ
pattern = 6 ∷ 5 ∷ 4 ∷ 3 ∷ 2 ∷ 1 ∷ 0 ∷ 0 ∷ []

-- "entry x mod 8"
abbrev pub entry : ℕ → ℕ
entry x = get_or pattern (x % 8) 0

-- "From 128 on the delay is 0, below that it is entry x mod 8": below it the beam is in a line of the picture, and the Z80 is held for the clocks of
-- the entry, which may be 0; "x of 128 or more included" is outside (02, Q-6)
unfoldable pub delay_in_line : ℕ → ℕ → Delay
delay_in_line line x = cond (leb 128 x) Outside (Held line x (entry x))

-- "Zero before the contention origin and from 192 lines after it. Otherwise let x be the clocks since the origin modulo the line."
unfoldable pub delay_at : ZXSpecs → ℕ → Delay
delay_at s clock =
    cond (ltb clock s.contention) Outside
    (cond (leb (s.contention + 192 * s.line) clock) Outside
    (delay_in_line ((clock - s.contention) / s.line) ((clock - s.contention) % s.line)))

-- the number: outside the picture it is zero
abbrev pub clocks_held : Delay → ℕ
clocks_held (Held line x clocks) = clocks
clocks_held Outside = 0

abbrev pub delay : ZXSpecs → ℕ → ℕ
delay s clock = clocks_held (delay_at s clock)

-- "In the eight clocks from x - x mod 8 on the ULA fetches columns 2 x (x / 8) and the next one": the first of the two. That it does is a theorem
-- (crate ports, proofs/Columns).
abbrev pub first_column : ℕ → ℕ
first_column x = 2 * (x / 8)

-- "line 192 or later is 6,144"
unfoldable pub blocks_capped : ℕ → ℕ → BlocksCount
blocks_capped line column = cond (leb 192 line) (record { lines = 192; columns = 0 }) (record { lines = line; columns = column })

-- "a column above 32 becomes column 0 of the next line"
unfoldable pub blocks_from : ℕ → ℕ → BlocksCount
blocks_from line column = cond (ltb 32 column) (blocks_capped (line + 1) 0) (blocks_capped line column)

-- "Before the block origin 0. Otherwise with c clocks since it: line c / line length, column (c mod line length) / 4 + 1"
unfoldable pub blocks_at : ZXSpecs → ℕ → BlocksCount
blocks_at s clock =
    cond (ltb clock s.block) (record { lines = 0; columns = 0 })
    (blocks_from ((clock - s.block) / s.line) ((clock - s.block) % s.line / 4 + 1))

-- "Position = 32 x line + column."
abbrev pub block_position : ZXSpecs → ℕ → ℕ
block_position s clock = 32 * (blocks_at s clock).lines + (blocks_at s clock).columns

-- a line and a pixel of the border; at frame end there is none
abbrev pub pixel_at : ℕ → ℕ → Option BorderPixel
pixel_at line pixel = Some (record { line = line; pixel = pixel })

-- "line 240 or later is frame end"
unfoldable pub border_capped : ℕ → ℕ → Option BorderPixel
border_capped line pixel = cond (leb 240 line) None (pixel_at line pixel)

-- "a pixel above 320 becomes pixel 0 of the next line"
unfoldable pub border_from : ℕ → ℕ → Option BorderPixel
border_from line pixel = cond (ltb 320 pixel) (border_capped (line + 1) 0) (border_capped line pixel)

-- "Before the border origin 0. Otherwise line c / line length and pixel 2 x (c mod line length + 1)"
unfoldable pub border_at : ZXSpecs → ℕ → Option BorderPixel
border_at s clock =
    cond (ltb clock s.border) (pixel_at 0 0)
    (border_from ((clock - s.border) / s.line) (2 * ((clock - s.border) % s.line + 1)))

-- "Position = 320 x line + pixel"; frame end is behind the last of the 76,800 pixels
abbrev pub place_position : Option BorderPixel → ℕ
place_position (Some p) = 320 * p.line + p.pixel
place_position None = border_length

abbrev pub border_position : ZXSpecs → ℕ → ℕ
border_position s clock = place_position (border_at s clock)

abbrev pub is_frame_end : Option BorderPixel → Bool
is_frame_end (Some p) = false
is_frame_end None = true

abbrev pub frame_end : ZXSpecs → ℕ → Bool
frame_end s clock = is_frame_end (border_at s clock)

-- "On while frame clock < 32."
abbrev pub interrupt : ℕ → Bool
interrupt clock = ltb clock 32
