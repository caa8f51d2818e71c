-- Moments of a frame that come line by line: the picture's blocks, the border's pixel pairs.
-- Assumes nothing.
use Rattle.std.specs.Prelude.{◌≡◌, ℕ, ◌+◌, ◌*◌, ◌/◌, ◌<◌, ◌≤◌, ◌^◌}
use Rattle.machine.specs.Pages.{passed}

-- how many of `total` moments have come at a clock: so many a line, so many clocks apart, the first at the origin
abbrev pub come : (per_line each total line origin clock : ℕ) → ℕ
come per_line each total line origin clock = passed (total / per_line) per_line each line origin clock

-- a line has room for its moments, the lines are full, and 32 bits are enough
pub record Paced (per_line each total line origin : ℕ) : Type 0 where
  pub some : 0 < per_line
  pub apart : 0 < each
  pub room : per_line * each ≤ line
  pub full : total / per_line * per_line ≡ total
  pub short : origin + total / per_line * line < 2 ^ 32
