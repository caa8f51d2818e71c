-- Document 01, "Bus calls", the floating bus: which byte of the picture the ULA fetches at a clock, and at which address it stands.
-- Assumes nothing.
use Rattle.std.specs.Prelude.{ℕ, ◌+◌, ◌-◌, ◌*◌, ◌/◌, ◌%◌, cond, ltb, leb, eqb, Option, Some, None}
use Rattle.machine.specs.declared.ZXSpecs.{ZXSpecs}
use Rattle.offsets.specs.Offset.{line_start, attribute_start}
use Rattle.ports.specs.declared.Fetched.{Fetched}
use Rattle.ports.specs.declared.Fetched.TheVariants.{Bitmap, Attribute}

-- "column 2 x (r / 8) + (r mod 8) / 2"
abbrev pub column_at : ℕ → ℕ
column_at r = 2 * (r / 8) + r % 8 / 2

-- "the bitmap byte if r is even, the attribute if odd"
abbrev pub fetched : ℕ → ℕ → Option Fetched
fetched row r = cond (eqb (r % 2) 0) (Some (Bitmap row (column_at r))) (Some (Attribute row (column_at r)))

-- "FFh .. from row 192, from r = 124, or when r mod 8 > 3"
unfoldable pub floating_in : ℕ → ℕ → Option Fetched
floating_in row r =
    cond (leb 192 row) None
    (cond (leb 124 r) None
    (cond (ltb 3 (r % 8)) None (fetched row r)))

-- "with c clocks since the block origin, row c / line length and r the remainder: FFh before the origin"
unfoldable pub floating_place : ZXSpecs → ℕ → Option Fetched
floating_place s clock =
    cond (ltb clock s.block) None
    (floating_in ((clock - s.block) / s.line) ((clock - s.block) % s.line))

-- "the floating bus always reads through 4000h": the bitmap stands there, and the attributes at 5800h
abbrev pub floating_address : Option Fetched → Option ℕ
floating_address None = None
floating_address (Some (Bitmap row column)) = Some (0x4000 + line_start row + column)
floating_address (Some (Attribute row column)) = Some (0x5800 + attribute_start row + column)
