-- Document 01, "Start, time and paint": the border.
-- Assumes nothing.
use Rattle.std.specs.Prelude.{ℕ, ◌-◌, ◌*◌, ◌/◌, Bool, true, false, cond, List, replicate, Option, Some, None}
use Rattle.std.proofs.lemmas.List.Edits.{sets}
use Rattle.machine.specs.declared.BorderPixel.{BorderPixel}
use Rattle.machine.specs.Timing.{place_position}
use Rattle.machine.specs.Limits.{border_length}
use Rattle.border.specs.declared.Beam.{Beam}

-- the border: "beam colour 0..7; beam blocked 0/1; beam position in pixel pairs", and the 76,800 pixels
pub record Edge : Type 0 where
  pub colour : ℕ
  pub blocked : Bool
  pub pairs : ℕ
  pub pixels : List ℕ

abbrev pub edge_of : Beam → List ℕ → Edge
edge_of beam pixels = record { colour = beam.colour; blocked = beam.blocked; pairs = beam.pairs; pixels = pixels }

-- the pixels from one position up to another in one colour; where the first is not below the second, no pixel
unfoldable pub filled : ℕ → ℕ → ℕ → List ℕ → List ℕ
filled from to colour pixels = sets pixels from (replicate (to - from) colour)

-- the pixels, filled "from the beam position" up to a position "in the old beam colour"
abbrev pub filled_to : ℕ → Edge → List ℕ
filled_to to e = filled (2 * e.pairs) to e.colour e.pixels

-- "A border write fills from the beam position to the write's position in the old beam colour, then moves there with the new colour.
-- At frame end it fills to 76,800, sets blocked and beam 0"
unfoldable pub inked_at : Option BorderPixel → ℕ → Edge → Edge
inked_at (Some p) colour e =
    record { colour = colour; blocked = false; pairs = place_position (Some p) / 2; pixels = filled_to (place_position (Some p)) e }
inked_at None colour e = record { colour = colour; blocked = true; pairs = 0; pixels = filled_to border_length e }

-- "later writes in that frame only change the colour"
unfoldable pub inked : Option BorderPixel → ℕ → Edge → Edge
inked place colour e =
    cond e.blocked
    (record { colour = colour; blocked = e.blocked; pairs = e.pairs; pixels = e.pixels })
    (inked_at place colour e)

-- "Closing fills the rest unless blocked, and clears both."
unfoldable pub finished : Edge → Edge
finished e =
    record { colour = e.colour; blocked = false; pairs = 0; pixels = cond e.blocked e.pixels (filled_to border_length e) }
