-- Demands 2 and 3 of the mission, of a run of the C functions: a start, either of the two, or an import, and then the calls cs on the slices l that it left.
-- Assumes nothing.
use Rattle.std.specs.Prelude.{ℕ, List, ◌≡◌}
use Rattle.record.specs.Record.{machine_of}
use Rattle.contracts.specs.Timed.{Lent}
use Rattle.contracts.specs.Calls.{Start, asked_machine, first_colour, started_world, Made}
use Rattle.rustzx.specs.Machine.{ZXMachine}
use Rattle.rustzx.specs.Colors.{ZXColor, color_byte}
use Rattle.rustzx.specs.Controller.{ZXController, new, with_rom, set_beam}
use Rattle.history.specs.Reports.{Sums, summed}
use Rattle.history.specs.Demand.{history, Demand3}
use Rattle.surface.specs.Same.{SameLent, Names, Clears}
use Rattle.surface.specs.Chain.{AllSame}

-- what was reported over the run, and the buffers at its end
abbrev pub reported_over : List Made → Lent → Sums
reported_over cs l = summed cs (record { slices = l; clocks = 0; blocks = 0; closed = 0 })

pub record Demands (how : Start) (rom : List ℕ) (cs : List Made) (l : Lent) : Type 0 where
  -- "machine (0 = 48K, 1 = 128K)": the Rust's machine of that number, and its colour of the first
  pub rust : ZXMachine
  pub named : Names (asked_machine how) rust
  pub color : ZXColor
  pub coloured : color_byte color ≡ first_colour how
  -- DEMAND 2: each call has the number of the first of its causes that holds, and none where none does; an accepted one is the Rust's, in its answer
  -- and in all that the buffers hold; a refused one leaves everything as it was. "Equality with the Rust's start is claimed for the call with colour 7".
  pub demand2 : Clears how → first_colour how ≡ 7 → AllSame rom cs (with_rom rom (new rust)) l
  -- The Rust has no start with another colour. Beside the new controller whose beam was given the start's colour, before any clock, by its own
  -- set_border, all of it holds of both starts.
  pub demand2_beam : Clears how → AllSame rom cs (with_rom rom (set_beam color (new rust))) l
  -- Nor has the Rust an import. Beside any controller of its that holds what the start or the import left, all of it holds too; and there is one.
  pub demand2_held : (c : ZXController) → SameLent rom c l → AllSame rom cs c l
  pub held_by_some : (c : ZXController) × SameLent rom c l
  -- DEMAND 3: every picture and every sum; "the start's colour being the first" is that of whichever start it was. "Demand 3 reads an import as a start whose
  -- RAM is the file's."
  pub demand3 : Demand3 (machine_of (asked_machine how)) (started_world how) cs (history (machine_of (asked_machine how)) (started_world how) cs) (reported_over cs l)
