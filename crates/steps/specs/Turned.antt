-- The turn that the code's record stands for, with the lent memory; and what a call under way asks for the steps that it still has to take.
-- Assumes nothing.
use Rattle.std.specs.Prelude.{ℕ, ◌+◌, ◌*◌, ◌%◌, ◌^◌, ◌<◌, ◌≤◌, false, ◌≡◌, List, length}
use Rattle.record.specs.Record.{last_frame}
use Rattle.machine.specs.Numbers.{specs_of}
use Rattle.machine.specs.Limits.{picture_length, border_length}
use Rattle.machine.specs.Timing.{block_position}
use Rattle.record.specs.declared.Bus.{Bus}
use Rattle.border.specs.declared.Beam.{Beam}
use Rattle.border.specs.Edge.{Edge}
use Rattle.memory.specs.Paging.{shown_page}
use Rattle.steps.specs.declared.Turning.{Turning}
use Rattle.bus.specs.World.{Core, Screen, world_of}
use Rattle.bus.specs.Time.{Look, flash_on}
use Rattle.bus.specs.Turns.{Turn}

abbrev pub turn_of : Turning → List ℕ → List ℕ → List ℕ → List ℕ → Turn
turn_of t ram a b border =
    record { machine = t.bus.machine; world = world_of t.bus ram a b border; clocks = t.clocks; blocks = t.blocks; closed = t.closed }

-- the three parts of a world, and a catch-up up to a position
abbrev pub core_of : Bus → List ℕ → Core
core_of bus ram =
    record { clock = bus.clock; passed = bus.passed; phase = bus.phase; paging = bus.paging; reported = bus.reported; ram = ram }

abbrev pub screen_of : ℕ → List ℕ → List ℕ → Screen
screen_of painted a b = record { painted = painted; a = a; b = b }

abbrev pub edge_in : Bus → List ℕ → Edge
edge_in bus border = record { colour = bus.colour; blocked = bus.blocked; pairs = bus.pairs; pixels = border }

-- the border's beam of a state record, and a state record with another beam
abbrev pub beam_in : Bus → Beam
beam_in bus = record { colour = bus.colour; blocked = bus.blocked; pairs = bus.pairs }

abbrev pub beamed : Bus → Beam → Bus
beamed bus beam =
    record {
      machine = bus.machine;
      clock = bus.clock;
      passed = bus.passed;
      phase = bus.phase;
      painted = bus.painted;
      paging = bus.paging;
      reported = bus.reported;
      colour = beam.colour;
      blocked = beam.blocked;
      pairs = beam.pairs;
    }

abbrev pub look_to : ℕ → Bus → List ℕ → Look
look_to position bus ram = record { at = position; ram = ram; page = shown_page bus.machine bus.paging; flash = flash_on bus.phase }

-- the state record after a closing: "sets painted to 0, raises passed frames by one and the phase by one modulo 32", and of the border "clears both"
abbrev pub next_frame : Bus → ℕ → Bus
next_frame bus clock =
    record {
      machine = bus.machine;
      clock = clock;
      passed = bus.passed + 1;
      phase = (bus.phase + 1) % 32;
      painted = 0;
      paging = bus.paging;
      reported = bus.reported;
      colour = bus.colour;
      blocked = false;
      pairs = 0;
    }

-- What is asked before so many steps of so many clocks in all: memory of the machine's sizes, a phase below 32, the clock within the frame,
-- no block painted before its time, less than a frame to go, and room for the sums. `time` is the clocks since the start: a step adds its own to them, whether it closes a frame
-- or not, so this one line says that the passed frames will fit.
pub record Ready (t : Turn) (steps clocks : ℕ) : Type 0 where
  pub ram_fits : length t.world.core.ram ≡ (specs_of t.machine).ram
  pub a_fits : length t.world.screen.a ≡ picture_length
  pub b_fits : length t.world.screen.b ≡ picture_length
  pub border_fits : length t.world.edge.pixels ≡ border_length
  pub phase_fits : t.world.core.phase < 32
  pub in_frame : t.world.core.clock < (specs_of t.machine).frame
  pub in_place : t.world.screen.painted ≤ block_position (specs_of t.machine) t.world.core.clock
  pub short : clocks < (specs_of t.machine).frame
  pub time : t.world.core.passed * (specs_of t.machine).frame + t.world.core.clock + clocks < (last_frame + 1) * (specs_of t.machine).frame
  pub clocks_fit : t.clocks + clocks < 2 ^ 32
  pub blocks_fit : t.blocks + 6144 * steps < 2 ^ 16
