-- The bus by value: document 01's state record and lent memory in three parts. The core is what calls and time rules alone decide; the
-- screen and the edge read the core, and the core reads neither, so that what is said of pictures is never said of itself.
-- Assumes nothing.
use Rattle.std.specs.Prelude.{ℕ, List, ◌≡◌, length, replicate}
use Rattle.machine.specs.declared.ZXMachine.{ZXMachine}
use Rattle.machine.specs.Numbers.{specs_of}
use Rattle.machine.specs.Limits.{picture_length, border_length}
use Rattle.record.specs.declared.Bus.{Bus}
use Rattle.record.specs.Record.{start_record}
use Rattle.border.specs.Edge.{Edge}

-- "frame clock; passed frames; flash phase; last 7FFD byte; reported border", and the RAM
pub record Core : Type 0 where
  pub clock : ℕ
  pub passed : ℕ
  pub phase : ℕ
  pub paging : ℕ
  pub reported : ℕ
  pub ram : List ℕ

-- "blocks painted", and "two pictures A and B"
pub record Screen : Type 0 where
  pub painted : ℕ
  pub a : List ℕ
  pub b : List ℕ

-- the edge is border's: "beam colour; beam blocked; beam position in pixel pairs", and the border's pixels
pub record World : Type 0 where
  pub core : Core
  pub screen : Screen
  pub edge : Edge

-- the world of a state record and the lent memory
abbrev pub world_of : Bus → List ℕ → List ℕ → List ℕ → List ℕ → World
world_of bus ram a b border =
    record {
      core = record { clock = bus.clock; passed = bus.passed; phase = bus.phase; paging = bus.paging; reported = bus.reported; ram = ram };
      screen = record { painted = bus.painted; a = a; b = b };
      edge = record { colour = bus.colour; blocked = bus.blocked; pairs = bus.pairs; pixels = border };
    }

-- and the state record of a world
abbrev pub bus_of : ZXMachine → World → Bus
bus_of m w =
    record {
      machine = m;
      clock = w.core.clock;
      passed = w.core.passed;
      phase = w.core.phase;
      painted = w.screen.painted;
      paging = w.core.paging;
      reported = w.core.reported;
      colour = w.edge.colour;
      blocked = w.edge.blocked;
      pairs = w.edge.pairs;
    }

-- "Start clears RAM, pictures and border to 0 and writes a record .."
unfoldable pub clear_ram : ZXMachine → List ℕ
clear_ram m = replicate (specs_of m).ram 0

unfoldable pub clear_picture : List ℕ
clear_picture = replicate picture_length 0

unfoldable pub clear_border : List ℕ
clear_border = replicate border_length 0

-- the world of a record and a RAM, with pictures and border cleared: what a start leaves, and what an import leaves, which "clears pictures and border as a
-- start does" (02, Q-4)
abbrev pub beginning : Bus → List ℕ → World
beginning bus ram = world_of bus ram clear_picture clear_picture clear_border

-- the world that a start with a colour leaves
abbrev pub started : ZXMachine → ℕ → World
started m colour = beginning (start_record m colour) (clear_ram m)

-- the memory of a machine has the lengths that document 01 gives it
pub record Sized (m : ZXMachine) (w : World) : Type 0 where
  pub ram : length w.core.ram ≡ (specs_of m).ram
  pub a : length w.screen.a ≡ picture_length
  pub b : length w.screen.b ≡ picture_length
  pub pixels : length w.edge.pixels ≡ border_length
