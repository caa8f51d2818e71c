-- What waits and port calls take, by clock, address or port, and 7FFD byte alone. That steps one after the other come to these sums,
-- also where a frame ends among them, is proved (proofs/PortSteps.antt): no promise speaks of them, and the code goes by them.
-- Assumes nothing.
use Rattle.std.specs.Prelude.{ℕ, ◌+◌, cond}
use Rattle.machine.specs.declared.ZXMachine.{ZXMachine}
use Rattle.machine.specs.declared.ZXSpecs.{ZXSpecs}
use Rattle.machine.specs.Numbers.{specs_of}
use Rattle.machine.specs.Timing.{delay, border_at}
use Rattle.machine.specs.Contended.{port_contended}
use Rattle.memory.specs.Paging.{addr_contended}
use Rattle.border.specs.Edge.{inked}
use Rattle.bus.specs.World.{Core}
use Rattle.bus.specs.Turns.{Turn}

-- the delay that is due at an address: none if its page is not contended
abbrev pub due_at : ZXMachine → ℕ → ℕ → ℕ → ℕ
due_at m paging addr clock = cond (addr_contended m paging addr) (delay (specs_of m) clock) 0

-- "Port first part: if the port as an address is contended, a step of the delay; a step of 1."
abbrev pub first_clocks : ZXMachine → ℕ → ℕ → ℕ → ℕ
first_clocks m paging port clock = due_at m paging port clock + 1

-- "delay + 1, delay + 1, delay": each delay is the one that is due where the step before it ended
abbrev pub held_once : ZXSpecs → ℕ → ℕ
held_once s clock = delay s clock + 1

unfoldable pub held_twice : ZXSpecs → ℕ → ℕ
held_twice s clock = held_once s clock + held_once s (clock + held_once s clock)

unfoldable pub held_thrice : ZXSpecs → ℕ → ℕ
held_thrice s clock = held_twice s clock + delay s (clock + held_twice s clock)

-- "Last part: an even port steps delay + 2; else a contended address steps delay + 1, delay + 1, delay; else 2."
unfoldable pub last_clocks : ZXMachine → ℕ → ℕ → ℕ → ℕ
last_clocks m paging port clock =
    cond (port_contended m port) (delay (specs_of m) clock + 2)
    (cond (addr_contended m paging port) (held_thrice (specs_of m) clock) 2)

-- both parts, one after the other: what a read takes before its value is taken
abbrev pub part_clocks : ZXMachine → ℕ → ℕ → ℕ → ℕ
part_clocks m paging port clock =
    first_clocks m paging port clock + last_clocks m paging port (clock + first_clocks m paging port clock)

-- a border write at a clock of the frame that need not be the turn's own
abbrev pub inked_at_clock : ℕ → ℕ → Turn → Turn
inked_at_clock clock k t =
    record {
      machine = t.machine;
      world =
          record {
            core =
                record {
                  clock = t.world.core.clock;
                  passed = t.world.core.passed;
                  phase = t.world.core.phase;
                  paging = t.world.core.paging;
                  reported = k;
                  ram = t.world.core.ram;
                };
            screen = t.world.screen;
            edge = inked (border_at (specs_of t.machine) clock) k t.world.edge;
          };
      clocks = t.clocks;
      blocks = t.blocks;
      closed = t.closed;
    }

-- the core at another clock of the frame
abbrev pub at_clock : ℕ → Core → Core
at_clock clock c =
    record { clock = clock; passed = c.passed; phase = c.phase; paging = c.paging; reported = c.reported; ram = c.ram }
