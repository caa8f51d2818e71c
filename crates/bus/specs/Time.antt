-- Document 01, "Start, time and paint": the operations of the bus, each in the three parts of the world.
-- Assumes nothing.
use Rattle.std.specs.Prelude.{ℕ, ◌+◌, ◌-◌, ◌%◌, Bool, cond, ◌&&◌, List, [], ◌∷◌, leb, eqb}
use Rattle.machine.specs.declared.ZXMachine.{ZXMachine}
use Rattle.machine.specs.declared.Delay.{Delay}
use Rattle.machine.specs.Numbers.{specs_of}
use Rattle.machine.specs.Timing.{clocks_held, block_position, border_at}
use Rattle.paint.specs.Paint.{paint}
use Rattle.border.specs.Edge.{Edge, inked, finished}
use Rattle.memory.specs.Paging.{shown_page}
use Rattle.memory.specs.Memory.{ram_page, stored}
use Rattle.bus.specs.World.{Core, Screen, World}

-- what a catch-up sees: the position that it reaches, and the bytes, shown page and flash held
pub record Look : Type 0 where
  pub at : ℕ
  pub ram : List ℕ
  pub page : ℕ
  pub flash : Bool

-- "flash is on in phases 1 to 16"
abbrev pub flash_on : ℕ → Bool
flash_on phase = leb 1 phase && leb phase 16

-- a catch-up at a clock of the frame
abbrev pub look_at : ZXMachine → ℕ → Core → Look
look_at m clock c =
    record { at = block_position (specs_of m) clock; ram = c.ram; page = shown_page m c.paging; flash = flash_on c.phase }

-- "Catch-up paints, in raster order, every block from the painted count up to the position"
abbrev pub paint_from : Look → ℕ → List ℕ → List ℕ
paint_from l from picture = paint (ram_page l.page l.ram) l.flash from (l.at - from) picture

-- "A is shown in even phases, B in odd."
abbrev pub shows_a : ℕ → Bool
shows_a phase = eqb (phase % 2) 0

abbrev pub shown_picture : Core → Screen → List ℕ
shown_picture c s = cond (shows_a c.phase) s.a s.b

abbrev pub hidden_picture : Core → Screen → List ℕ
hidden_picture c s = cond (shows_a c.phase) s.b s.a

-- "Blocks go to the hidden picture"
unfoldable pub caught_up : Look → Bool → Screen → Screen
caught_up l shows-a s =
    record {
      painted = l.at;
      a = cond shows-a s.a (paint_from l s.painted s.a);
      b = cond shows-a (paint_from l s.painted s.b) s.b;
    }

-- what a step waits out before its own clocks: nothing, where no delay is asked for, or the delay that is due, which says why
pub data Stall : Type 0 where
  free : Stall
  due : Delay → Stall

-- how long a step is: its delay, if any, and its own clocks
abbrev pub lasts : Stall → ℕ → ℕ
lasts free n = n
lasts (due d) n = clocks_held d + n

-- the operations that take no time and paint nothing: bytes stored in RAM from an offset on, a 7FFD write that is taken, and the reset of
-- passed frames
pub data Silent : Type 0 where
  store : ℕ → List ℕ → Silent
  paged : ℕ → Silent
  unpass : Silent

-- the operations that calls are made of: a step, a border write of a colour, and the silent ones
pub data Op : Type 0 where
  step : Stall → ℕ → Op
  colour : ℕ → Op
  silent : Silent → Op

-- a step without delay
abbrev pub tick : ℕ → Op
tick n = step free n

-- "if the clock is at or past the frame"
abbrev pub closes : ZXMachine → ℕ → Core → Bool
closes m n c = leb (specs_of m).frame (c.clock + n)

-- "A step of n clocks adds n .. then, if the clock is at or past the frame, subtracts one frame and closes it."
abbrev pub went_on : ℕ → Core → Core
went_on n c =
    record { clock = c.clock + n; passed = c.passed; phase = c.phase; paging = c.paging; reported = c.reported; ram = c.ram }

-- "Closing .. raises passed frames by one and the phase by one modulo 32"
abbrev pub wrapped : ZXMachine → ℕ → Core → Core
wrapped m n c =
    record {
      clock = c.clock + n - (specs_of m).frame;
      passed = c.passed + 1;
      phase = (c.phase + 1) % 32;
      paging = c.paging;
      reported = c.reported;
      ram = c.ram;
    }

-- what the silent operations leave of passed frames, of the 7FFD byte and of RAM
abbrev pub passed_left : Silent → ℕ → ℕ
passed_left (store at bytes) passed = passed
passed_left (paged v) passed = passed
passed_left unpass passed = 0

abbrev pub paging_left : Silent → ℕ → ℕ
paging_left (store at bytes) paging = paging
paging_left (paged v) paging = v
paging_left unpass paging = paging

abbrev pub ram_left : Silent → List ℕ → List ℕ
ram_left (store at bytes) ram = stored at bytes ram
ram_left (paged v) ram = ram
ram_left unpass ram = ram

unfoldable pub in_core : ZXMachine → Op → Core → Core
in_core m (step h n) c = cond (closes m (lasts h n) c) (wrapped m (lasts h n) c) (went_on (lasts h n) c)
in_core m (colour k) c =
    record { clock = c.clock; passed = c.passed; phase = c.phase; paging = c.paging; reported = k; ram = c.ram }
in_core m (silent o) c =
    record {
      clock = c.clock;
      passed = passed_left o c.passed;
      phase = c.phase;
      paging = paging_left o c.paging;
      reported = c.reported;
      ram = ram_left o c.ram;
    }

-- "Closing sets painted to 0"
abbrev pub rewound : Screen → Screen
rewound s = record { painted = 0; a = s.a; b = s.b }

-- "catches up the screen .. up to the position of the clock before subtraction"
unfoldable pub in_screen : ZXMachine → Op → Core → Screen → Screen
in_screen m (step h n) c s =
    cond (closes m (lasts h n) c)
    (rewound (caught_up (look_at m (c.clock + lasts h n) c) (shows_a c.phase) s))
    (caught_up (look_at m (c.clock + lasts h n) c) (shows_a c.phase) s)
in_screen m (colour k) c s = s
in_screen m (silent o) c s = s

-- "Closing .. finishes the border"; a border write goes to the place of the clock
unfoldable pub in_edge : ZXMachine → Op → Core → Edge → Edge
in_edge m (step h n) c e = cond (closes m (lasts h n) c) (finished e) e
in_edge m (colour k) c e = inked (border_at (specs_of m) c.clock) k e
in_edge m (silent o) c e = e

-- THE STEP, and each other operation, on the whole world
abbrev pub does : ZXMachine → Op → World → World
does m o w =
    record {
      core = in_core m o w.core;
      screen = in_screen m o w.core w.screen;
      edge = in_edge m o w.core w.edge;
    }

-- the world after operations, one after the other
unfoldable pub world_after : ZXMachine → List Op → World → World
world_after m [] w = w
world_after m (o ∷ os) w = world_after m os (does m o w)
