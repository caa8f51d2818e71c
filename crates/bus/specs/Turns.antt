-- Operations one after the other, and what they report: clocks, blocks painted, and whether a frame was closed.
-- Assumes nothing.
use Rattle.std.specs.Prelude.{ℕ, ◌+◌, ◌-◌, Bool, false, ◌||◌, List, [], ◌∷◌, ◌++◌}
use Rattle.machine.specs.declared.ZXMachine.{ZXMachine}
use Rattle.machine.specs.Numbers.{specs_of}
use Rattle.machine.specs.Timing.{clocks_held, block_position}
use Rattle.bus.specs.World.{Core, World}
use Rattle.bus.specs.Time.{Stall, free, due, lasts, Op, step, colour, silent, closes, in_core, does}

-- "clocks (32)": those of its steps
unfoldable pub clocks_of : Op → ℕ
clocks_of (step h n) = lasts h n
clocks_of (colour k) = 0
clocks_of (silent o) = 0

-- of these the delays, and the steps' own clocks
abbrev pub delay_in : Stall → ℕ
delay_in free = 0
delay_in (due d) = clocks_held d

unfoldable pub delay_of : Op → ℕ
delay_of (step h n) = delay_in h
delay_of (colour k) = 0
delay_of (silent o) = 0

unfoldable pub own_of : Op → ℕ
own_of (step h n) = n
own_of (colour k) = 0
own_of (silent o) = 0

-- all the delays of some operations, and all their own clocks
unfoldable pub delays : List Op → ℕ
delays [] = 0
delays (o ∷ os) = delay_of o + delays os

unfoldable pub own_clocks : List Op → ℕ
own_clocks [] = 0
own_clocks (o ∷ os) = own_of o + own_clocks os

-- "blocks painted (16)": the painting steps of its catch-ups, from the painted count up to the position
unfoldable pub blocks_of : ZXMachine → Op → World → ℕ
blocks_of m (step h n) w = block_position (specs_of m) (w.core.clock + lasts h n) - w.screen.painted
blocks_of m (colour k) w = 0
blocks_of m (silent o) w = 0

-- "frame closed 0/1"
unfoldable pub closed_by : ZXMachine → Op → Core → Bool
closed_by m (step h n) c = closes m (lasts h n) c
closed_by m (colour k) c = false
closed_by m (silent o) c = false

-- a call under way: the machine, the world as it stands now, and what the call has to report so far
pub record Turn : Type 0 where
  pub machine : ZXMachine
  pub world : World
  pub clocks : ℕ
  pub blocks : ℕ
  pub closed : Bool

unfoldable pub turned : Op → Turn → Turn
turned o t =
    record {
      machine = t.machine;
      world = does t.machine o t.world;
      clocks = t.clocks + clocks_of o;
      blocks = t.blocks + blocks_of t.machine o t.world;
      closed = t.closed || closed_by t.machine o t.world.core;
    }

-- operations one after the other
unfoldable pub ran : List Op → Turn → Turn
ran [] t = t
ran (o ∷ os) t = ran os (turned o t)

unfoldable pub core_after : ZXMachine → List Op → Core → Core
core_after m [] c = c
core_after m (o ∷ os) c = core_after m os (in_core m o c)

-- a call begins with nothing to report
abbrev pub fresh : ZXMachine → World → Turn
fresh m w = record { machine = m; world = w; clocks = 0; blocks = 0; closed = false }

-- a part of a call: the operations that the core decides when it comes to that part
abbrev pub Part : Type 0
Part = Core → List Op

-- one part and then another, which the core as the first leaves it decides
unfoldable pub and_then : ZXMachine → Part → Part → Part
and_then m f g c = f c ++ g (core_after m (f c) c)

-- a part of a call under way
abbrev pub ran_by : Part → Turn → Turn
ran_by f t = ran (f t.world.core) t
