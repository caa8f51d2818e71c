-- The two ways of a step, written out: within the frame, and over its end; and that the shown page lies within the RAM.
-- Assumes nothing.
use Prim.Native.Nat.{ℕ, ◌+◌, ◌-◌, ◌*◌, ◌^◌, ◌<◌, ◌≤◌}
use native.Mathlib.Omega.{arith}
use mathlib.Core.Path.{◌≡◌}
use mathlib.Core.Bool.{true, or-true, or-false}
use borrow.Author.Tests.{le-leb, lt-leb}
use Rattle.machine.specs.declared.ZXMachine.{ZXMachine}
use Rattle.machine.specs.Numbers.{specs_of}
use Rattle.machine.specs.Timing.{block_position}
use Rattle.memory.specs.Paging.{shown_page}
use Rattle.memory.proofs.Places.{exists_fits, shown_exists}
use Rattle.border.specs.Edge.{finished}
use Rattle.bus.specs.Time.{tick, look_at, shows_a, caught_up, went_on, wrapped, rewound, in_core, in_screen, in_edge}
use Rattle.bus.specs.Turns.{Turn, turned, clocks_of, blocks_of, closed_by}
use Rattle.steps.specs.Turned.{Ready}

-- a step within the frame, and a step that closes it, written out
abbrev pub on_tick : Turn → ℕ → Turn
on_tick t n =
    record {
      machine = t.machine;
      world =
          record {
            core = went_on n t.world.core;
            screen = caught_up (look_at t.machine (t.world.core.clock + n) t.world.core) (shows_a t.world.core.phase) t.world.screen;
            edge = t.world.edge;
          };
      clocks = t.clocks + n;
      blocks = t.blocks + (block_position (specs_of t.machine) (t.world.core.clock + n) - t.world.screen.painted);
      closed = t.closed;
    }

abbrev pub over_tick : Turn → ℕ → Turn
over_tick t n =
    record {
      machine = t.machine;
      world =
          record {
            core = wrapped t.machine n t.world.core;
            screen =
                rewound
                (caught_up (look_at t.machine (t.world.core.clock + n) t.world.core) (shows_a t.world.core.phase) t.world.screen);
            edge = finished t.world.edge;
          };
      clocks = t.clocks + n;
      blocks = t.blocks + (block_position (specs_of t.machine) (t.world.core.clock + n) - t.world.screen.painted);
      closed = true;
    }

pub tick_on : (t : Turn) (n : ℕ) → t.world.core.clock + n < (specs_of t.machine).frame → turned (tick n) t ≡ on_tick t n
unfolding turned in_core in_screen in_edge clocks_of blocks_of closed_by
tick_on t n h = rw (lt-leb (specs_of t.machine).frame (t.world.core.clock + n) h, or-false t.closed)

pub tick_over : (t : Turn) (n : ℕ) → (specs_of t.machine).frame ≤ t.world.core.clock + n → turned (tick n) t ≡ over_tick t n
unfolding turned in_core in_screen in_edge clocks_of blocks_of closed_by
tick_over t n h = rw (le-leb (specs_of t.machine).frame (t.world.core.clock + n) h, or-true t.closed)

-- the shown page lies within the RAM
pub shown_within : (m : ZXMachine) (paging : ℕ) → 16384 * shown_page m paging + 16384 ≤ (specs_of m).ram
shown_within m paging = exists_fits m (shown_page m paging) (shown_exists m paging)

-- the blocks reported have room for those of one step more
pub blocks_fit_lem : (t : Turn) (k n : ℕ) (r : Ready t k n) (x : ℕ) → x ≤ 6144 → 0 < k → t.blocks + x < 2 ^ 32
blocks_fit_lem t k n r x h z = omega (arith, r.blocks_fit)
