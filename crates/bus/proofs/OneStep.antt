-- A step by its two cases: it goes on within the frame, or it closes the frame. Each part of the world, either way.
-- Assumes nothing.
use mathlib.Core.Path.{◌≡◌, refl}
use mathlib.Core.Bool.{Bool, true, false}
use Prim.Native.Nat.{ℕ, ◌+◌, ◌<◌, ◌≤◌}
use native.Mathlib.Omega.{arith}
use mathlib.Core.Logic.{◌⊎◌, inl, inr}
use lib.Dec.{lit<}
use borrow.Author.Tests.{leb-true, leb-false, le-leb, lt-leb}
use Rattle.machine.specs.declared.ZXMachine.{ZXMachine}
use Rattle.machine.specs.declared.ZXMachine.TheVariants.{Sinclair48K, Sinclair128K}
use Rattle.machine.specs.Numbers.{specs_of}
use Rattle.border.specs.Edge.{Edge, finished}
use Rattle.bus.specs.World.{Core, Screen}
use Rattle.bus.specs.Time.{Silent, store, paged, unpass, Stall, lasts, Op, step, tick, colour, silent, passed_left, closes, look_at, shows_a, caught_up, rewound, went_on, wrapped, in_core, in_screen, in_edge}
use Rattle.bus.specs.Turns.{clocks_of, blocks_of, closed_by, Turn, turned}

-- The longest step of a call, a wait of 65,535 clocks and the delay before it, is shorter than either machine's frame.
pub frame_long : (m : ZXMachine) → 65541 < (specs_of m).frame
frame_long Sinclair48K = lit< tt
frame_long Sinclair128K = lit< tt

module _ (m : ZXMachine) (n : ℕ) (c : Core) where
  -- "if the clock is at or past the frame", both ways round
  pub closes_at : closes m n c ≡ true → (specs_of m).frame ≤ c.clock + n
  closes_at e = leb-true (specs_of m).frame (c.clock + n) e

  pub goes_on_at : closes m n c ≡ false → c.clock + n < (specs_of m).frame
  goes_on_at e = leb-false (specs_of m).frame (c.clock + n) e

  pub closes_if : (specs_of m).frame ≤ c.clock + n → closes m n c ≡ true
  closes_if h = le-leb (specs_of m).frame (c.clock + n) h

  pub goes_on_if : c.clock + n < (specs_of m).frame → closes m n c ≡ false
  goes_on_if h = lt-leb (specs_of m).frame (c.clock + n) h

  pub core_closed : closes m n c ≡ true → in_core m (tick n) c ≡ wrapped m n c
  unfolding in_core
  core_closed e = rw e

  pub core_goes : closes m n c ≡ false → in_core m (tick n) c ≡ went_on n c
  unfolding in_core
  core_goes e = rw e

  pub screen_closed : (s : Screen) → closes m n c ≡ true
      → in_screen m (tick n) c s ≡ rewound (caught_up (look_at m (c.clock + n) c) (shows_a c.phase) s)
  unfolding in_screen
  screen_closed s e = rw e

  pub screen_goes : (s : Screen) → closes m n c ≡ false
      → in_screen m (tick n) c s ≡ caught_up (look_at m (c.clock + n) c) (shows_a c.phase) s
  unfolding in_screen
  screen_goes s e = rw e

  pub edge_closed : (x : Edge) → closes m n c ≡ true → in_edge m (tick n) c x ≡ finished x
  unfolding in_edge
  edge_closed x e = rw e

  pub edge_goes : (x : Edge) → closes m n c ≡ false → in_edge m (tick n) c x ≡ x
  unfolding in_edge
  edge_goes x e = rw e

-- Nothing but how long a step is has a say in what it leaves and reports: what of it is delay only the totals of delays tell.
pub whole_step : (h : Stall) (n : ℕ) (t : Turn) → turned (step h n) t ≡ turned (tick (lasts h n)) t
unfolding turned in_core in_screen in_edge clocks_of blocks_of closed_by
whole_step h n t = refl

-- Where an operation leaves the clock: on by its clocks, with no more passed frames, or past the frame's end and one frame back.
module _ (m : ZXMachine) where
  abbrev pub OnOrOver : Op → Core → Core → Type 0
  OnOrOver o c c' =
      ((c'.clock ≡ c.clock + clocks_of o) × (c'.passed ≤ c.passed))
      ⊎ (((specs_of m).frame ≤ c.clock + clocks_of o) × (c'.clock + (specs_of m).frame ≡ c.clock + clocks_of o))

  step_moves : (n : ℕ) (c : Core) (b : Bool) → closes m n c ≡ b → OnOrOver (tick n) c (in_core m (tick n) c)
  unfolding clocks_of
  step_moves n c true e =
      let h = closes_at m n c e in
      inr (h, rw (core_closed m n c e) (omega arith))
  step_moves n c false e = inl (rw (core_goes m n c e) (refl, omega arith))

  fewer_passed : (o : Silent) (passed : ℕ) → passed_left o passed ≤ passed
  fewer_passed (store at bytes) passed = omega arith
  fewer_passed (paged v) passed = omega arith
  fewer_passed unpass passed = omega arith

  pub op_moves : (o : Op) (c : Core) → OnOrOver o c (in_core m o c)
  unfolding clocks_of in_core
  op_moves (step h n) c = step_moves (lasts h n) c (closes m (lasts h n) c) refl
  op_moves (colour k) c = inl (omega arith, omega arith)
  op_moves (silent o) c = inl (omega arith, fewer_passed o c.passed)
