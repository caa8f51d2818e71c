-- What a timed call reports, against the world that it finds and the one that it leaves: clocks, blocks painted, and whether a frame was closed.
-- Assumes nothing.
use mathlib.Core.Path.{◌≡◌, refl, sym, subst}
use mathlib.Core.Bool.{Bool, true, false, cond, ◌||◌}
use mathlib.Core.List.{List, [], ◌∷◌}
use Prim.Native.Nat.{ℕ, ◌+◌, ◌-◌, ◌*◌, ◌<◌, ◌≤◌}
use native.Mathlib.Nat.{zero-add}
use native.Mathlib.Omega.{arith}
use borrow.Author.Tests.{le-leb, lt-leb}
use lib.Dec.{leb}
use Rattle.machine.specs.declared.ZXMachine.{ZXMachine}
use Rattle.machine.specs.Numbers.{specs_of}
use Rattle.machine.specs.Timing.{block_position}
use Rattle.machine.proofs.Numbered.{regular}
use Rattle.machine.proofs.Bounds.{position_small}
use Rattle.machine.proofs.Rising.{blocks_mono, blocks_at_end}
use Rattle.bus.specs.World.{World}
use Rattle.bus.specs.Time.{store, paged, unpass, lasts, Op, step, tick, colour, silent, closes, caught_up, in_core, in_screen, in_edge, does, world_after}
use Rattle.bus.specs.Turns.{clocks_of, blocks_of, closed_by, Turn, fresh, Part, ran_by}
use Rattle.bus.proofs.OneStep.{frame_long, closes_at, goes_on_at, core_closed, core_goes, screen_closed, screen_goes}
use Rattle.bus.proofs.Runs.{clocks_in, blocks_in, closed_in, ran_is, fresh_clocks}
use Rattle.bus.proofs.TimedCalls.{InCall, AllInCall, TimedPart}
use Rattle.bus.proofs.Kept.{SoundWorld}

-- From one world to a later one, with what was reported between them, at most one frame closed:
pub record Moved (m : ZXMachine) (w : World) (clocks blocks : ℕ) (closed : Bool) (w' : World) : Type 0 where
  -- the clock is then within the frame,
  pub inside : w'.core.clock < (specs_of m).frame
  -- the clocks are those of the frame that was closed, if one was, and the clock's own move;
  pub clock : w.core.clock + clocks ≡ cond closed (specs_of m).frame 0 + w'.core.clock
  -- passed frames rise by one if a frame was closed, and else not at all;
  pub passed : w'.core.passed ≡ w.core.passed + cond closed 1 0
  -- the blocks are those that the closed frame lacked, if one was, and those of the current frame;
  pub painted : w.screen.painted + blocks ≡ cond closed 6144 0 + w'.screen.painted
  -- and no block of the current frame is painted before its time.
  pub in_place : w'.screen.painted ≤ block_position (specs_of m) w'.core.clock

module _ (m : ZXMachine) where
  step_moved : (n : ℕ) (w : World) (b : Bool) → closes m n w.core ≡ b → w.core.clock + n < 2 * (specs_of m).frame
      → w.screen.painted ≤ block_position (specs_of m) w.core.clock
      → Moved m w n (blocks_of m (tick n) w) b (does m (tick n) w)
  unfolding blocks_of caught_up
  step_moved n w true e short p =
      let h = closes_at m n w.core e in
      let t = blocks_at_end (specs_of m) (regular m) (w.core.clock + n) (omega arith) in
      let q = position_small (specs_of m) w.core.clock in
      rw (core_closed m n w.core e, screen_closed m n w.core w.screen e)
      (record { inside = omega arith; clock = omega arith; passed = omega arith; painted = omega arith; in_place = omega arith })
  step_moved n w false e short p =
      let h = goes_on_at m n w.core e in
      let t = blocks_mono (specs_of m) (regular m).wide w.core.clock (w.core.clock + n) (omega arith) in
      rw (core_goes m n w.core e, screen_goes m n w.core w.screen e)
      (record { inside = h; clock = omega arith; passed = omega arith; painted = omega arith; in_place = omega arith })

  -- an operation of a timed call
  op_moved : (o : Op) (w : World) → InCall m o → w.core.clock < (specs_of m).frame → w.core.clock + clocks_of o < 2 * (specs_of m).frame
      → w.screen.painted ≤ block_position (specs_of m) w.core.clock
      → Moved m w (clocks_of o) (blocks_of m o w) (closed_by m o w.core) (does m o w)
  unfolding clocks_of blocks_of closed_by in_core in_screen in_edge
  op_moved (step h n) w i k short p = step_moved (lasts h n) w (closes m (lasts h n) w.core) refl short p
  op_moved (colour c) w i k short p = record { inside = k; clock = omega arith; passed = omega arith; painted = omega arith; in_place = p }
  op_moved (silent (paged v)) w i k short p = record { inside = k; clock = omega arith; passed = omega arith; painted = omega arith; in_place = p }
  op_moved (silent (store at bytes)) w i k short p = absurd i
  op_moved (silent unpass) w i k short p = absurd i

  -- one move and then another: both cannot close a frame, for then two frames' clocks would have been spent
  after : (w w₁ w₂ : World) (c₁ c₂ b₁ b₂ : ℕ) (k₁ k₂ : Bool) → w.core.clock + (c₁ + c₂) < 2 * (specs_of m).frame
      → Moved m w c₁ b₁ k₁ w₁ → Moved m w₁ c₂ b₂ k₂ w₂ → Moved m w (c₁ + c₂) (b₁ + b₂) (k₁ || k₂) w₂
  after w w₁ w₂ c₁ c₂ b₁ b₂ true true short x y = absurd (omega (arith, x.clock, y.clock))
  after w w₁ w₂ c₁ c₂ b₁ b₂ true false short x y =
      record { inside = y.inside; clock = omega arith; passed = omega arith; painted = omega arith; in_place = y.in_place }
  after w w₁ w₂ c₁ c₂ b₁ b₂ false true short x y =
      record { inside = y.inside; clock = omega arith; passed = omega arith; painted = omega arith; in_place = y.in_place }
  after w w₁ w₂ c₁ c₂ b₁ b₂ false false short x y =
      record { inside = y.inside; clock = omega arith; passed = omega arith; painted = omega arith; in_place = y.in_place }

  run_moved : (os : List Op) (w : World) → AllInCall m os → w.core.clock < (specs_of m).frame → w.core.clock + clocks_in os < 2 * (specs_of m).frame
      → w.screen.painted ≤ block_position (specs_of m) w.core.clock
      → Moved m w (clocks_in os) (blocks_in m os w) (closed_in m os w.core) (world_after m os w)
  unfolding clocks_in blocks_in closed_in world_after
  run_moved [] w i k short p = record { inside = k; clock = omega arith; passed = omega arith; painted = omega arith; in_place = p }
  run_moved (o ∷ os) w i k short p =
      let x = op_moved o w i.0 k (omega arith) p in
      let y = run_moved os (does m o w) i.1 x.inside (omega (arith, x.clock)) x.in_place in
      after w (does m o w) (world_after m os (does m o w)) (clocks_of o) (clocks_in os) (blocks_of m o w) (blocks_in m os (does m o w))
      (closed_by m o w.core) (closed_in m os (in_core m o w.core)) short x y

  -- WHAT A CALL REPORTS: each of the four timed calls (TimedCalls), on a sound world, moves the world by what it reports.
  pub call_moved : (f : Part) → TimedPart m f → (w : World) → SoundWorld m w
      → Moved m w (ran_by f (fresh m w)).clocks (ran_by f (fresh m w)).blocks (ran_by f (fresh m w)).closed (ran_by f (fresh m w)).world
  call_moved f t w s =
      let os = f w.core in
      let b = t.brief w.core in
      let l = frame_long m in
      let k = s.clock in
      let x = run_moved os w (t.in_call w.core) k (omega arith) s.painted in
      subst (λ (r : Turn). Moved m w r.clocks r.blocks r.closed r.world) (sym (ran_is os (fresh m w)))
      (rw (zero-add (clocks_in os), zero-add (blocks_in m os w)) x)

-- ---- the same, said the other way round

closes_exactly : (m : ZXMachine) (w w' : World) (n blocks : ℕ) (k : Bool) → Moved m w n blocks k w' → k ≡ leb (specs_of m).frame (w.core.clock + n)
closes_exactly m w w' n blocks true x = sym (le-leb (specs_of m).frame (w.core.clock + n) (omega (arith, x.clock)))
closes_exactly m w w' n blocks false x = sym (lt-leb (specs_of m).frame (w.core.clock + n) (omega (arith, x.clock, x.inside)))

blocks_exactly : (m : ZXMachine) (w w' : World) (n blocks : ℕ) (k : Bool) → w.screen.painted ≤ 6144 → Moved m w n blocks k w'
    → blocks ≡ cond k (6144 - w.screen.painted + w'.screen.painted) (w'.screen.painted - w.screen.painted)
blocks_exactly m w w' n blocks true h x = omega (arith, x.painted)
blocks_exactly m w w' n blocks false h x = omega (arith, x.painted)

few : (k : Bool) (before blocks now : ℕ) → before + blocks ≡ cond k 6144 0 + now → now ≤ 6144 → blocks ≤ 12288
few true before blocks now e h = omega arith
few false before blocks now e h = omega arith

module _ (m : ZXMachine) (f : Part) (t : TimedPart m f) (w : World) (s : SoundWorld m w) where
  -- A call closes a frame exactly if its clocks lead to the frame's end or past it,
  pub call_closes : (ran_by f (fresh m w)).closed ≡ leb (specs_of m).frame (w.core.clock + (ran_by f (fresh m w)).clocks)
  call_closes = closes_exactly m w _ _ _ _ (call_moved m f t w s)

  -- closes at most one: the clock is within the frame again, and passed frames rise by exactly one if it closed a frame and by none if not,
  pub call_inside : (ran_by f (fresh m w)).world.core.clock < (specs_of m).frame
  call_inside = (call_moved m f t w s).inside

  pub call_passed : (ran_by f (fresh m w)).world.core.passed ≡ w.core.passed + cond (ran_by f (fresh m w)).closed 1 0
  call_passed = (call_moved m f t w s).passed

  -- and the blocks that it reports are those between the painted counts before and after it, by way of 6,144 if it closed a frame.
  pub call_blocks : (ran_by f (fresh m w)).blocks
      ≡ cond (ran_by f (fresh m w)).closed
      (6144 - w.screen.painted + (ran_by f (fresh m w)).world.screen.painted)
      ((ran_by f (fresh m w)).world.screen.painted - w.screen.painted)
  call_blocks =
      let p = position_small (specs_of m) w.core.clock in
      let q = s.painted in
      blocks_exactly m w _ _ _ _ (omega arith) (call_moved m f t w s)

  -- What it reports fits its answer: 32 bits for the clocks, 16 for the blocks.
  pub call_fits : ((ran_by f (fresh m w)).clocks ≤ 65541) × ((ran_by f (fresh m w)).blocks ≤ 12288)
  call_fits =
      let x = call_moved m f t w s in
      let q = position_small (specs_of m) (ran_by f (fresh m w)).world.core.clock in (
        rw (fresh_clocks (f w.core) m w) (t.brief w.core),
        few (ran_by f (fresh m w)).closed w.screen.painted (ran_by f (fresh m w)).blocks (ran_by f (fresh m w)).world.screen.painted x.painted (omega (arith, x.in_place)),
      )
