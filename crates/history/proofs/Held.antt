-- THE PLAIN READING of "with the bytes, shown page and flash held when its catch-up reached it", at any point of a history: the step that reaches a
-- block paints it from what is held then. What was stored before that step shows; what is stored behind it does not show in this frame.
-- Assumes nothing.
use Prim.Native.Nat.{ℕ, ◌+◌, ◌≤◌, ◌<◌}
use mathlib.Core.Bool.{Bool, true, false, false≢true}
use mathlib.Core.List.{List, [], ◌∷◌}
use mathlib.Core.Path.{◌≡◌, refl, sym, ◌∙◌, ap}
use native.Mathlib.Omega.{arith}
use lib.ListN.{length}
use borrow.Author.Tests.{lt-ltb, le-leb, lt-leb}
use Rattle.machine.specs.declared.ZXMachine.{ZXMachine}
use Rattle.machine.specs.Numbers.{specs_of}
use Rattle.machine.proofs.Numbered.{regular}
use Rattle.machine.proofs.Bounds.{position_small}
use Rattle.machine.proofs.Rising.{blocks_mono}
use Rattle.bus.specs.World.{Core, World}
use Rattle.bus.specs.Time.{lasts, Op, step, tick, colour, silent, closes, in_core, shown_picture, does, world_after}
use Rattle.bus.specs.Turns.{closed_by}
use Rattle.history.specs.Log.{Log, Frame, Shot, Sight, sight_at, blocks_come, noted, follow, filmed, film, last_at, reaching, no_sight, block_by, block_in, newest, AllShow}
use Rattle.history.proofs.Time.{count, log_closed, log_goes}
use Rattle.history.proofs.Seen.{come_is}
use Rattle.history.proofs.Operations.{closings, Inv, AllSmall, op_kept, ops_kept}
use Rattle.history.proofs.Ends.{done_stays}

-- the catch-up that reached block k of the newest completed frame
abbrev reached_in : ℕ → List Frame → Sight
reached_in k [] = no_sight
reached_in k (f ∷ fs) = reaching k f.sights

-- the newest of a frame's catch-ups reached the blocks from the last position on, and left those before it to the others
reached_new : (k : ℕ) (s : Sight) (ss : List Sight) → last_at ss ≤ k → k < s.at → reaching k (s ∷ ss) ≡ s
unfolding reaching
reached_new k s ss h g = rw (le-leb (last_at ss) k h, lt-ltb k s.at g)

reached_old : (k : ℕ) (s : Sight) (ss : List Sight) → k < last_at ss → reaching k (s ∷ ss) ≡ reaching k ss
unfolding reaching
reached_old k s ss h = rw (lt-leb (last_at ss) k h)

-- a catch-up's position is at or past the last one's
next_later : (m : ZXMachine) (first T B F : ℕ) (w : World) (l : Log) (ss : List Shot) → Inv m first T B F w l ss → (n : ℕ)
    → last_at l.current.sights ≤ blocks_come m (w.core.clock + n)
next_later m first T B F w l ss i n =
    let p = i.pictures in
    omega (arith, p.at_last, p.so_far, come_is m (w.core.clock + n), blocks_mono (specs_of m) (regular m).wide w.core.clock (w.core.clock + n) (omega arith))

module _ (m : ZXMachine) (first : ℕ) where
  -- A step that closes a frame completes it with its own catch-up, one that does not adds that to the frame under way,
  step_leaves : (n k : ℕ) (c : Core) (l : Log) → closes m n c ≡ false → last_at l.current.sights ≤ blocks_come m (c.clock + n)
      → k < last_at l.current.sights
      → (k < last_at (noted m (tick n) c l).current.sights) × (reaching k (noted m (tick n) c l).current.sights ≡ reaching k l.current.sights)
  step_leaves n k c l e rises h =
      rw (log_goes m n c l e) (omega arith, reached_old k (sight_at m (c.clock + n) c) l.current.sights h)

  step_completes : (n k : ℕ) (c : Core) (l : Log) → closes m n c ≡ true → k < last_at l.current.sights
      → reached_in k (noted m (tick n) c l).done ≡ reaching k l.current.sights
  step_completes n k c l e h = rw (log_closed m n c l e) (reached_old k (sight_at m (c.clock + n) c) l.current.sights h)

  -- so that a block which is reached stays with the catch-up that reached it, over any operation
  op_leaves : (o : Op) (k T B F : ℕ) (w : World) (l : Log) (ss : List Shot) → Inv m first T B F w l ss → closed_by m o w.core ≡ false
      → k < last_at l.current.sights
      → (k < last_at (noted m o w.core l).current.sights) × (reaching k (noted m o w.core l).current.sights ≡ reaching k l.current.sights)
  unfolding closed_by noted
  op_leaves (step j n) k T B F w l ss i e h = step_leaves (lasts j n) k w.core l e (next_later m first T B F w l ss i (lasts j n)) h
  op_leaves (colour v) k T B F w l ss i e h = (h, refl)
  op_leaves (silent o) k T B F w l ss i e h = (h, refl)

  op_completes : (o : Op) (k : ℕ) (c : Core) (l : Log) → closed_by m o c ≡ true → k < last_at l.current.sights
      → reached_in k (noted m o c l).done ≡ reaching k l.current.sights
  unfolding closed_by noted
  op_completes (step j n) k c l e h = step_completes (lasts j n) k c l e h
  op_completes (colour v) k c l e h = absurd (false≢true e)
  op_completes (silent o) k c l e h = absurd (false≢true e)

  -- and over any operations that complete the frame
  run_by : (o : Op) (os : List Op) (k : ℕ) (w : World) (l : Log) (ss : List Shot) (b : Bool) → closed_by m o w.core ≡ b
      → k < last_at l.current.sights → count b + closings m os (in_core m o w.core) ≡ 1
      → (closed_by m o w.core ≡ false → closings m os (in_core m o w.core) ≡ 1
      → reached_in k (follow m os (in_core m o w.core) (noted m o w.core l)).done ≡ reaching k l.current.sights)
      → reached_in k (follow m os (in_core m o w.core) (noted m o w.core l)).done ≡ reaching k l.current.sights
  run_by o os k w l ss true e h z f =
      ap (reached_in k) (done_stays m os (does m o w) (noted m o w.core l) ss (omega arith)).0 ∙ op_completes o k w.core l e h
  run_by o os k w l ss false e h z f = f e (omega arith)

  run_leaves : (os : List Op) (k T B F : ℕ) (w : World) (l : Log) (ss : List Shot) → AllSmall os → Inv m first T B F w l ss
      → k < last_at l.current.sights → closings m os w.core ≡ 1 → reached_in k (follow m os w.core l).done ≡ reaching k l.current.sights
  unfolding closings follow
  run_leaves [] k T B F w l ss small i h z = absurd (omega arith)
  run_leaves (o ∷ os) k T B F w l ss small i h z =
      run_by o os k w l ss (closed_by m o w.core) refl h z
      (λ e z'. let s = op_leaves o k T B F w l ss i e h in
      run_leaves os k _ _ _ (does m o w) (noted m o w.core l) (filmed m o w ss) small.1 (op_kept m first o T B F w l ss small.0 i) s.0 z' ∙ s.1)

  -- the step that reaches block k is its catch-up, whatever the operations behind it do
  reached_by : (n k : ℕ) (os : List Op) (T B F : ℕ) (w : World) (l : Log) (ss : List Shot) (b : Bool) → closes m n w.core ≡ b → AllSmall (tick n ∷ os)
      → Inv m first T B F w l ss → last_at l.current.sights ≤ k → k < blocks_come m (w.core.clock + n)
      → count b + closings m os (in_core m (tick n) w.core) ≡ 1
      → reached_in k (follow m os (in_core m (tick n) w.core) (noted m (tick n) w.core l)).done ≡ sight_at m (w.core.clock + n) w.core
  reached_by n k os T B F w l ss true e small i h g z =
      ap (reached_in k) (done_stays m os (does m (tick n) w) (noted m (tick n) w.core l) ss (omega arith)).0
      ∙ ap (λ (x : Log). reached_in k x.done) (log_closed m n w.core l e)
      ∙ reached_new k (sight_at m (w.core.clock + n) w.core) l.current.sights h g
  reached_by n k os T B F w l ss false e small i h g z =
      let on = log_goes m n w.core l e in
      let past : k < last_at (noted m (tick n) w.core l).current.sights = rw on g in
      run_leaves os k _ _ _ (does m (tick n) w) (noted m (tick n) w.core l) (filmed m (tick n) w ss) small.1
      (op_kept m first (tick n) T B F w l ss small.0 i) past (omega arith)
      ∙ ap (λ (x : Log). reaching k x.current.sights) on
      ∙ reached_new k (sight_at m (w.core.clock + n) w.core) l.current.sights h g

newest_block : (ss : List Shot) (fs : List Frame) → AllShow ss fs → 0 < length fs → (picture : List ℕ) → picture ≡ newest fs → (k : ℕ) → k < 6144
    → block_in picture k ≡ block_by (reached_in k fs) k
newest_block ss [] h some picture e k p = absurd (omega arith)
newest_block [] (f ∷ fs) h some picture e k p = absurd h
newest_block (s ∷ ss) (f ∷ fs) h some picture e k p = ap (λ (x : List ℕ). block_in x k) (e ∙ sym h.0.picture) ∙ h.0.blocks k p

-- WHAT IS HELD WHEN A STEP REACHES A BLOCK IS WHAT THE FRAME SHOWS OF IT. A step of n clocks, at any point of a history, that reaches block k; then
-- any operations `os` that complete this frame and no other: stores, page loads, paging and all. Nothing of `os` stands on the right-hand side.
pub held_shows : (m : ZXMachine) (first T B F : ℕ) (w : World) (l : Log) (ss : List Shot) → Inv m first T B F w l ss
    → (n k : ℕ) (os : List Op) → AllSmall (tick n ∷ os) → w.screen.painted ≤ k → k < blocks_come m (w.core.clock + n)
    → closings m (tick n ∷ os) w.core ≡ 1
    → block_in (shown_picture (world_after m (tick n ∷ os) w).core (world_after m (tick n ∷ os) w).screen) k
    ≡ block_by (sight_at m (w.core.clock + n) w.core) k
unfolding closings closed_by follow
held_shows m first T B F w l ss i n k os small h g z =
    let j = ops_kept m first (tick n ∷ os) T B F w l ss small i in
    let few : k < 6144 = omega (arith, come_is m (w.core.clock + n), position_small (specs_of m) (w.core.clock + n)) in
    newest_block (film m (tick n ∷ os) w ss) (follow m (tick n ∷ os) w.core l).done j.frames (omega (arith, j.time.frames)) _ j.pictures.shown_is k few
    ∙ ap (λ (s : Sight). block_by s k)
    (reached_by m first n k os T B F w l ss (closes m n w.core) refl small i (omega (arith, i.pictures.at_last)) g z)
