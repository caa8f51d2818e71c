-- What demand 3 says is kept by each operation, and so by any list of operations.
-- Assumes nothing.
use Prim.Native.Nat.{ℕ, ◌+◌}
use mathlib.Core.Bool.{Bool, true, false}
use mathlib.Core.List.{List, [], ◌∷◌}
use mathlib.Core.Path.{◌≡◌, refl, sym, ap, ◌∙◌}
use native.Mathlib.Omega.{arith}
use native.Mathlib.Nat.{add_assoc, add-zero}
use Rattle.machine.specs.declared.ZXMachine.{ZXMachine}
use Rattle.machine.specs.Numbers.{specs_of}
use Rattle.machine.proofs.Numbered.{regular}
use Rattle.machine.proofs.Rising.{blocks_mono, blocks_at_end}
use Rattle.border.specs.Edge.{finished}
use Rattle.bus.specs.World.{Core, World}
use Rattle.bus.specs.Time.{lasts, Op, step, tick, colour, silent, closes, in_core, in_screen, in_edge, does, world_after}
use Rattle.bus.specs.Turns.{clocks_of, blocks_of, closed_by}
use Rattle.bus.proofs.OneStep.{closes_at, edge_closed}
use Rattle.bus.proofs.Runs.{clocks_in, blocks_in}
use Rattle.history.specs.Log.{Log, Frame, Shot, sight_at, noted, follow, with_sight, shot_of, filmed, film, Shows, AllShow, Chained, last_at, block_in, Rising}
use Rattle.history.proofs.Time.{Small, Clocked, clocked, count, log_closed, log_goes}
use Rattle.history.proofs.Seen.{come_is}
use Rattle.history.proofs.Drawn.{drawn_block, painted_once}
use Rattle.history.proofs.Pictures.{Painted, painted_kept}
use Rattle.history.proofs.Borders.{Bordered, bordered}

-- how many operations close a frame
unfoldable pub closings : ZXMachine → List Op → Core → ℕ
closings m [] c = 0
closings m (o ∷ os) c = count (closed_by m o c) + closings m os (in_core m o c)

-- T clocks, B blocks and F closings so far, of a history whose first colour was `first`
pub record Inv (m : ZXMachine) (first : ℕ) (T B F : ℕ) (w : World) (l : Log) (ss : List Shot) : Type 0 where
  pub time : Clocked m T F w.core l
  pub pictures : Painted m B w.core w.screen l
  pub border : Bordered m w.core w.edge l
  pub frames : AllShow ss l.done
  pub colours : Chained first l.current l.done

-- the chain reads a frame's first colour only
chained_same : (first : ℕ) (f g : Frame) → f.enter ≡ g.enter → (fs : List Frame) → Chained first f fs → Chained first g fs
chained_same first f g e [] h = sym e ∙ h
chained_same first f g e (x ∷ xs) h = (sym e ∙ h.0, h.1)

colours_tick : (m : ZXMachine) (first n : ℕ) (c : Core) (l : Log) → (b : Bool) → closes m n c ≡ b → Chained first l.current l.done
    → Chained first (noted m (tick n) c l).current (noted m (tick n) c l).done
colours_tick m first n c l true z h =
    rw (log_closed m n c l z)
    (refl, chained_same first l.current (with_sight (sight_at m (c.clock + n) c) l.current) refl l.done h)
colours_tick m first n c l false z h =
    rw (log_goes m n c l z) (chained_same first l.current (with_sight (sight_at m (c.clock + n) c) l.current) refl l.done h)

colours_kept : (m : ZXMachine) (first : ℕ) (o : Op) (c : Core) (l : Log) → Chained first l.current l.done
    → Chained first (noted m o c l).current (noted m o c l).done
unfolding noted
colours_kept m first (step k n) c l h = colours_tick m first (lasts k n) c l (closes m (lasts k n) c) refl h
colours_kept m first (colour k) c l h = chained_same first l.current (noted m (colour k) c l).current refl l.done h
colours_kept m first (silent o) c l h = h

module _ (m : ZXMachine) (first : ℕ) where
  -- the frame that a step closes is shown
  closing : (n T B F : ℕ) (w : World) (l : Log) (ss : List Shot) → closes m n w.core ≡ true → Inv m first T B F w l ss
      → Shows (shot_of (does m (tick n) w)) (with_sight (sight_at m (w.core.clock + n) w.core) l.current)
  unfolding finished
  closing n T B F w l ss z i =
      let g = regular m in
      let p = i.pictures in
      let p' = rw (log_closed m n w.core l z) at (painted_kept m (tick n) B w l p) in
      let b' = rw (log_closed m n w.core l z) at (bordered m (tick n) w.core w.edge l i.border) in
      let far = blocks_mono (specs_of m) g.wide w.core.clock (w.core.clock + n) (omega arith) in
      let unblocked : (in_edge m (tick n) w.core w.edge).blocked ≡ false = rw (edge_closed m n w.core w.edge z) in
      let none : (in_edge m (tick n) w.core w.edge).pairs ≡ 0 = rw (edge_closed m n w.core w.edge z) in
      let k = closes_at m n w.core z in
      let at = come_is m (w.core.clock + n) in
      let seen = sight_at m (w.core.clock + n) w.core ∷ l.current.sights in
      let whole : last_at seen ≡ 6144 = at ∙ blocks_at_end (specs_of m) g (w.core.clock + n) (omega arith) in
      let rising : Rising seen = (omega (arith, p.so_far, p.at_last, far), p.rising) in
      record {
        blocks = λ k h. ap (λ (x : List ℕ). block_in x k) p'.shown_is ∙ drawn_block seen rising k (omega arith);
        once = λ k h. painted_once seen rising k (omega arith);
        rising = rising;
        whole = whole;
        picture = p'.shown_is;
        border = λ j h. b'.rest j (rw unblocked (omega (arith, none))) h;
      }

  frames_tick : (n T B F : ℕ) (w : World) (l : Log) (ss : List Shot) → (b : Bool) → closes m n w.core ≡ b → Inv m first T B F w l ss
      → AllShow (filmed m (tick n) w ss) (noted m (tick n) w.core l).done
  unfolding filmed
  frames_tick n T B F w l ss true z i = rw (log_closed m n w.core l z, z) (closing n T B F w l ss z i, i.frames)
  frames_tick n T B F w l ss false z i = rw (log_goes m n w.core l z, z) i.frames

  frames_kept : (o : Op) (T B F : ℕ) (w : World) (l : Log) (ss : List Shot) → Inv m first T B F w l ss
      → AllShow (filmed m o w ss) (noted m o w.core l).done
  unfolding filmed noted in_core in_screen in_edge
  frames_kept (step k n) T B F w l ss i = frames_tick (lasts k n) T B F w l ss (closes m (lasts k n) w.core) refl i
  frames_kept (colour k) T B F w l ss i = i.frames
  frames_kept (silent o) T B F w l ss i = i.frames

  -- one operation
  pub op_kept : (o : Op) (T B F : ℕ) (w : World) (l : Log) (ss : List Shot) → Small o → Inv m first T B F w l ss
      → Inv m first (T + clocks_of o) (B + blocks_of m o w) (F + count (closed_by m o w.core)) (does m o w) (noted m o w.core l) (filmed m o w ss)
  op_kept o T B F w l ss small i =
      record {
        time = clocked m o T F w.core l small i.time;
        pictures = painted_kept m o B w l i.pictures;
        border = bordered m o w.core w.edge l i.border;
        frames = frames_kept o T B F w l ss i;
        colours = colours_kept m first o w.core l i.colours;
      }

abbrev pub AllSmall : List Op → Type 0
AllSmall [] = Unit {0}
AllSmall (o ∷ os) = Small o × AllSmall os

module _ (m : ZXMachine) (first : ℕ) where
  -- operations one after the other
  pub ops_kept : (os : List Op) (T B F : ℕ) (w : World) (l : Log) (ss : List Shot) → AllSmall os → Inv m first T B F w l ss
      → Inv m first (T + clocks_in os) (B + blocks_in m os w) (F + closings m os w.core) (world_after m os w) (follow m os w.core l) (film m os w ss)
  unfolding clocks_in blocks_in closings world_after follow film
  ops_kept [] T B F w l ss small i = rw (add-zero T, add-zero B, add-zero F) i
  ops_kept (o ∷ os) T B F w l ss small i =
      rw (← add_assoc T (clocks_of o) (clocks_in os), ← add_assoc B (blocks_of m o w) (blocks_in m os (does m o w)), ← add_assoc F (count (closed_by m o w.core)) (closings m os (in_core m o w.core)))
      (ops_kept os (T + clocks_of o) (B + blocks_of m o w) (F + count (closed_by m o w.core)) (does m o w) (noted m o w.core l) (filmed m o w ss) small.1
      (op_kept m first o T B F w l ss small.0 i))
