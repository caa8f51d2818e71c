-- BYTES AT A FRAME'S END. After a call that closes a frame memory shows that frame whole, picture and border: a wait writes no colour, and the
-- border write of a port call that comes behind the closing comes so early that no pixel of the new frame's border has.
-- And the log taken apart: what no closing adds to it, and how it goes on.
-- Assumes nothing.
use Prim.Native.Nat.{ℕ, ◌+◌, ◌*◌, ◌≤◌, ◌<◌}
use mathlib.Core.Bool.{Bool, true, false, false≢true}
use mathlib.Core.List.{List, [], ◌∷◌, ◌++◌}
use mathlib.Core.Path.{◌≡◌, refl, sym, ◌∙◌, ap, subst}
use native.Mathlib.Omega.{arith}
use lib.ListN.{length, get_or}
use Rattle.laws.proofs.Cases.{by_bool}
use Rattle.machine.specs.declared.ZXMachine.{ZXMachine}
use Rattle.machine.specs.Numbers.{specs_of}
use Rattle.machine.proofs.Bounds.{delay_small}
use Rattle.machine.proofs.Rising.{border_before}
use Rattle.ports.specs.declared.Devices.{Devices}
use Rattle.border.specs.Edge.{Edge, inked, inked_at, finished}
use Rattle.bus.specs.World.{Core, World}
use Rattle.bus.specs.Time.{lasts, Op, step, tick, colour, silent, closes, in_core, in_edge, does, world_after}
use Rattle.bus.specs.Turns.{clocks_of, closed_by, core_after, Part, and_then}
use Rattle.bus.specs.Calls.{contended, plain_wait, delayed, address_wait, port_read, port_write}
use Rattle.bus.proofs.OneStep.{edge_closed, edge_goes}
use Rattle.bus.proofs.Runs.{clocks_in, world_core}
use Rattle.bus.proofs.PortClocks.{read_small, write_small}
use Rattle.bus.proofs.PortSteps.{early}
use Rattle.history.specs.Log.{Log, Frame, Shot, shot_of, noted, follow, filmed, film, blank, block_in, newest, border_of, AllShow, NewestShows, Ended}
use Rattle.history.specs.Demand.{painted_to}
use Rattle.history.proofs.Time.{count, clocked}
use Rattle.history.proofs.Operations.{closings, Inv, AllSmall, ops_kept}
use Rattle.history.proofs.Counts.{op_small, op_sum}

-- ---- the log taken apart

pub none_closed : (b : Bool) (n : ℕ) → count b + n ≡ 0 → (b ≡ false) × (n ≡ 0)
none_closed true n e = absurd (omega arith)
none_closed false n e = (refl, omega arith)

module _ (m : ZXMachine) where
  -- The log of some operations and then others goes on from the log of the first, and so do the shots.
  pub follow_append : (os ps : List Op) (c : Core) (l : Log) → follow m (os ++ ps) c l ≡ follow m ps (core_after m os c) (follow m os c l)
  unfolding follow core_after
  follow_append [] ps c l = refl
  follow_append (o ∷ os) ps c l = follow_append os ps (in_core m o c) (noted m o c l)

  pub film_append : (os ps : List Op) (w : World) (ss : List Shot) → film m (os ++ ps) w ss ≡ film m ps (world_after m os w) (film m os w ss)
  unfolding film world_after
  film_append [] ps w ss = refl
  film_append (o ∷ os) ps w ss = film_append os ps (does m o w) (filmed m o w ss)

  pub world_append : (os ps : List Op) (w : World) → world_after m (os ++ ps) w ≡ world_after m ps (world_after m os w)
  unfolding world_after
  world_append [] ps w = refl
  world_append (o ∷ os) ps w = world_append os ps (does m o w)

  pub closings_append : (os ps : List Op) (c : Core) → closings m (os ++ ps) c ≡ closings m os c + closings m ps (core_after m os c)
  unfolding closings core_after
  closings_append [] ps c = omega arith
  closings_append (o ∷ os) ps c = omega (arith, closings_append os ps (in_core m o c))

  -- An operation that closes no frame completes none, and nor do many.
  op_open : (o : Op) (w : World) (l : Log) (ss : List Shot) → closed_by m o w.core ≡ false
      → ((noted m o w.core l).done ≡ l.done) × (filmed m o w ss ≡ ss)
  unfolding closed_by noted filmed
  op_open (step k n) w l ss e = rw e (refl, refl)
  op_open (colour k) w l ss e = (refl, refl)
  op_open (silent o) w l ss e = (refl, refl)

  pub done_stays : (os : List Op) (w : World) (l : Log) (ss : List Shot) → closings m os w.core ≡ 0
      → ((follow m os w.core l).done ≡ l.done) × (film m os w ss ≡ ss)
  unfolding closings follow film
  done_stays [] w l ss e = (refl, refl)
  done_stays (o ∷ os) w l ss e =
      let z = none_closed (closed_by m o w.core) (closings m os (in_core m o w.core)) e in
      let one = op_open o w l ss z.0 in
      let rest = done_stays os (does m o w) (noted m o w.core l) (filmed m o w ss) z.1 in
      (rest.0 ∙ one.0, rest.1 ∙ one.1)

-- ---- the border of the frame under way

-- none of its pixels is painted, and it is not blocked
abbrev pub Unbegun : Edge → Type 0
Unbegun e = (e.blocked ≡ false) × (e.pairs ≡ 0)

pub nothing_painted : (e : Edge) → Unbegun e → painted_to e ≡ 0
nothing_painted e u = rw (u.0, u.1)

module _ (m : ZXMachine) where
  -- so it is when a frame has just been closed,
  closed_begins : (n : ℕ) (c : Core) (e : Edge) → closes m n c ≡ true → Unbegun (in_edge m (tick n) c e)
  unfolding finished
  closed_begins n c e z = rw (edge_closed m n c e z) (refl, refl)

  pub op_closes : (o : Op) (c : Core) (e : Edge) → closed_by m o c ≡ true → Unbegun (in_edge m o c e)
  unfolding closed_by in_edge
  op_closes (step k n) c e z = closed_begins (lasts k n) c e z
  op_closes (colour k) c e z = absurd (false≢true z)
  op_closes (silent o) c e z = absurd (false≢true z)

  -- and so it stays: over any step,
  step_keeps : (n : ℕ) (c : Core) (e : Edge) (b : Bool) → closes m n c ≡ b → Unbegun e → Unbegun (in_edge m (tick n) c e)
  step_keeps n c e true z u = closed_begins n c e z
  step_keeps n c e false z u = rw (edge_goes m n c e z) u

  -- and over any operation before the first pixel pair's clock
  op_keeps : (o : Op) (c : Core) (e : Edge) → c.clock < (specs_of m).border → Unbegun e → Unbegun (in_edge m o c e)
  unfolding in_edge inked inked_at
  op_keeps (step k n) c e h u = step_keeps (lasts k n) c e (closes m (lasts k n) c) refl u
  op_keeps (colour k) c e h u = rw (border_before (specs_of m) c.clock h, u.0) (refl, refl)
  op_keeps (silent o) c e h u = u

  run_keeps : (os : List Op) (w : World) → w.core.clock + clocks_in os < (specs_of m).border → Unbegun w.edge → Unbegun (world_after m os w).edge
  unfolding clocks_in world_after
  run_keeps [] w h u = u
  run_keeps (o ∷ os) w h u =
      run_keeps os (does m o w) (omega (arith, op_sum m o w.core)) (op_keeps o w.core w.edge (omega arith) u)

  -- the clock stays within the frame
  op_inside : (o : Op) (c : Core) → clocks_of o ≤ 64 → c.clock < (specs_of m).frame → (in_core m o c).clock < (specs_of m).frame
  op_inside o c few h =
      (clocked m o c.clock 0 c (blank 0) (op_small o (omega arith)) (record { frames = refl; inside = h; sum = omega arith })).inside

  -- 64 clocks behind a frame's end no border pixel has come yet
  ends_here : (o : Op) (os : List Op) (w : World) → closed_by m o w.core ≡ true → clocks_of o + clocks_in os ≤ 64 → w.core.clock < (specs_of m).frame
      → Unbegun (world_after m os (does m o w)).edge
  ends_here o os w e few h =
      let k : (in_core m o w.core).clock + (specs_of m).frame * 1 ≡ w.core.clock + clocks_of o = (rw e at (op_sum m o w.core)) in
      run_keeps os (does m o w) (omega (arith, (early m).2)) (op_closes o w.core w.edge e)

  ends_by : (o : Op) (os : List Op) (w : World) (b : Bool) → closed_by m o w.core ≡ b → clocks_of o + clocks_in os ≤ 64 → w.core.clock < (specs_of m).frame
      → 0 < count b + closings m os (in_core m o w.core)
      → (0 < closings m os (in_core m o w.core) → Unbegun (world_after m os (does m o w)).edge) → Unbegun (world_after m os (does m o w)).edge
  ends_by o os w true e few h z f = ends_here o os w e few h
  ends_by o os w false e few h z f = f (omega arith)

  run_ends : (os : List Op) (w : World) → clocks_in os ≤ 64 → w.core.clock < (specs_of m).frame → 0 < closings m os w.core
      → Unbegun (world_after m os w).edge
  unfolding clocks_in world_after closings
  run_ends [] w few h z = absurd (omega arith)
  run_ends (o ∷ os) w few h z =
      ends_by o os w (closed_by m o w.core) refl few h z
      (run_ends os (does m o w) (omega arith) (op_inside o w.core (omega arith) h))

  -- the same with a step of any length behind it
  step_open : (n : ℕ) (c : Core) → closes m n c ≡ false → closings m (tick n ∷ []) c ≡ 0
  unfolding closings closed_by
  step_open n c e = rw e

  last_step : (os : List Op) (n : ℕ) (w : World) (b : Bool) → closes m n (world_after m os w).core ≡ b → clocks_in os ≤ 64 → w.core.clock < (specs_of m).frame
      → 0 < closings m (os ++ tick n ∷ []) w.core → Unbegun (in_edge m (tick n) (world_after m os w).core (world_after m os w).edge)
  last_step os n w true e few h z = closed_begins n (world_after m os w).core (world_after m os w).edge e
  last_step os n w false e few h z =
      let none : closings m (tick n ∷ []) (core_after m os w.core) ≡ 0 =
      ap (closings m (tick n ∷ [])) (sym (world_core m os w)) ∙ step_open n (world_after m os w).core e in
      step_keeps n (world_after m os w).core (world_after m os w).edge false e
      (run_ends os w few h (omega (arith, closings_append m os (tick n ∷ []) w.core)))

  then_step : (os : List Op) (n : ℕ) (w : World) → clocks_in os ≤ 64 → w.core.clock < (specs_of m).frame
      → 0 < closings m (os ++ tick n ∷ []) w.core → Unbegun (world_after m (os ++ tick n ∷ []) w).edge
  unfolding world_after
  then_step os n w few h z =
      subst (λ (v : World). Unbegun v.edge) (sym (world_append m os (tick n ∷ []) w))
      (last_step os n w (closes m n (world_after m os w).core) refl few h z)

  -- ---- the calls

  -- A call that closes a frame leaves the next frame's border alone,
  abbrev pub LeavesBorder : Part → Type 0
  LeavesBorder f =
      (w : World) → w.core.clock < (specs_of m).frame → 0 < closings m (f w.core) w.core → Unbegun (world_after m (f w.core) w).edge

  -- a plain wait,
  pub plain_leaves : (n : ℕ) → LeavesBorder (plain_wait n)
  unfolding clocks_in
  plain_leaves n w h z = then_step [] n w (omega arith) h z

  few_delayed : (addr : ℕ) (c : Core) → clocks_in (delayed m addr c) ≤ 64
  unfolding delayed clocks_in clocks_of
  few_delayed addr c =
      by_bool (λ (os : List Op). clocks_in os ≤ 64) (contended m addr c) (λ _. omega (arith, delay_small (specs_of m) c.clock)) (λ _. omega arith)

  -- a wait at an address,
  pub address_leaves : (addr n : ℕ) → LeavesBorder (address_wait m addr n)
  unfolding and_then
  address_leaves addr n w h z = then_step (delayed m addr w.core) n w (few_delayed addr w.core) h z

  -- and any call of few clocks: a port read, a port write, of the border too, and one that takes no time.
  pub short_leaves : (f : Part) → ((c : Core) → clocks_in (f c) ≤ 64) → LeavesBorder f
  short_leaves f few w h z = run_ends (f w.core) w (few w.core) h z

  pub read_leaves : (port : ℕ) → LeavesBorder (port_read m port)
  read_leaves port w h z = run_ends (port_read m port w.core) w (omega (arith, (read_small m port w.core).1)) h z

  pub write_leaves : (d : Devices) (port v : ℕ) → LeavesBorder (port_write m d port v)
  write_leaves d port v w h z = run_ends (port_write m d port v w.core) w (omega (arith, (write_small m d port v w.core).1)) h z

-- another shot of the same picture and border shows the frame too
newest_shows : (ss : List Shot) (fs : List Frame) → AllShow ss fs → 0 < length fs → (s : Shot) → s.picture ≡ newest fs
    → ((pixel : ℕ) → pixel < 76800 → get_or s.border pixel 0 ≡ border_of fs pixel) → NewestShows s fs
newest_shows ss [] h some s p b = absurd (omega arith)
newest_shows [] (f ∷ fs) h some s p b = absurd h
newest_shows (x ∷ xs) (f ∷ fs) h some s p b =
    let known = h.0 in
    record {
      blocks = λ k q. ap (λ (picture : List ℕ). block_in picture k) (p ∙ sym known.picture) ∙ known.blocks k q;
      once = known.once;
      rising = known.rising;
      whole = known.whole;
      picture = p;
      border = b;
    }

-- AFTER A CALL THAT CLOSED A FRAME MEMORY SHOWS IT WHOLE, at any point of a history.
pub call_ended : (m : ZXMachine) (first T B F : ℕ) (w : World) (l : Log) (ss : List Shot) → Inv m first T B F w l ss
    → (f : Part) → LeavesBorder m f → AllSmall (f w.core) → 0 < closings m (f w.core) w.core
    → Ended (world_after m (f w.core) w) (follow m (f w.core) w.core l).done
call_ended m first T B F w l ss i f leaves small closed =
    let os = f w.core in
    let j = ops_kept m first os T B F w l ss small i in
    let u = leaves w i.time.inside closed in
    let none = nothing_painted (world_after m os w).edge u in
    record {
      shows =
          newest_shows (film m os w ss) (follow m os w.core l).done j.frames (omega (arith, j.time.frames)) (shot_of (world_after m os w))
          j.pictures.shown_is (λ pixel h. j.border.rest pixel (omega arith) h);
      unblocked = u.0;
      pairs = u.1;
    }
