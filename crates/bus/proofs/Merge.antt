-- STEPS MERGE: a step of a clocks and then one of b leave and report what one step of a + b does, where the first closes no frame.
-- Assumes nothing.
use mathlib.Core.Path.{◌≡◌, refl, sym, ap, ◌∙◌}
use mathlib.Core.Bool.{Bool, true, false, ◌||◌, cond, or-false}
use mathlib.Core.List.{List, [], ◌∷◌}
use Prim.Native.Nat.{ℕ, ◌+◌, ◌-◌, ◌<◌, ◌≤◌}
use native.Mathlib.Nat.{add_assoc, add-zero, zero-add}
use native.Mathlib.Omega.{arith}
use Rattle.laws.proofs.Cases.{split}
use Rattle.machine.specs.declared.ZXMachine.{ZXMachine}
use Rattle.machine.specs.declared.Delay.{Delay}
use Rattle.machine.specs.Numbers.{specs_of}
use Rattle.machine.specs.Timing.{delay_at, clocks_held, block_position}
use Rattle.machine.proofs.Numbered.{regular}
use Rattle.machine.proofs.Delays.{delay_inside}
use Rattle.machine.proofs.Rising.{blocks_mono, blocks_at_end, position_before}
use Rattle.paint.specs.Paint.{paint}
use Rattle.paint.proofs.Painting.{paint_cut}
use Rattle.memory.specs.Paging.{shown_page}
use Rattle.memory.specs.Memory.{ram_page}
use Rattle.border.specs.Edge.{Edge}
use Rattle.bus.specs.World.{Core, Screen, World}
use Rattle.bus.specs.Time.{Look, due, step, tick, closes, flash_on, look_at, shows_a, caught_up, rewound, wrapped, in_core, in_screen, in_edge, does}
use Rattle.bus.specs.Turns.{clocks_of, blocks_of, closed_by, Turn, turned, ran, fresh, ran_by}
use Rattle.bus.specs.Calls.{contended, plain_wait, delayed, address_wait}
use Rattle.bus.specs.Clocks.{due_at}
use Rattle.bus.proofs.OneStep.{goes_on_at, goes_on_if, closes_if, core_goes, core_closed, screen_goes, screen_closed, edge_goes, whole_step}
use Rattle.bus.proofs.Runs.{ran_then, clocks_add, blocks_add, closed_add}
use Rattle.bus.proofs.Kept.{SoundWorld}
use Rattle.bus.proofs.Closing.{left_over}

-- ---- two catch-ups that see the same bytes, page and flash are one

module _ (ram : List ℕ) (page : ℕ) (flash : Bool) where
  abbrev seen : ℕ → Look
  seen at = record { at = at; ram = ram; page = page; flash = flash }

  caught_merge : (x y : ℕ) (shows-a : Bool) (s : Screen) → s.painted ≤ x → x ≤ y
      → caught_up (seen y) shows-a (caught_up (seen x) shows-a s) ≡ caught_up (seen y) shows-a s
  unfolding caught_up
  caught_merge x y true s h k = rw (paint_cut (ram_page page ram) flash s.painted x y s.b h k)
  caught_merge x y false s h k = rw (paint_cut (ram_page page ram) flash s.painted x y s.a h k)

-- ---- each part of the world, and each report

module _ (m : ZXMachine) (a b : ℕ) (c : Core) (goes : closes m a c ≡ false) where
  core_merge : in_core m (tick b) (in_core m (tick a) c) ≡ in_core m (tick (a + b)) c
  unfolding in_core
  core_merge = rw (goes, add_assoc)

  edge_merge : (e : Edge) → in_edge m (tick b) (in_core m (tick a) c) (in_edge m (tick a) c e) ≡ in_edge m (tick (a + b)) c e
  unfolding in_edge in_core
  edge_merge e = rw (goes, add_assoc)

  screen_merge : (s : Screen) → s.painted ≤ block_position (specs_of m) (c.clock + a)
      → in_screen m (tick b) (in_core m (tick a) c) (in_screen m (tick a) c s) ≡ in_screen m (tick (a + b)) c s
  unfolding in_screen in_core
  screen_merge s h =
      let k : block_position (specs_of m) (c.clock + a) ≤ block_position (specs_of m) (c.clock + (a + b)) =
      blocks_mono (specs_of m) (regular m).wide (c.clock + a) (c.clock + (a + b)) (omega arith) in
      rw (
        goes,
        add_assoc,
        caught_merge c.ram (shown_page m c.paging) (flash_on c.phase) (block_position (specs_of m) (c.clock + a))
            (block_position (specs_of m) (c.clock + (a + b))) (shows_a c.phase) s h k,
      )

  closed_merge : (x : Bool) → (x || closed_by m (tick a) c) || closed_by m (tick b) (in_core m (tick a) c) ≡ x || closed_by m (tick (a + b)) c
  unfolding closed_by in_core
  closed_merge x = rw (goes, or-false x, add_assoc)

-- a call under way by its parts
same_turn : (m : ZXMachine) (w v : World) (k l n j : ℕ) (x y : Bool) → w.core ≡ v.core → w.screen ≡ v.screen → w.edge ≡ v.edge → k ≡ l → n ≡ j → x ≡ y
    → ◌≡◌ {A = Turn}
    (record { machine = m; world = record { core = w.core; screen = w.screen; edge = w.edge }; clocks = k; blocks = n; closed = x })
    (record { machine = m; world = record { core = v.core; screen = v.screen; edge = v.edge }; clocks = l; blocks = j; closed = y })
same_turn m w v k l n j x y c s e p q r = rw (c, s, e, p, q, r)

-- THE LAW. A step of a and then one of b are one step of a + b, where the first closes no frame and no block is painted that the first
-- does not reach. The second may close the frame or not, and the memory lent may be of any size.
module _ (a b : ℕ) (t : Turn) (goes : t.world.core.clock + a < (specs_of t.machine).frame) where
  quiet : closes t.machine a t.world.core ≡ false
  quiet = goes_on_if t.machine a t.world.core goes

  blocks_within : t.world.screen.painted ≤ block_position (specs_of t.machine) (t.world.core.clock + a)
      → blocks_of t.machine (tick a) t.world + blocks_of t.machine (tick b) (does t.machine (tick a) t.world)
      ≡ blocks_of t.machine (tick (a + b)) t.world
  unfolding blocks_of caught_up
  blocks_within behind =
      let m = t.machine in
      let c = t.world.core in
      let k = blocks_mono (specs_of m) (regular m).wide (c.clock + a) (c.clock + (a + b)) (omega arith) in
      rw (core_goes m a c quiet, screen_goes m a c t.world.screen quiet, add_assoc) (omega arith)

  one_within : t.world.screen.painted ≤ block_position (specs_of t.machine) (t.world.core.clock + a)
      → turned (tick b) (turned (tick a) t) ≡ turned (tick (a + b)) t
  unfolding turned clocks_of
  one_within behind =
      let m = t.machine in
      let w = t.world in
      same_turn m (does m (tick b) (does m (tick a) w)) (does m (tick (a + b)) w) _ _ _ _ _ _
      (core_merge m a b w.core quiet)
      (screen_merge m a b w.core quiet w.screen behind)
      (edge_merge m a b w.core quiet w.edge)
      (add_assoc t.clocks a b)
      (add_assoc t.blocks (blocks_of m (tick a) w) (blocks_of m (tick b) (does m (tick a) w)) ∙ ap (λ (n : ℕ). t.blocks + n) (blocks_within behind))
      (closed_merge m a b w.core quiet t.closed)

  module _ (behind : t.world.screen.painted ≤ block_position (specs_of t.machine) (t.world.core.clock + a)) where
    blocks_merge : blocks_of t.machine (tick a) t.world + blocks_of t.machine (tick b) (does t.machine (tick a) t.world)
        ≡ blocks_of t.machine (tick (a + b)) t.world
    blocks_merge = blocks_within behind

    pub steps_merge_at : turned (tick b) (turned (tick a) t) ≡ turned (tick (a + b)) t
    steps_merge_at = one_within behind

  -- the same from soundness: the painted count is at or below the position of the clock
  pub steps_merge : t.world.screen.painted ≤ block_position (specs_of t.machine) t.world.core.clock
      → turned (tick b) (turned (tick a) t) ≡ turned (tick (a + b)) t
  steps_merge h =
      let m = t.machine in
      let k = blocks_mono (specs_of m) (regular m).wide t.world.core.clock (t.world.core.clock + a) (omega arith) in
      one_within (omega arith)

-- ---- where the first step closes the frame

-- a catch-up to position 0 of a new frame paints nothing
nothing_caught : (l : Look) (shows-a : Bool) (s : Screen) → l.at ≡ 0 → caught_up l shows-a (rewound s) ≡ rewound s
unfolding caught_up paint
nothing_caught l true s h = rw h
nothing_caught l false s h = rw h

-- The first step closes the frame, the second does not, and what is left over, in all, reaches no block of the new one.
module _ (a b : ℕ) (t : Turn) (over : (specs_of t.machine).frame ≤ t.world.core.clock + a)
    (inside : t.world.core.clock + (a + b) < (specs_of t.machine).frame + (specs_of t.machine).frame)
    (left_place : block_position (specs_of t.machine) (t.world.core.clock + a - (specs_of t.machine).frame + b) ≡ 0) where
  abbrev m : ZXMachine
  m = t.machine

  abbrev c : Core
  c = t.world.core

  first_closes : closes m a c ≡ true
  first_closes = closes_if m a c over

  second_goes : closes m b (wrapped m a c) ≡ false
  second_goes = goes_on_if m b (wrapped m a c) (omega arith)

  both_close : closes m (a + b) c ≡ true
  both_close = closes_if m (a + b) c (omega arith)

  core_over : in_core m (tick b) (in_core m (tick a) c) ≡ in_core m (tick (a + b)) c
  core_over =
      let e : c.clock + a - (specs_of m).frame + b ≡ c.clock + (a + b) - (specs_of m).frame = omega arith in
      rw (core_closed m a c first_closes, core_goes m b (wrapped m a c) second_goes, core_closed m (a + b) c both_close, e)

  screen_stays : in_screen m (tick b) (in_core m (tick a) c) (in_screen m (tick a) c t.world.screen) ≡ in_screen m (tick a) c t.world.screen
  screen_stays =
      let s = caught_up (look_at m (c.clock + a) c) (shows_a c.phase) t.world.screen in
      rw (
        core_closed m a c first_closes,
        screen_closed m a c t.world.screen first_closes,
        screen_goes m b (wrapped m a c) (rewound s) second_goes,
      )
      (nothing_caught (look_at m ((wrapped m a c).clock + b) (wrapped m a c)) (shows_a (wrapped m a c).phase) s left_place)

  screen_over : in_screen m (tick b) (in_core m (tick a) c) (in_screen m (tick a) c t.world.screen) ≡ in_screen m (tick (a + b)) c t.world.screen
  screen_over = screen_stays ∙ (left_over m a (a + b) t.world over (omega arith)).0

  edge_over : in_edge m (tick b) (in_core m (tick a) c) (in_edge m (tick a) c t.world.edge) ≡ in_edge m (tick (a + b)) c t.world.edge
  edge_over =
      rw (core_closed m a c first_closes, edge_goes m b (wrapped m a c) (in_edge m (tick a) c t.world.edge) second_goes)
      (left_over m a (a + b) t.world over (omega arith)).1

  blocks_over : blocks_of m (tick a) t.world + blocks_of m (tick b) (does m (tick a) t.world) ≡ blocks_of m (tick (a + b)) t.world
  unfolding blocks_of
  blocks_over =
      let x = blocks_at_end (specs_of m) (regular m) (c.clock + a) (omega arith) in
      let y = blocks_at_end (specs_of m) (regular m) (c.clock + (a + b)) (omega arith) in
      let z = left_place in
      rw (core_closed m a c first_closes, screen_closed m a c t.world.screen first_closes) (omega arith)

  closed_over : (x : Bool) → (x || closed_by m (tick a) c) || closed_by m (tick b) (in_core m (tick a) c) ≡ x || closed_by m (tick (a + b)) c
  unfolding closed_by
  closed_over x = rw (core_closed m a c first_closes, first_closes, second_goes, both_close, or-false)

  one_over : turned (tick b) (turned (tick a) t) ≡ turned (tick (a + b)) t
  unfolding turned clocks_of
  one_over =
      let w = t.world in
      same_turn m (does m (tick b) (does m (tick a) w)) (does m (tick (a + b)) w) _ _ _ _ _ _
      core_over
      screen_over
      edge_over
      (add_assoc t.clocks a b)
      (add_assoc t.blocks (blocks_of m (tick a) w) (blocks_of m (tick b) (does m (tick a) w)) ∙ ap (λ (n : ℕ). t.blocks + n) blocks_over)
      (closed_over t.closed)

-- Where the first step closes the frame, the two are still one as long as what is left over, in all, ends before the new frame's first
-- block: past that block the two steps paint it into the new frame and the one step does not, nor into the finished one.
module _ (a b : ℕ) (t : Turn) (over : (specs_of t.machine).frame ≤ t.world.core.clock + a)
    (early : t.world.core.clock + (a + b) < (specs_of t.machine).frame + (specs_of t.machine).block) where
  pub steps_merge_over : turned (tick b) (turned (tick a) t) ≡ turned (tick (a + b)) t
  steps_merge_over =
      let m = t.machine in
      one_over a b t over (omega (arith, (regular m).blocks_in_frame))
      (position_before (specs_of m) (t.world.core.clock + a - (specs_of m).frame + b) (omega arith))

-- SHORT STEPS MERGE, wherever they fall: with the painted count in place, and what is left over, if anything, before the first block.
pub short_merge : (a b : ℕ) (t : Turn) → t.world.screen.painted ≤ block_position (specs_of t.machine) t.world.core.clock
    → t.world.core.clock + (a + b) < (specs_of t.machine).frame + (specs_of t.machine).block
    → turned (tick b) (turned (tick a) t) ≡ turned (tick (a + b)) t
short_merge a b t behind early =
    split (specs_of t.machine).frame (t.world.core.clock + a)
    (λ over.
    let m = t.machine in
    one_over a b t over (omega (arith, (regular m).blocks_in_frame))
    (position_before (specs_of m) (t.world.core.clock + a - (specs_of m).frame + b) (omega arith)))
    (λ goes. steps_merge a b t goes behind)

-- TWO CALLS. On a sound world, a plain wait of a clocks that reports no closing and then one of b leave the world that one of a + b
-- leaves, and what they report adds up to what it reports.
module _ (m : ZXMachine) (a b : ℕ) (w : World) where
  abbrev pub first_wait : Turn
  first_wait = ran_by (plain_wait a) (fresh m w)

  abbrev pub second_wait : Turn
  second_wait = ran_by (plain_wait b) (fresh m first_wait.world)

  abbrev pub one_wait : Turn
  one_wait = ran_by (plain_wait (a + b)) (fresh m w)

  module _ (s : SoundWorld m w) (quiet-first : first_wait.closed ≡ false) where
    first_goes : w.core.clock + a < (specs_of m).frame
    unfolding ran turned closed_by
    first_goes = goes_on_at m a w.core quiet-first

    one_run : ran_by (plain_wait b) first_wait ≡ one_wait
    unfolding ran
    one_run = steps_merge a b (fresh m w) first_goes s.painted

    pub waits_world : second_wait.world ≡ one_wait.world
    unfolding ran turned
    waits_world = ap (λ (t : Turn). t.world) one_run

    pub waits_clocks : first_wait.clocks + second_wait.clocks ≡ one_wait.clocks
    unfolding ran turned
    waits_clocks = sym (clocks_add (plain_wait b first_wait.world.core) first_wait) ∙ ap (λ (t : Turn). t.clocks) one_run

    pub waits_blocks : first_wait.blocks + second_wait.blocks ≡ one_wait.blocks
    unfolding ran turned
    waits_blocks = sym (blocks_add (plain_wait b first_wait.world.core) first_wait) ∙ ap (λ (t : Turn). t.blocks) one_run

    pub waits_closed : second_wait.closed ≡ one_wait.closed
    unfolding ran turned
    waits_closed =
        sym (closed_add (plain_wait b first_wait.world.core) first_wait ∙ ap (λ (x : Bool). x || second_wait.closed) quiet-first)
        ∙ ap (λ (t : Turn). t.closed) one_run

-- ---- a wait at an address is one step

module _ (t : Turn) (addr n : ℕ) (inside : t.world.core.clock < (specs_of t.machine).frame)
    (behind : t.world.screen.painted ≤ block_position (specs_of t.machine) t.world.core.clock) where
  either_way : (x : Bool) (d : Delay) → d ≡ delay_at (specs_of t.machine) t.world.core.clock
      → ran (tick n ∷ []) (ran (cond x (step (due d) 0 ∷ []) []) t) ≡ ran (tick (cond x (clocks_held d) 0 + n) ∷ []) t
  unfolding ran
  either_way true d e =
      ap (λ (u : Turn). turned (tick n) u) (whole_step (due d) 0 t)
      ∙ rw add-zero (steps_merge (clocks_held d) n t (omega (arith, ap clocks_held e, delay_inside (specs_of t.machine) (regular t.machine) t.world.core.clock inside)) behind)
  either_way false d e = rw zero-add

  -- A WAIT AT AN ADDRESS, the delay and then n clocks, is one plain wait of both.
  pub address_merge : ran_by (address_wait t.machine addr n) t ≡ ran_by (plain_wait (due_at t.machine t.world.core.paging addr t.world.core.clock + n)) t
  unfolding delayed
  address_merge =
      ran_then t.machine (delayed t.machine addr) (plain_wait n) t refl
      ∙ either_way (contended t.machine addr t.world.core) (delay_at (specs_of t.machine) t.world.core.clock) refl
