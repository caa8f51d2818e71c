-- PORT CALLS IN ONE STEP: a read's steps, and a write's where nobody repages memory, come to one step of all their clocks, wherever the
-- frame ends among them; a write that pages is two steps, one before its act and one after it.
-- Assumes nothing.
use mathlib.Core.Path.{◌≡◌, refl, sym, ap, ◌∙◌}
use mathlib.Core.Bool.{Bool, true, false, cond, or-false}
use mathlib.Core.List.{List, [], ◌∷◌}
use Prim.Native.Nat.{ℕ, ◌+◌, ◌-◌, ◌*◌, ◌/◌, ◌%◌, ◌<◌, ◌≤◌}
use native.Mathlib.Nat.{add_assoc, add-zero, div-add-mod, mod-lt, mul-le-mul_left}
use native.Mathlib.Omega.{arith}
use lib.Dec.{lit≤}
use borrow.Author.Tests.{lt-ltb, le-ltb, le-leb, lt-leb}
use Rattle.std.specs.Prelude.{Option, Some, None}
use Rattle.laws.proofs.Cases.{by_bool, split}
use Rattle.machine.specs.declared.ZXMachine.{ZXMachine}
use Rattle.machine.specs.declared.ZXMachine.TheVariants.{Sinclair48K, Sinclair128K}
use Rattle.machine.specs.declared.ZXSpecs.{ZXSpecs}
use Rattle.std.specs.Prelude.{None}
use Rattle.machine.specs.Timing.{pixel_at}
use Rattle.machine.specs.Numbers.{specs_of, Regular}
use Rattle.machine.specs.Timing.{delay_at, delay, block_position}
use Rattle.machine.specs.Contended.{port_contended}
use Rattle.machine.proofs.Numbered.{regular}
use Rattle.machine.proofs.Bounds.{delay_small}
use Rattle.machine.proofs.Delays.{delay_before, delay_over, delay_left_over}
use Rattle.machine.proofs.Rising.{border_end, border_before}
use Rattle.memory.specs.Paging.{addr_contended}
use Rattle.ports.specs.declared.Devices.{Devices}
use Rattle.ports.specs.Order.{read_order}
use Rattle.ports.specs.Floating.{floating_in, floating_place}
use Rattle.border.specs.Edge.{Edge, filled, inked, inked_at, finished}
use Rattle.bus.specs.World.{Core, World}
use Rattle.bus.specs.Time.{due, Op, tick, colour, closes, caught_up, in_core, in_screen, in_edge, does}
use Rattle.bus.specs.Turns.{Turn, turned, ran, clocks_of, blocks_of, closed_by, core_after, Part, and_then, ran_by}
use Rattle.bus.specs.Calls.{plain_wait, delay_step, first_part, last_part, final_step, read_before, port_read, floating_byte, floating_bus, answered, read_value}
use Rattle.bus.specs.Clocks.{first_clocks, held_once, held_twice, held_thrice, last_clocks, part_clocks, inked_at_clock, at_clock}
use Rattle.bus.proofs.OneStep.{closes_at, core_closed, core_goes, screen_closed, screen_goes, whole_step}
use Rattle.bus.proofs.Runs.{ran_machine, ran_core, ran_then}
use Rattle.bus.proofs.Closing.{step_inside}
use Rattle.bus.proofs.Merge.{short_merge, address_merge}

-- The clocks of a port call that are left over past a frame's end come before all that a frame begins with.
pub early : (m : ZXMachine) → (64 ≤ (specs_of m).contention) × (64 ≤ (specs_of m).block) × (64 ≤ (specs_of m).border)
early Sinclair48K = (lit≤ tt, lit≤ tt, lit≤ tt)
early Sinclair128K = (lit≤ tt, lit≤ tt, lit≤ tt)

-- ---- how long the parts are

thrice_small : (s : ZXSpecs) (clock : ℕ) → held_thrice s clock ≤ 20
unfolding held_thrice held_twice
thrice_small s clock =
    omega (
      arith,
      delay_small s clock,
      delay_small s (clock + (delay s clock + 1)),
      delay_small s (clock + (delay s clock + 1 + (delay s (clock + (delay s clock + 1)) + 1))),
    )

pub last_small : (m : ZXMachine) (paging port clock : ℕ) → last_clocks m paging port clock ≤ 20
unfolding last_clocks
last_small m paging port clock =
    by_bool (λ (n : ℕ). n ≤ 20) (port_contended m port)
    (λ _. omega (arith, delay_small (specs_of m) clock))
    (λ _. by_bool (λ (n : ℕ). n ≤ 20) (addr_contended m paging port) (λ _. thrice_small (specs_of m) clock) (λ _. omega arith))

pub first_small : (m : ZXMachine) (paging port clock : ℕ) → first_clocks m paging port clock ≤ 7
first_small m paging port clock =
    by_bool (λ (n : ℕ). n + 1 ≤ 7) (addr_contended m paging port) (λ _. omega (arith, delay_small (specs_of m) clock)) (λ _. omega arith)

-- ---- after a short step

module _ (m : ZXMachine) (n : ℕ) (w : World) (few : n ≤ 32) (inside : w.core.clock < (specs_of m).frame) where
  behind_by : (b : Bool) → closes m n w.core ≡ b
      → (does m (tick n) w).screen.painted ≤ block_position (specs_of m) (does m (tick n) w).core.clock
  unfolding caught_up
  behind_by true e = rw (screen_closed m n w.core w.screen e) (omega arith)
  behind_by false e = rw (core_goes m n w.core e, screen_goes m n w.core w.screen e) (omega arith)

  -- the painted count is in place
  pub step_behind : (does m (tick n) w).screen.painted ≤ block_position (specs_of m) (does m (tick n) w).core.clock
  step_behind = behind_by (closes m n w.core) refl

  paging_by : (b : Bool) → closes m n w.core ≡ b → (does m (tick n) w).core.paging ≡ w.core.paging
  paging_by true e = rw (core_closed m n w.core e)
  paging_by false e = rw (core_goes m n w.core e)

  -- and so is the 7FFD byte
  pub step_paging : (does m (tick n) w).core.paging ≡ w.core.paging
  step_paging = paging_by (closes m n w.core) refl

  delay_by : (b : Bool) → closes m n w.core ≡ b → delay (specs_of m) (does m (tick n) w).core.clock ≡ delay (specs_of m) (w.core.clock + n)
  delay_by true e =
      let h = closes_at m n w.core e in
      rw (core_closed m n w.core e) (delay_left_over (specs_of m) (regular m) (w.core.clock + n) h (omega (arith, (early m).0)))
  delay_by false e = rw (core_goes m n w.core e)

  -- The delay that is due then is the one at the clock counted on, also where the frame was closed: there none is due either way.
  pub delay_after : delay (specs_of m) (does m (tick n) w).core.clock ≡ delay (specs_of m) (w.core.clock + n)
  delay_after = delay_by (closes m n w.core) refl

-- three held steps where no delay is due
none_held : (s : ZXSpecs) (u : ℕ) → delay s u ≡ 0 → delay s (u + 1) ≡ 0 → delay s (u + 2) ≡ 0 → held_thrice s u ≡ 2
unfolding held_thrice held_twice
none_held s u d e f = rw (d, e, f)

module _ (m : ZXMachine) (paging port : ℕ) where
  no_delay : (u : ℕ) → delay (specs_of m) u ≡ 0 → delay (specs_of m) (u + 1) ≡ 0 → delay (specs_of m) (u + 2) ≡ 0
      → last_clocks m paging port u ≡ cond (port_contended m port) 2 (cond (addr_contended m paging port) 2 2)
  unfolding last_clocks
  no_delay u d e f = rw (none_held (specs_of m) u d e f, d)

  module _ (n : ℕ) (w : World) (few : n ≤ 32) (inside : w.core.clock < (specs_of m).frame) where
    last_by : (b : Bool) → closes m n w.core ≡ b
        → last_clocks m paging port (does m (tick n) w).core.clock ≡ last_clocks m paging port (w.core.clock + n)
    last_by true e =
        let h = closes_at m n w.core e in
        let s = specs_of m in
        let t = w.core.clock + n in
        let over : (k : ℕ) → delay s (t + k) ≡ 0 = λ k. delay_over s (regular m) (t + k) (omega arith) in
        let left : (k : ℕ) → k ≤ 2 → delay s (t - s.frame + k) ≡ 0 = λ k l. delay_before s (t - s.frame + k) (omega (arith, (early m).0)) in
        rw (core_closed m n w.core e)
        (no_delay (t - s.frame) (delay_before s (t - s.frame) (omega (arith, (early m).0))) (left 1 (omega arith)) (left 2 (omega arith))
        ∙ sym (no_delay t (delay_over s (regular m) t h) (over 1) (over 2)))
    last_by false e = rw (core_goes m n w.core e)

    -- So the last part takes what it would take if the clock were counted on.
    pub last_after : last_clocks m paging port (does m (tick n) w).core.clock ≡ last_clocks m paging port (w.core.clock + n)
    last_after = last_by (closes m n w.core) refl

-- ---- the parts of a port call as steps

module _ (t : Turn) (inside : t.world.core.clock < (specs_of t.machine).frame)
    (behind : t.world.screen.painted ≤ block_position (specs_of t.machine) t.world.core.clock) where
  -- a short step, and then one of n clocks, or one of the delay and n clocks
  next_plain : (x n : ℕ) → x + n ≤ 48 → ran_by (plain_wait n) (turned (tick x) t) ≡ turned (tick (x + n)) t
  unfolding ran
  next_plain x n few = short_merge x n t behind (omega (arith, (early t.machine).1))

  next_held : (x n : ℕ) → x ≤ 32 → n ≤ 8
      → ran_by (delay_step t.machine n) (turned (tick x) t) ≡ turned (tick (x + (delay (specs_of t.machine) (t.world.core.clock + x) + n))) t
  unfolding ran turned
  next_held x n few small =
      let s = specs_of t.machine in
      let d = delay_small s (t.world.core.clock + x) in
      whole_step (due (delay_at s (does t.machine (tick x) t.world).core.clock)) n (turned (tick x) t)
      ∙ ap (λ (k : ℕ). turned (tick (k + n)) (turned (tick x) t)) (delay_after t.machine x t.world few inside)
      ∙ short_merge x (delay s (t.world.core.clock + x) + n) t behind (omega (arith, (early t.machine).1))

  module _ (port : ℕ) where
    abbrev m : ZXMachine
    m = t.machine

    abbrev at : ℕ
    at = t.world.core.clock

    abbrev held : ℕ
    held = t.world.core.paging

    thrice : ran_by (and_then m (delay_step m 1) (and_then m (delay_step m 1) (delay_step m 0))) t ≡ turned (tick (held_thrice (specs_of m) at)) t
    unfolding ran held_thrice held_twice
    thrice =
        let s = specs_of m in
        let d = delay_small s at in
        let e = delay_small s (at + held_once s at) in
        ran_then m (delay_step m 1) (and_then m (delay_step m 1) (delay_step m 0)) t refl
        ∙ ap (λ (u : Turn). ran_by (and_then m (delay_step m 1) (delay_step m 0)) u) (whole_step (due (delay_at s at)) 1 t)
        ∙ ran_then m (delay_step m 1) (delay_step m 0) (turned (tick (held_once s at)) t) (ran_machine (tick (held_once s at) ∷ []) t)
        ∙ ap (λ (u : Turn). ran_by (delay_step m 0) u) (next_held (held_once s at) 1 (omega arith) (omega arith))
        ∙ next_held (held_once s at + held_once s (at + held_once s at)) 0 (omega arith) (omega arith)
        ∙ rw (add-zero (delay s (at + (held_once s at + held_once s (at + held_once s at)))))

    by_three : (e h : Bool) (A B C : List Op) (a b c : ℕ) → ran A t ≡ turned (tick a) t → ran B t ≡ turned (tick b) t → ran C t ≡ turned (tick c) t
        → ran (cond e A (cond h B C)) t ≡ turned (tick (cond e a (cond h b c))) t
    by_three true h A B C a b c p q r = p
    by_three false true A B C a b c p q r = q
    by_three false false A B C a b c p q r = r

    -- THE LAST PART is one step,
    pub last_step : ran_by (last_part m port) t ≡ turned (tick (last_clocks m held port at)) t
    unfolding last_part last_clocks ran
    last_step = by_three (port_contended m port) (addr_contended m held port) _ _ _ _ _ _ (whole_step (due (delay_at (specs_of m) at)) 2 t) thrice refl

    -- the final step with it,
    pub last_final : ran_by (and_then m (last_part m port) final_step) t ≡ turned (tick (last_clocks m held port at + 1)) t
    last_final =
        ran_then m (last_part m port) final_step t refl
        ∙ ap (λ (u : Turn). ran_by final_step u) last_step
        ∙ next_plain (last_clocks m held port at) 1 (omega (arith, last_small m held port at))

    -- and the first part is one.
    pub first_step : ran_by (first_part m port) t ≡ turned (tick (first_clocks m held port at)) t
    unfolding ran
    first_step = address_merge t port 1 inside behind

-- ---- both parts

-- a turn after a short step is as the turn before it was
module _ (n : ℕ) (t : Turn) (few : n ≤ 32) (inside : t.world.core.clock < (specs_of t.machine).frame) where
  turn_inside : (turned (tick n) t).world.core.clock < (specs_of t.machine).frame
  unfolding turned
  turn_inside = step_inside t.machine n t.world inside (omega arith)

  turn_behind : (turned (tick n) t).world.screen.painted ≤ block_position (specs_of t.machine) (turned (tick n) t).world.core.clock
  unfolding turned
  turn_behind = step_behind t.machine n t.world few inside

  turn_last : (port : ℕ)
      → last_clocks t.machine (turned (tick n) t).world.core.paging port (turned (tick n) t).world.core.clock
      ≡ last_clocks t.machine t.world.core.paging port (t.world.core.clock + n)
  unfolding turned
  turn_last port =
      ap (λ (p : ℕ). last_clocks t.machine p port (does t.machine (tick n) t.world).core.clock) (step_paging t.machine n t.world few inside)
      ∙ last_after t.machine t.world.core.paging port n t.world few inside

module _ (t : Turn) (inside : t.world.core.clock < (specs_of t.machine).frame)
    (behind : t.world.screen.painted ≤ block_position (specs_of t.machine) t.world.core.clock) (port : ℕ) where
  abbrev first : ℕ
  first = first_clocks t.machine t.world.core.paging port t.world.core.clock

  abbrev last : ℕ
  last = last_clocks t.machine t.world.core.paging port (t.world.core.clock + first)

  few_first : first ≤ 32
  few_first = omega (arith, first_small t.machine t.world.core.paging port t.world.core.clock)

  few_all : first + (last + 1) ≤ 28
  few_all =
      omega (
        arith,
        first_small t.machine t.world.core.paging port t.world.core.clock,
        last_small t.machine t.world.core.paging port (t.world.core.clock + first),
      )

  -- the last part, and the final step, after a first step of so many clocks
  after_first : ran_by (and_then t.machine (last_part t.machine port) final_step) (turned (tick first) t) ≡ turned (tick (first + (last + 1))) t
  unfolding turned
  after_first =
      last_final (turned (tick first) t) (turn_inside first t few_first inside) (turn_behind first t few_first inside) port
      ∙ ap (λ (n : ℕ). turned (tick (n + 1)) (turned (tick first) t)) (turn_last first t few_first inside port)
      ∙ short_merge first (last + 1) t behind (omega (arith, few_all, (early t.machine).1))

  -- THE STEPS BEFORE A READ'S VALUE are one,
  pub before_step : ran_by (read_before t.machine port) t ≡ turned (tick (part_clocks t.machine t.world.core.paging port t.world.core.clock)) t
  unfolding turned
  before_step =
      ran_then t.machine (first_part t.machine port) (last_part t.machine port) t refl
      ∙ ap (λ (u : Turn). ran_by (last_part t.machine port) u) (first_step t inside behind port)
      ∙ last_step (turned (tick first) t) (turn_inside first t few_first inside) (turn_behind first t few_first inside) port
      ∙ ap (λ (n : ℕ). turned (tick n) (turned (tick first) t)) (turn_last first t few_first inside port)
      ∙ short_merge first last t behind (omega (arith, few_all, (early t.machine).1))

  -- and a whole READ is one.
  pub read_step : ran_by (port_read t.machine port) t ≡ turned (tick (part_clocks t.machine t.world.core.paging port t.world.core.clock + 1)) t
  read_step =
      ran_then t.machine (read_before t.machine port) final_step t refl
      ∙ ap (λ (u : Turn). ran_by final_step u) before_step
      ∙ next_plain t inside behind (first + last) 1 (omega (arith, few_all))

  -- A WRITE THAT DOES NOTHING TO THE BUS is one step too.
  pub quiet_step : (f : Part) → ((c : Core) → f c ≡ [])
      → ran_by (and_then t.machine (first_part t.machine port) (and_then t.machine f (and_then t.machine (last_part t.machine port) final_step))) t
      ≡ turned (tick (part_clocks t.machine t.world.core.paging port t.world.core.clock + 1)) t
  unfolding ran
  quiet_step f none =
      let rest = and_then t.machine (last_part t.machine port) final_step in
      ran_then t.machine (first_part t.machine port) (and_then t.machine f rest) t refl
      ∙ ap (λ (u : Turn). ran_by (and_then t.machine f rest) u) (first_step t inside behind port)
      ∙ ran_then t.machine f rest (turned (tick first) t) (ran_machine (tick first ∷ []) t)
      ∙ ap (λ (os : List Op). ran_by rest (ran os (turned (tick first) t))) (none (turned (tick first) t).world.core)
      ∙ after_first
      ∙ rw (← add_assoc first last 1)

-- ---- a border write

-- The tail of a frame and the head of the next are alike to a border write: closing the border and then writing before its first pixel
-- leaves what writing at frame end and then closing leaves.
ink_over : (k : ℕ) (e : Edge) (b : Bool) → e.blocked ≡ b → inked (pixel_at 0 0) k (finished e) ≡ finished (inked None k e)
unfolding inked inked_at finished filled
ink_over k e true h = rw h
ink_over k e false h = rw h

module _ (n k : ℕ) (t : Turn) (few : n ≤ 32) (inside : t.world.core.clock < (specs_of t.machine).frame) where
  ink_core : (b : Bool) → closes t.machine n t.world.core ≡ b
      → in_core t.machine (colour k) (in_core t.machine (tick n) t.world.core)
      ≡ in_core t.machine (tick n) (inked_at_clock (t.world.core.clock + n) k t).world.core
  unfolding in_core
  ink_core true e = rw e
  ink_core false e = rw e

  ink_edge : (b : Bool) → closes t.machine n t.world.core ≡ b
      → in_edge t.machine (colour k) (in_core t.machine (tick n) t.world.core) (in_edge t.machine (tick n) t.world.core t.world.edge)
      ≡ in_edge t.machine (tick n) (inked_at_clock (t.world.core.clock + n) k t).world.core (inked_at_clock (t.world.core.clock + n) k t).world.edge
  unfolding in_edge in_core
  ink_edge true e =
      let s = specs_of t.machine in
      let h = closes_at t.machine n t.world.core e in
      let g = regular t.machine in
      rw (
        e,
        border_before s (t.world.core.clock + n - s.frame) (omega (arith, (early t.machine).2)),
        border_end s g (t.world.core.clock + n) (omega arith),
      )
      (ink_over k t.world.edge t.world.edge.blocked refl)
  ink_edge false e = rw e

  -- A border write after a short step is one at that clock before the step.
  pub ink_first : turned (colour k) (turned (tick n) t) ≡ turned (tick n) (inked_at_clock (t.world.core.clock + n) k t)
  unfolding turned clocks_of blocks_of closed_by in_screen
  ink_first =
      rw (ink_core (closes t.machine n t.world.core) refl, ink_edge (closes t.machine n t.world.core) refl)
      (simp (add-zero, or-false))

-- A BORDER WRITE is one step, with its act before it at the clock that the first part ends at.
module _ (t : Turn) (inside : t.world.core.clock < (specs_of t.machine).frame)
    (behind : t.world.screen.painted ≤ block_position (specs_of t.machine) t.world.core.clock) (port k : ℕ) where
  pub border_step :
      ran_by (and_then t.machine (first_part t.machine port) (and_then t.machine (λ c. colour k ∷ []) (and_then t.machine (last_part t.machine port) final_step))) t
      ≡ turned (tick (part_clocks t.machine t.world.core.paging port t.world.core.clock + 1))
      (inked_at_clock (t.world.core.clock + first_clocks t.machine t.world.core.paging port t.world.core.clock) k t)
  unfolding ran
  border_step =
      let n = first t inside behind port in
      let f : Part = λ c. colour k ∷ [] in
      let rest = and_then t.machine (last_part t.machine port) final_step in
      let u = inked_at_clock (t.world.core.clock + n) k t in
      ran_then t.machine (first_part t.machine port) (and_then t.machine f rest) t refl
      ∙ ap (λ (v : Turn). ran_by (and_then t.machine f rest) v) (first_step t inside behind port)
      ∙ ran_then t.machine f rest (turned (tick n) t) (ran_machine (tick n ∷ []) t)
      ∙ ap (λ (v : Turn). ran_by rest v) (ink_first n k t (few_first t inside behind port) inside)
      ∙ after_first u inside behind port
      ∙ ap (λ (x : ℕ). turned (tick x) u) (sym (add_assoc n (last t inside behind port) 1))

-- ---- what a read finds on the floating bus

-- nothing is fetched past a frame's end, counted on
floating_past : (s : ZXSpecs) → Regular s → (t : ℕ) → s.frame ≤ t → floating_place s t ≡ None
unfolding floating_place floating_in
floating_past s g t h =
    let l = s.line in
    let c = t - s.block in
    let q = c / l in
    let r = c % l in
    let d : l * q + r ≡ c = div-add-mod c l in
    let m : r < l = mod-lt c {m = l} (omega (arith, g.wide)) in
    let b : s.block ≤ t = omega (arith, g.blocks_in_frame) in
    let f : 191 ≤ q = split 191 q (λ i. i)
    (λ i. let j : q ≤ 190 = omega arith in let z : ⊥ = omega (arith, mul-le-mul_left l j, g.blocks_in_frame) in absurd z) in
    split 192 q
    (λ i. simp (le-ltb t s.block b, le-leb 192 q i))
    (λ i. let e : q ≡ 191 = omega arith in
    let n : l * 191 + r ≡ c = ap (λ (y : ℕ). l * y + r) (sym e) ∙ d in
    simp (le-ltb t s.block b, lt-leb 192 q i, le-leb 124 r (omega (arith, g.blocks_in_frame))))

floating_before : (s : ZXSpecs) (t : ℕ) → t < s.block → floating_place s t ≡ None
unfolding floating_place
floating_before s t h = rw (lt-ltb t s.block h)

byte_same : (m : ZXMachine) (a : Option ℕ) (c d : Core) → c.paging ≡ d.paging → c.ram ≡ d.ram → floating_byte m a c ≡ floating_byte m a d
byte_same m None c d p r = refl
byte_same m (Some addr) c d p r = rw (p, r)

module _ (m : ZXMachine) (n : ℕ) (c : Core) (few : n ≤ 32) (inside : c.clock < (specs_of m).frame) where
  floating_by : (b : Bool) → closes m n c ≡ b → floating_bus m (in_core m (tick n) c) ≡ floating_bus m (at_clock (c.clock + n) c)
  unfolding floating_bus
  floating_by true e =
      let s = specs_of m in
      let h = closes_at m n c e in
      rw (
        core_closed m n c e,
        floating_before s (c.clock + n - s.frame) (omega (arith, (early m).1)),
        floating_past s (regular m) (c.clock + n) h,
      )
  floating_by false e = rw (core_goes m n c e)

  -- After a short step the floating bus holds what it would hold if the clock were counted on.
  floating_after : floating_bus m (in_core m (tick n) c) ≡ floating_bus m (at_clock (c.clock + n) c)
  floating_after = floating_by (closes m n c) refl

answered_same : (m : ZXMachine) (a : Option ℕ) (c d : Core) → floating_bus m c ≡ floating_bus m d → answered m a c ≡ answered m a d
answered_same m (Some v) c d e = refl
answered_same m None c d e = e

-- THE VALUE OF A READ, by the core at the clock that its two parts end at.
pub read_value_lem : (t : Turn) → t.world.core.clock < (specs_of t.machine).frame
    → t.world.screen.painted ≤ block_position (specs_of t.machine) t.world.core.clock → (d : Devices) (port : ℕ)
    → read_value t.machine d port t.world.core
    ≡ answered t.machine (read_order d port)
    (at_clock (t.world.core.clock + part_clocks t.machine t.world.core.paging port t.world.core.clock) t.world.core)
unfolding read_value turned
read_value_lem t inside behind d port =
    let m = t.machine in
    let c = t.world.core in
    let n = part_clocks m c.paging port c.clock in
    answered_same m (read_order d port) (core_after m (read_before m port c) c) (at_clock (c.clock + n) c)
    (ap (λ (x : Core). floating_bus m x)
    (sym (ran_core (read_before m port c) t) ∙ ap (λ (u : Turn). u.world.core) (before_step t inside behind port))
    ∙ floating_after m n c (omega (arith, few_all t inside behind port)) inside)
