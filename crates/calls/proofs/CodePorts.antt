-- Each way through the code of the port calls is a case of the calls' definitions, over plain turns.
-- Assumes nothing.
use Prim.Native.Nat.{ℕ, ◌+◌, ◌≤◌}
use mathlib.Core.Path.{◌≡◌, refl, sym, ap, ◌∙◌}
use mathlib.Core.Bool.{or-false}
use mathlib.Core.List.{List, [], ◌∷◌}
use native.Mathlib.Omega.{arith}
use native.Mathlib.Nat.{add-zero}
use Rattle.machine.specs.declared.ZXMachine.{ZXMachine}
use Rattle.memory.specs.declared.Paged.{Paged}
use Rattle.memory.specs.declared.Paged.TheVariants as paging
use Rattle.memory.specs.Paging.{write7ffd, paged_code, paging_after}
use Rattle.ports.specs.declared.Devices.{Devices}
use Rattle.ports.specs.declared.Written.{Written}
use Rattle.ports.specs.declared.Written.TheVariants as written
use Rattle.ports.specs.Hearers as hearer
use Rattle.ports.specs.Hearers.{hearers, heard_code, hearers_of}
use Rattle.steps.specs.declared.Turning.{Turning}
use Rattle.bus.specs.World.{Core}
use Rattle.bus.specs.Time.{tick, in_core, in_screen, in_edge}
use Rattle.bus.specs.Turns.{Turn, turned, ran, clocks_of, blocks_of, closed_by, core_after, Part, and_then, ran_by}
use Rattle.bus.specs.Calls.{first_part, last_part, final_step, paging_ops, paging_write, acted_on, port_write, write_code}
use Rattle.bus.specs.Clocks.{first_clocks, last_clocks, part_clocks}
use Rattle.bus.proofs.Runs.{acts_alone}
use Rattle.bus.proofs.PortSteps.{first_small, step_paging, first_step, last_final, quiet_step}
use Rattle.steps.specs.Turned.{turn_of, Ready}
use Rattle.contention.proofs.CodeReady.{ready_less, ready_paging, ready_step}
use Rattle.calls.specs.Paged.{paged_write}
use Rattle.calls.proofs.CodeRuns.{follows, left_core}

-- ---- a 7FFD write

abbrev with_paging : Turning → ℕ → Turning
with_paging t v =
    record {
      bus =
          record {
            machine = t.bus.machine;
            clock = t.bus.clock;
            passed = t.bus.passed;
            phase = t.bus.phase;
            painted = t.bus.painted;
            paging = v;
            reported = t.bus.reported;
            colour = t.bus.colour;
            blocked = t.bus.blocked;
            pairs = t.bus.pairs;
          };
      clocks = t.clocks;
      blocks = t.blocks;
      closed = t.closed;
    }

pub repaged_by : (t : Turning) (p : Paged) (ram a b border : List ℕ)
    → turn_of (with_paging t (paging_after p t.bus.paging)) ram a b border ≡ ran (paging_ops p) (turn_of t ram a b border)
unfolding turned ran in_core in_screen in_edge clocks_of blocks_of closed_by
repaged_by t paging.Absent ram a b border = refl
repaged_by t paging.Locked ram a b border = refl
repaged_by t (paging.Taken v) ram a b border = simp (add-zero, or-false)

-- ---- a port write

-- a paging write's two steps around its act
module _ (t u : Turn) (port v first : ℕ) (r : Ready t 2 28)
    (is_first : first ≡ first_clocks t.machine t.world.core.paging port t.world.core.clock) (steps : u ≡ turned (tick first) t) where
  few : first ≤ 7
  few = rw is_first (first_small t.machine t.world.core.paging port t.world.core.clock)

  same_paging : u.world.core.paging ≡ t.world.core.paging
  unfolding turned
  same_paging = rw steps (step_paging t.machine first t.world (omega (arith, few)) r.in_frame)

  same_machine : u.machine ≡ t.machine
  unfolding turned
  same_machine = rw steps

  pub paging_code : paged_code (write7ffd u.machine u.world.core.paging v) ≡ paged_code (write7ffd t.machine t.world.core.paging v)
  paging_code = rw (same_machine, same_paging)

  pub paging_code_lem : (k : ℕ) → k ≡ paged_code (write7ffd u.machine u.world.core.paging v) → k ≡ paged_code (write7ffd t.machine t.world.core.paging v)
  paging_code_lem k e = e ∙ paging_code

  first_part_lem : u ≡ ran_by (first_part t.machine port) t
  first_part_lem = steps ∙ rw is_first (sym (first_step t r.in_frame r.in_place port))

  module _ (x : Turn) (acts : x ≡ ran_by (paging_write u.machine v) u) where
    pub acted_ready : Ready x 1 21
    acted_ready =
        ready_paging u x 1 21 v acts
        (ready_step t u 1 21 first steps (ready_less t 2 (21 + first) 2 28 r (omega arith) (omega (arith, few))))

    module _ (last : ℕ) (is_last : last ≡ last_clocks x.machine x.world.core.paging port x.world.core.clock)
        (y : Turn) (ends : y ≡ turned (tick (last + 1)) x) where
      last_part_lem : y ≡ ran_by (and_then x.machine (last_part x.machine port) final_step) x
      last_part_lem = ends ∙ rw is_last (sym (last_final x acted_ready.in_frame acted_ready.in_place port))

      pub paging_turn : y ≡ ran_by (paged_write t.machine port v) t
      paging_turn =
          follows (first_part t.machine port) (λ m. and_then m (paging_write m v) (and_then m (last_part m port) final_step)) t u y first_part_lem
          (follows (paging_write u.machine v) (λ m. and_then m (last_part m port) final_step) u x y acts last_part_lem)

-- Who hears a port write without the bus: the extender, the AY's two classes, and nobody. They are the code's last arm. Nothing is done to the bus, and what the paging latch would answer does not count.
abbrev pub Quiet : Written → Type 0
Quiet w = (w ≡ written.Border → ⊥) × (w ≡ written.Paging → ⊥)

pub quiet_ops : (w : Written) → Quiet w → (m : ZXMachine) (v : ℕ) (c : Core) → acted_on m (hearers_of w) v c ≡ []
quiet_ops written.Extender q m v c = refl
quiet_ops written.AySelect q m v c = refl
quiet_ops written.AyWrite q m v c = refl
quiet_ops written.Border q m v c = absurd (q.0 refl)
quiet_ops written.Paging q m v c = absurd (q.1 refl)
quiet_ops written.Nothing q m v c = refl

pub quiet_same : (w : Written) → Quiet w → (n : ℕ) → heard_code (hearers_of w) 0 ≡ heard_code (hearers_of w) n
quiet_same written.Extender q n = refl
quiet_same written.AySelect q n = refl
quiet_same written.AyWrite q n = refl
quiet_same written.Border q n = refl
quiet_same written.Paging q n = absurd (q.1 refl)
quiet_same written.Nothing q n = refl

-- what the paging latch does, where it alone hears
module _ (t : Turn) (port v : ℕ) where
  pub paging_alone : ran_by (paged_write t.machine port v) t
      ≡ ran_by (and_then t.machine (first_part t.machine port) (and_then t.machine (acted_on t.machine (hearer.paging ∷ []) v) (and_then t.machine (last_part t.machine port) final_step))) t
  paging_alone =
      ap (λ (f : Part). ran_by (and_then t.machine (first_part t.machine port) (and_then t.machine f (and_then t.machine (last_part t.machine port) final_step))) t)
      (sym (acts_alone t.machine hearer.paging v))

  -- the first part leaves the 7FFD byte
  pub first_paging : Ready t 2 28 → (core_after t.machine (first_part t.machine port t.world.core) t.world.core).paging ≡ t.world.core.paging
  unfolding ran turned
  first_paging r =
      let few = first_small t.machine t.world.core.paging port t.world.core.clock in
      let first = first_clocks t.machine t.world.core.paging port t.world.core.clock in
      rw (
        ← left_core (first_part t.machine port) t _ refl,
        first_step t r.in_frame r.in_place port,
        step_paging t.machine first t.world (omega arith) r.in_frame,
      )

-- A port write by who hears it: one that the bus does not hear is all its steps at once, and the code that it gives is its own, as the border's is.
module _ (t : Turn) (d : Devices) (port v : ℕ) (w : Written) (heard : hearers_of w ≡ hearers t.machine d port) where
  by_hearer : (h : Written) → w ≡ h → (u : Turn)
      → u ≡ ran_by (and_then t.machine (first_part t.machine port) (and_then t.machine (acted_on t.machine (hearers_of h) v) (and_then t.machine (last_part t.machine port) final_step))) t
      → u ≡ ran_by (port_write t.machine d port v) t
  by_hearer h e u p = rw (← heard, e) p

  module _ (r : Ready t 2 28) (u : Turn) where
    pub quiet_write : Quiet w → u ≡ turned (tick (part_clocks t.machine t.world.core.paging port t.world.core.clock + 1)) t
        → u ≡ ran_by (port_write t.machine d port v) t
    quiet_write q p = by_hearer w refl u (p ∙ sym (quiet_step t r.in_frame r.in_place port (acted_on t.machine (hearers_of w) v) (quiet_ops w q t.machine v)))

    pub paging_write_lem : w ≡ written.Paging → u ≡ ran_by (paged_write t.machine port v) t → u ≡ ran_by (port_write t.machine d port v) t
    paging_write_lem e p = by_hearer written.Paging e u (p ∙ paging_alone t port v)

  pub quiet_code : Quiet w → (k : ℕ) → k ≡ heard_code (hearers_of w) 0 → k ≡ write_code t.machine d port v t.world.core
  unfolding write_code
  quiet_code q k e = rw (← heard) (e ∙ quiet_same w q _)

  pub border_code : w ≡ written.Border → 4 ≡ write_code t.machine d port v t.world.core
  unfolding write_code
  border_code e = rw (← heard, e)
