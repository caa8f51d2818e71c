-- No port call takes under 4 or over 16 clocks, on either machine, whatever its write does in between.
-- Why 16: where a delay is due, waiting it out leads to place 6 of the pattern's eight, so that an access one clock later finds none. Of the
-- four accesses that a call makes at most, two neighbours come to 6 clocks of delay at the most, and so the call to 6 + 6 + 4.
-- Assumes nothing.
use mathlib.Core.Path.{◌≡◌, refl, ap, ◌∙◌}
use mathlib.Core.List.{List, [], ◌∷◌, ◌++◌}
use Prim.Native.Nat.{ℕ, ◌+◌, ◌%◌, ◌<◌, ◌≤◌}
use native.Mathlib.Nat.{suc-mul, mul-le-mul_right}
use native.Mathlib.Decide.{dec_lt}
use native.Mathlib.Omega.{arith}
use Rattle.laws.proofs.Cases.{by_bool}
use Rattle.machine.specs.declared.ZXMachine.{ZXMachine}
use Rattle.machine.specs.declared.ZXMachine.TheVariants.{Sinclair48K}
use Rattle.machine.specs.declared.ZXSpecs.{ZXSpecs}
use Rattle.machine.specs.declared.Delay.{Delay}
use Rattle.machine.specs.Numbers.{specs_of, Regular}
use Rattle.machine.specs.Timing.{delay_in_line, delay_at, clocks_held, delay}
use Rattle.machine.specs.Why.{InPicture}
use Rattle.machine.specs.Contended.{port_contended}
use Rattle.machine.proofs.Numbered.{regular}
use Rattle.machine.proofs.Why.{by_why, number_in}
use Rattle.machine.proofs.Bounds.{delay_small}
use Rattle.memory.specs.declared.Paged.{Paged}
use Rattle.memory.specs.declared.Paged.TheVariants as paging
use Rattle.memory.specs.Paging.{write7ffd}
use Rattle.ports.specs.declared.Devices.{Devices}
use Rattle.ports.specs.Hearers as hearer
use Rattle.ports.specs.Hearers.{Hearer, hearers}
use Rattle.bus.specs.World.{Core, World}
use Rattle.bus.specs.Time.{Stall, free, due, lasts, Op, step, tick, in_core}
use Rattle.bus.specs.Turns.{clocks_of, turned, ran, core_after, fresh, and_then, ran_by}
use Rattle.bus.specs.Calls.{contended, plain_wait, delayed, address_wait, first_part, last_part, final_step, read_before, port_read, paging_ops, acts, acted_on, port_write}
use Rattle.bus.proofs.OneStep.{goes_on_if, core_goes}
use Rattle.bus.proofs.Runs.{core_append, clocks_in, clocks_append, clocks_then, fresh_clocks}

-- ---- delays

module _ (s : ZXSpecs) (g : Regular s) (t : ℕ) where
  -- where a delay is due, the clock lies in the picture, and the delay leads to place 6 of the pattern
  record Due (d : ℕ) : Type 0 where
    line : ℕ
    x : ℕ
    inside : InPicture s t line x
    ends : d + x % 8 ≡ 6

  is_due : 0 < delay s t → Due (delay s t)
  is_due =
      by_why s g.wide t (λ (d : Delay). 0 < clocks_held d → Due (clocks_held d))
      (λ line x i p. record { line = line; x = x; inside = i; ends = omega arith })
      (λ n p. absurd (omega arith))

module _ (s : ZXSpecs) (g : Regular s) where
  -- AFTER A DELAY AND ONE CLOCK NONE IS DUE.
  pub next_free : (t : ℕ) → 0 < delay s t → delay s (t + delay s t + 1) ≡ 0
  next_free t p =
      let d = is_due s g t p in
      let i = d.inside in
      let seven : (d.x + delay s t + 1) % 8 ≡ 7 = omega (arith, d.ends) in
      number_in s g.wide (t + delay s t + 1) d.line (d.x + delay s t + 1)
      (record { lines = i.lines; clocks = omega (arith, i.clocks, d.ends); at = omega (arith, i.at) })
      ∙ omega arith

  -- Two delays with one clock between them come to 6 at the most.
  pub pair_small : (t u : ℕ) → (0 < delay s t → u ≡ t + delay s t + 1) → delay s t + delay s u ≤ 6
  pair_small t u e =
      elim (dec_lt 0 (delay s t)) [
        | yes p ↦ rw (e p) (omega (arith, next_free t p, delay_small s t))
        | no q ↦ omega (arith, delay_small s u)
      ]

  -- A delay and one clock more end within the frame: the last contended line has clocks to spare.
  pub due_inside : (t : ℕ) → 0 < delay s t → t + delay s t + 1 < s.frame
  due_inside t p =
      let d = is_due s g t p in
      let i = d.inside in
      omega (arith, i.at, i.clocks, d.ends, g.wide, g.held_in_frame, mul-le-mul_right s.line i.lines, suc-mul d.line s.line)

-- ---- parts

module _ (m : ZXMachine) where
  -- a step that stays within the frame
  pub stays : (h : Stall) (n : ℕ) (c : Core) → c.clock + lasts h n < (specs_of m).frame → (in_core m (step h n) c).clock ≡ c.clock + lasts h n
  unfolding in_core
  stays h n c k = ap (λ (r : Core). r.clock) (core_goes m (lasts h n) c (goes_on_if m (lasts h n) c k))

  -- A wait of n clocks at an address takes n clocks, and up to 6 more where its page is contended.
  pub wait_clocks : (addr n : ℕ) (c : Core) → (n ≤ clocks_in (address_wait m addr n c)) × (clocks_in (address_wait m addr n c) ≤ n + 6)
  unfolding and_then delayed clocks_in clocks_of
  wait_clocks addr n c =
      by_bool (λ (os : List Op). (n ≤ clocks_in (os ++ (tick n ∷ []))) × (clocks_in (os ++ (tick n ∷ [])) ≤ n + 6)) (contended m addr c)
      (λ e. let d = delay_small (specs_of m) c.clock in (omega arith, omega arith))
      (λ e. (omega arith, omega arith))

  -- the first part takes at least its one clock; with the delay that is due behind it, it takes at most 7
  first_small : (port : ℕ) (c : Core)
      → clocks_in (first_part m port c) + delay (specs_of m) (core_after m (first_part m port c) c).clock ≤ 7
  unfolding and_then delayed clocks_in clocks_of core_after
  first_small port c =
      let s = specs_of m in
      by_bool (λ (os : List Op). clocks_in (os ++ (tick 1 ∷ [])) + delay s (core_after m (os ++ (tick 1 ∷ [])) c).clock ≤ 7) (contended m port c)
      (λ e.
      let c₁ = in_core m (step (due (delay_at s c.clock)) 0) c in
      omega (
        arith,
        pair_small s (regular m) c.clock (in_core m (tick 1) c₁).clock
            (λ p.
            let i = due_inside s (regular m) c.clock p in
            let f = stays (due (delay_at s c.clock)) 0 c (omega arith) in
            let g = stays free 1 c₁ (omega arith) in
            omega arith),
      ))
      (λ e. omega (arith, delay_small s (in_core m (tick 1) c).clock))

  -- the last part takes at least 2 clocks and at most 8 more than the delay that is due: an even port and one that is not contended take 2
  -- after it; an odd port at a contended address takes 2 and two delays more, with one clock between these
  last_small : (port : ℕ) (c : Core)
      → (2 ≤ clocks_in (last_part m port c)) × (clocks_in (last_part m port c) ≤ delay (specs_of m) c.clock + 8)
  unfolding last_part and_then clocks_in clocks_of core_after
  last_small port c =
      let s = specs_of m in
      let P : List Op → Type 0 = λ os. (2 ≤ clocks_in os) × (clocks_in os ≤ delay s c.clock + 8) in
      by_bool P (port_contended m port) (λ e. (omega arith, omega arith))
      (λ e. by_bool P (contended m port c)
      (λ f.
      let c₁ = in_core m (step (due (delay_at s c.clock)) 1) c in
      let c₂ = in_core m (step (due (delay_at s c₁.clock)) 1) c₁ in
      let two =
      pair_small s (regular m) c₁.clock c₂.clock
      (λ p.
      let i = due_inside s (regular m) c₁.clock p in
      let g = stays (due (delay_at s c₁.clock)) 1 c₁ (omega arith) in
      omega arith) in
      (omega arith, omega arith))
      (λ f. (omega arith, omega arith)))

  -- what a write does between the parts takes no clock
  abbrev NoTime : List Op → Core → Type 0
  NoTime os c = (clocks_in os ≡ 0) × ((core_after m os c).clock ≡ c.clock)

  repaged_still : (p : Paged) (c : Core) → NoTime (paging_ops p) c
  unfolding clocks_in clocks_of core_after in_core
  repaged_still paging.Absent c = (refl, refl)
  repaged_still paging.Locked c = (refl, refl)
  repaged_still (paging.Taken v) c = (refl, refl)

  acts_still : (h : Hearer) (v : ℕ) (c : Core) → NoTime (acts m h v c) c
  unfolding clocks_in clocks_of core_after in_core
  acts_still hearer.extender v c = (refl, refl)
  acts_still hearer.ay_select v c = (refl, refl)
  acts_still hearer.ay_write v c = (refl, refl)
  acts_still hearer.border v c = (refl, refl)
  acts_still hearer.paging v c = repaged_still (write7ffd m c.paging v) c

  pub acted_still : (hs : List Hearer) (v : ℕ) (c : Core) → NoTime (acted_on m hs v c) c
  unfolding clocks_in core_after
  acted_still [] v c = (refl, refl)
  acted_still (h ∷ hs) v c =
      let os = acts m h v c in
      let c₁ = core_after m os c in
      let ps = acted_on m hs v c₁ in
      let x = acts_still h v c in
      let y = acted_still hs v c₁ in
      (omega (arith, clocks_append os ps, x.0, y.0), ap (λ (r : Core). r.clock) (core_append m os ps c) ∙ y.1 ∙ x.1)

  -- the final step
  pub final_clock : (c : Core) → clocks_in (final_step c) ≡ 1
  unfolding clocks_in clocks_of
  final_clock c = omega arith

  pub read_small : (port : ℕ) (c : Core) → (4 ≤ clocks_in (port_read m port c)) × (clocks_in (port_read m port c) ≤ 16)
  read_small port c =
      let c₁ = core_after m (first_part m port c) c in
      let c₂ = core_after m (read_before m port c) c in
      let sum : clocks_in (port_read m port c) ≡ clocks_in (first_part m port c) + clocks_in (last_part m port c₁) + 1 =
      clocks_then m (read_before m port) final_step c ∙ rw (clocks_then m (first_part m port) (last_part m port) c, final_clock c₂) in
      let low = wait_clocks port 1 c in
      let first = first_small port c in
      let last = last_small port c₁ in
      rw sum (omega arith, omega arith)

  pub write_small : (d : Devices) (port v : ℕ) (c : Core) → (4 ≤ clocks_in (port_write m d port v c)) × (clocks_in (port_write m d port v c) ≤ 16)
  write_small d port v c =
      let acts = acted_on m (hearers m d port) v in
      let rest = and_then m (last_part m port) final_step in
      let c₁ = core_after m (first_part m port c) c in
      let c₂ = core_after m (acts c₁) c₁ in
      let still = acted_still (hearers m d port) v c₁ in
      let sum : clocks_in (port_write m d port v c) ≡ clocks_in (first_part m port c) + (0 + (clocks_in (last_part m port c₂) + 1)) =
      clocks_then m (first_part m port) (and_then m acts rest) c
      ∙ rw (clocks_then m acts rest c₁, clocks_then m (last_part m port) final_step c₂, still.0, final_clock (core_after m (last_part m port c₂) c₂)) in
      let low = wait_clocks port 1 c in
      let first = first_small port c in
      let last = last_small port c₂ in
      let same = ap (delay (specs_of m)) still.1 in
      rw sum (omega arith, omega arith)

-- ---- calls

module _ (m : ZXMachine) (w : World) where
  -- DEMAND 3: NO PORT CALL TAKES UNDER 4 OR OVER 16 CLOCKS, as it reports them.
  pub port_read_clocks : (port : ℕ)
      → (4 ≤ (ran_by (port_read m port) (fresh m w)).clocks) × ((ran_by (port_read m port) (fresh m w)).clocks ≤ 16)
  port_read_clocks port = rw (fresh_clocks (port_read m port w.core) m w) (read_small m port w.core)

  pub port_write_clocks : (d : Devices) (port v : ℕ)
      → (4 ≤ (ran_by (port_write m d port v) (fresh m w)).clocks) × ((ran_by (port_write m d port v) (fresh m w)).clocks ≤ 16)
  port_write_clocks d port v = rw (fresh_clocks (port_write m d port v w.core) m w) (write_small m d port v w.core)

  -- A plain wait reports its n clocks, and a wait at an address those and at most 6 more.
  pub plain_wait_clocks : (n : ℕ) → (ran_by (plain_wait n) (fresh m w)).clocks ≡ n
  unfolding ran turned clocks_of
  plain_wait_clocks n = omega arith

  pub address_wait_clocks : (addr n : ℕ)
      → (n ≤ (ran_by (address_wait m addr n) (fresh m w)).clocks) × ((ran_by (address_wait m addr n) (fresh m w)).clocks ≤ n + 6)
  address_wait_clocks addr n = rw (fresh_clocks (address_wait m addr n w.core) m w) (wait_clocks m addr n w.core)

-- ---- the table's case

core_at : ℕ → Core → Core
core_at t c = record { clock = t; passed = c.passed; phase = c.phase; paging = c.paging; reported = c.reported; ram = c.ram }

computed : (c : Core) → clocks_in (port_read Sinclair48K 0x40FF (core_at 14335 c)) ≡ 16
unfolding core_at and_then delayed last_part core_after in_core clocks_in clocks_of delay_at delay_in_line
computed c = refl

-- Port 40FFh read at clock 14,335 on 48K takes 16 clocks, whatever else is held: the most that any port call takes.
pub case_40_f_fh : (w : World) → w.core.clock ≡ 14335 → (ran_by (port_read Sinclair48K 0x40FF) (fresh Sinclair48K w)).clocks ≡ 16
unfolding core_at
case_40_f_fh w e =
    fresh_clocks (port_read Sinclair48K 0x40FF w.core) Sinclair48K w
    ∙ ap (λ (t : ℕ). clocks_in (port_read Sinclair48K 0x40FF (core_at t w.core))) e
    ∙ computed w.core
