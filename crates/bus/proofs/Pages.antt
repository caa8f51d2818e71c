-- Document 01's port calls (specs/Calls) take the clocks that the public pages' rows add up to (specs/Pages): at every clock of the frame, on
-- every port and with every 7FFD byte. They part nowhere: a call that runs past the frame's end finds no delay there by either.
-- Assumes nothing.
use mathlib.Core.Path.{◌≡◌, refl, sym, ap, ◌∙◌}
use mathlib.Core.Bool.{Bool, true, false, cond, not, ◌&&◌}
use mathlib.Core.List.{List, [], ◌∷◌}
use Prim.Native.Nat.{ℕ, ◌+◌, ◌-◌, ◌*◌, ◌/◌, ◌%◌, ◌^◌, ◌<◌}
use native.Mathlib.Omega.{arith}
use lib.Dec.{ltb}
use borrow.Author.Tests.{lt-ltb, le-ltb, le-leb, lt-leb, eqb-false}
use Rattle.laws.proofs.Cases.{by_bool, split, and_left}
use Rattle.machine.specs.declared.ZXMachine.{ZXMachine}
use Rattle.machine.specs.declared.ZXMachine.TheVariants.{Sinclair48K, Sinclair128K}
use Rattle.machine.specs.Numbers.{specs_of}
use Rattle.machine.specs.Timing.{delay_at, delay}
use Rattle.machine.specs.Contended.{port_contended}
use Rattle.machine.specs.Pages.{Page, page_of, page_delay}
use Rattle.machine.proofs.Numbered.{regular}
use Rattle.machine.proofs.Agree.{same, agree_delay}
use Rattle.machine.proofs.Bounds.{delay_small}
use Rattle.machine.proofs.Delays.{delay_left_over}
use Rattle.memory.specs.declared.Paged.{Paged}
use Rattle.memory.specs.declared.Paged.TheVariants as paging
use Rattle.memory.specs.Paging.{addr_contended, write7ffd}
use Rattle.memory.proofs.Agree.{agree_held}
use Rattle.ports.specs.declared.Devices.{Devices}
use Rattle.ports.specs.Order.{claims, has7ffd, class_c000, class8000, even_port, paging_port}
use Rattle.ports.specs.Hearers as hearer
use Rattle.ports.specs.Hearers.{Hearer, port_hearers, hearers}
use Rattle.ports.specs.Pages.{is_set}
use Rattle.ports.proofs.Agree.{read_pages}
use Rattle.bus.specs.World.{Core, World}
use Rattle.bus.specs.Time.{Stall, free, due, lasts, step, closes, in_core}
use Rattle.bus.specs.Turns.{clocks_of, core_after, fresh, Part, and_then, ran_by}
use Rattle.bus.specs.Calls.{contended, delayed, address_wait, first_part, last_part, final_step, read_before, port_read, paging_ops, acted_on, port_write}
use Rattle.bus.specs.Pages.{Cycle, C, N, high_byte_held, row_of, takes, in_frame, end_of, take_all, page_port, memory_cycle}
use Rattle.bus.proofs.OneStep.{frame_long}
use Rattle.bus.proofs.Runs.{acts_alone, clocks_in, clocks_then, fresh_clocks}
use Rattle.bus.proofs.PortClocks.{acted_still, final_clock}

-- ---- the pages' clock

-- a frame of lines, as a number over which a clock is counted anew
anew : ℕ → ℕ → ℕ
anew frame t = cond (ltb t frame) t (t - frame)

-- two steps that are shorter than the frame, or one of both
anew_twice : (frame t a b : ℕ) → t < frame → a + b < frame → anew frame (anew frame (t + a) + b) ≡ anew frame (t + (a + b))
unfolding anew
anew_twice frame t a b h g =
    split frame (t + a)
    (λ k. rw (le-ltb (t + a) frame k, lt-ltb (t + a - frame + b) frame (omega arith), le-ltb (t + (a + b)) frame (omega arith)) (omega arith))
    (λ k. let e : t + a + b ≡ t + (a + b) = omega arith in rw (lt-ltb (t + a) frame k, e))

module _ (m : ZXMachine) where
  in_frame_lem : (t : ℕ) → in_frame (page_of m) t ≡ anew (specs_of m).frame t
  unfolding in_frame anew
  in_frame_lem t = rw (same m).frame

  same_due : (t : ℕ) → page_delay (page_of m) t ≡ delay (specs_of m) t
  same_due t = agree_delay (page_of m) (specs_of m) (same m) t

  -- What is left of a call past the frame's end has no delay, counted anew or on: so the two readings of the pages there are one.
  pub past_end : (t : ℕ) → t < (specs_of m).frame + (specs_of m).contention → page_delay (page_of m) (in_frame (page_of m) t) ≡ page_delay (page_of m) t
  unfolding anew
  past_end t h =
      let s = specs_of m in
      rw (same_due t, in_frame_lem t)
      (split s.frame t
      (λ k. rw (le-ltb t s.frame k, same_due (t - s.frame)) (delay_left_over s (regular m) t k (omega arith)))
      (λ k. rw (lt-ltb t s.frame k) (same_due t)))

  -- a step moves the core's clock as the pages count
  step_clock : (k : Stall) (n : ℕ) (c : Core) → (in_core m (step k n) c).clock ≡ anew (specs_of m).frame (c.clock + lasts k n)
  unfolding in_core anew
  step_clock k n c =
      let x = c.clock + lasts k n in
      split (specs_of m).frame x
      (λ h. rw (le-leb (specs_of m).frame x h, le-ltb x (specs_of m).frame h))
      (λ h. rw (lt-leb (specs_of m).frame x h, lt-ltb x (specs_of m).frame h))

  -- and leaves the paging alone
  step_paging : (k : Stall) (n : ℕ) (c : Core) → (in_core m (step k n) c).paging ≡ c.paging
  unfolding in_core
  step_paging k n c = by_bool (λ (r : Core). r.paging ≡ c.paging) (closes m (lasts k n) c) (λ e. refl) (λ e. refl)

-- ---- a row by its first cycle and the rest, which are a call's two parts

abbrev first_of : Bool → Cycle
first_of true = C 1
first_of false = N 1

-- with the final step's one clock
abbrev rest_of : Bool → Bool → List Cycle
rest_of true true = C 3 ∷ []
rest_of false true = C 3 ∷ []
rest_of true false = C 1 ∷ C 1 ∷ C 1 ∷ []
rest_of false false = N 3 ∷ []

row_parts : (p : Page) (held reset : Bool) (t : ℕ)
    → take_all p (row_of held reset) t ≡ takes p (first_of held) t + take_all p (rest_of held reset) (end_of p (first_of held) t)
unfolding take_all
row_parts p true true t = refl
row_parts p true false t = refl
row_parts p false true t = refl
row_parts p false false t = refl

module _ (m : ZXMachine) (port : ℕ) where
  -- the first part: its clocks are the first cycle's, it leaves the clock where that ends, and the paging alone
  record First (c : Core) (held : Bool) : Type 0 where
    clocks : clocks_in (first_part m port c) ≡ takes (page_of m) (first_of held) c.clock
    clock : (core_after m (first_part m port c) c).clock ≡ end_of (page_of m) (first_of held) c.clock
    paging : (core_after m (first_part m port c) c).paging ≡ c.paging

  first_is : (c : Core) (held : Bool) → c.clock < (specs_of m).frame → contended m port c ≡ held → First c held
  unfolding and_then delayed clocks_in clocks_of core_after
  first_is c true h e =
      let s = specs_of m in
      let d = delay s c.clock in
      let c₁ = in_core m (step (due (delay_at s c.clock)) 0) c in
      let small : d + 0 + 1 < s.frame = omega (arith, delay_small s c.clock, frame_long m) in
      let one : d + 0 + 1 ≡ d + 1 = omega arith in
      record {
        clocks = rw (e, same_due m c.clock) (omega arith);
        clock =
            rw (e, same_due m c.clock, in_frame_lem m (c.clock + (d + 1)))
            (step_clock m free 1 c₁ ∙ rw (step_clock m (due (delay_at s c.clock)) 0 c, anew_twice s.frame c.clock (d + 0) 1 h small, one));
        paging = rw e (step_paging m free 1 c₁ ∙ step_paging m (due (delay_at s c.clock)) 0 c);
      }
  first_is c false h e =
      record {
        clocks = rw e (omega arith);
        clock = rw (e, in_frame_lem m (c.clock + 1)) (step_clock m free 1 c);
        paging = rw e (step_paging m free 1 c);
      }

  -- a held step is a cycle, and leaves the clock where the cycle ends
  cycle_end : (n : ℕ) (c : Core) → (in_core m (step (due (delay_at (specs_of m) c.clock)) n) c).clock ≡ end_of (page_of m) (C n) c.clock
  cycle_end n c =
      rw (same_due m c.clock, in_frame_lem m (c.clock + (delay (specs_of m) c.clock + n))) (step_clock m (due (delay_at (specs_of m) c.clock)) n c)

  -- the last part and the final step
  last_is : (c : Core) (held reset : Bool) → contended m port c ≡ held → port_contended m port ≡ reset
      → clocks_in (last_part m port c) + 1 ≡ take_all (page_of m) (rest_of held reset) c.clock
  unfolding last_part and_then clocks_in clocks_of core_after take_all
  last_is c true true e f = rw (f, same_due m c.clock) (omega arith)
  last_is c false true e f = rw (f, same_due m c.clock) (omega arith)
  last_is c true false e f =
      let s = specs_of m in
      let c₁ = in_core m (step (due (delay_at s c.clock)) 1) c in
      let c₂ = in_core m (step (due (delay_at s c₁.clock)) 1) c₁ in
      rw (f, e, ← cycle_end 1 c, ← cycle_end 1 c₁, same_due m c.clock, same_due m c₁.clock, same_due m c₂.clock) (omega arith)
  last_is c false false e f = rw (f, e)

  -- both parts, where nothing between them moves the clock or changes whether the port is contended as an address
  parts_are : (c c₂ : Core) (held reset : Bool) → c.clock < (specs_of m).frame → contended m port c ≡ held → port_contended m port ≡ reset
      → c₂.clock ≡ (core_after m (first_part m port c) c).clock → contended m port c₂ ≡ held
      → clocks_in (first_part m port c) + (clocks_in (last_part m port c₂) + 1) ≡ take_all (page_of m) (row_of held reset) c.clock
  parts_are c c₂ held reset h e f k l =
      let first = first_is c held h e in
      rw (first.clocks, last_is c₂ held reset l f, k, first.clock) (sym (row_parts (page_of m) held reset c.clock))

-- ---- what a write does between the parts: only a 7FFD write pages, and its ports lie below 8000h, where paging changes nothing

low_held : (m : ZXMachine) (byte byte' port : ℕ) → port < 0x8000 → addr_contended m byte port ≡ addr_contended m byte' port
low_held Sinclair48K byte byte' port h = refl
low_held Sinclair128K byte byte' port h =
    split 0x4000 port
    (λ k. let e : port / 16384 ≡ 1 = omega arith in rw e)
    (λ k. let e : port / 16384 ≡ 0 = omega arith in rw e)

-- A15 is reset
paging_low : (port : ℕ) → port < 65536 → paging_port port ≡ true → port < 0x8000
paging_low port h e =
    let a15 : not (is_set 15 port) ≡ true = and_left (not (is_set 15 port)) (not (is_set 1 port)) (read_pages port ∙ e) in
    let d : (port / 2 ^ 15 % 2 ≡ 1) → ⊥ = eqb-false (port / 2 ^ 15 % 2) 1 (not_true (is_set 15 port) a15) in
    split 0x8000 port (λ k. absurd (d (omega arith))) (λ k. k)
  where
    not_true : (t : Bool) → not t ≡ true → t ≡ false
    not_true true q = sym q
    not_true false q = refl

module _ (m : ZXMachine) (port v : ℕ) (h : port < 65536) (c : Core) where
  -- what the acts of the write leave of the port as an address
  abbrev Stays : List Hearer → Type 0
  Stays hs = contended m port (core_after m (acted_on m hs v c) c) ≡ contended m port c

  repaged_stays : port < 0x8000 → (q : Paged) → contended m port (core_after m (paging_ops q) c) ≡ contended m port c
  unfolding core_after in_core
  repaged_stays k paging.Absent = refl
  repaged_stays k paging.Locked = refl
  repaged_stays k (paging.Taken b) = low_held m b c.paging port k

  latch_stays : port < 0x8000 → Stays (hearer.paging ∷ [])
  latch_stays k =
      ap (λ (f : Part). contended m port (core_after m (f c) c)) (acts_alone m hearer.paging v) ∙ repaged_stays k (write7ffd m c.paging v)

  acted_stays : (d : Devices) → Stays (hearers m d port)
  unfolding port_hearers core_after in_core
  acted_stays d =
      by_bool Stays (claims d.extender) (λ e. refl)
      (λ e. by_bool Stays (class_c000 port) (λ e. refl)
      (λ e. by_bool Stays (class8000 port) (λ e. refl)
      (λ e. by_bool Stays (even_port port) (λ e. refl)
      (λ e. by_bool Stays (paging_port port && has7ffd m)
      (λ e. latch_stays (paging_low port h (and_left (paging_port port) (has7ffd m) e)))
      (λ e. refl)))))

-- ---- the theorems

module _ (m : ZXMachine) (port : ℕ) (h : port < 65536) where
  -- the first question, by the port's high byte as by the whole port
  agree_high : (byte : ℕ) → high_byte_held m byte port ≡ addr_contended m byte port
  agree_high byte =
      let e : port / 256 * 256 / 16384 ≡ port / 16384 = omega arith in
      agree_held m byte (port / 256 * 256) (omega arith) ∙ rw e

  read_is : (c : Core) → c.clock < (specs_of m).frame → clocks_in (port_read m port c) ≡ page_port m c.paging port c.clock
  read_is c k =
      let c₁ = core_after m (first_part m port c) c in
      let c₂ = core_after m (read_before m port c) c in
      let sum : clocks_in (port_read m port c) ≡ clocks_in (first_part m port c) + (clocks_in (last_part m port c₁) + 1) =
      clocks_then m (read_before m port) final_step c ∙ rw (clocks_then m (first_part m port) (last_part m port) c, final_clock m c₂) (omega arith) in
      let stays : contended m port c₁ ≡ contended m port c = ap (λ (b : ℕ). addr_contended m b port) (first_is m port c (contended m port c) k refl).paging in
      rw (agree_high c.paging) (sum ∙ parts_are m port c c₁ (contended m port c) (port_contended m port) k refl refl refl stays)

  write_is : (d : Devices) (v : ℕ) (c : Core) → c.clock < (specs_of m).frame
      → clocks_in (port_write m d port v c) ≡ page_port m c.paging port c.clock
  write_is d v c k =
      let acts = acted_on m (hearers m d port) v in
      let rest = and_then m (last_part m port) final_step in
      let c₁ = core_after m (first_part m port c) c in
      let c₂ = core_after m (acts c₁) c₁ in
      let still = acted_still m (hearers m d port) v c₁ in
      let sum : clocks_in (port_write m d port v c) ≡ clocks_in (first_part m port c) + (0 + (clocks_in (last_part m port c₂) + 1)) =
      clocks_then m (first_part m port) (and_then m acts rest) c
      ∙ rw (clocks_then m acts rest c₁, clocks_then m (last_part m port) final_step c₂, still.0, final_clock m (core_after m (last_part m port c₂) c₂)) in
      let stays : contended m port c₂ ≡ contended m port c =
      acted_stays m port v h c₁ d ∙ ap (λ (b : ℕ). addr_contended m b port) (first_is m port c (contended m port c) k refl).paging in
      rw (agree_high c.paging)
      (sum ∙ (omega arith ∙ parts_are m port c c₂ (contended m port c) (port_contended m port) k refl refl still.1 stays))

  module _ (w : World) (k : w.core.clock < (specs_of m).frame) where
    -- A PORT READ REPORTS THE CLOCKS OF THE PAGES' ROW.
    pub agree_port_read : (ran_by (port_read m port) (fresh m w)).clocks ≡ page_port m w.core.paging port w.core.clock
    agree_port_read = fresh_clocks (port_read m port w.core) m w ∙ read_is w.core k

    -- AND SO DOES A PORT WRITE, whoever hears it and whatever byte it brings.
    pub agree_port_write : (d : Devices) (v : ℕ)
        → (ran_by (port_write m d port v) (fresh m w)).clocks ≡ page_port m w.core.paging port w.core.clock
    agree_port_write d v = fresh_clocks (port_write m d port v w.core) m w ∙ write_is d v w.core k

wait_is : (m : ZXMachine) (addr n : ℕ) (c : Core) (held : Bool) → contended m addr c ≡ held
    → clocks_in (address_wait m addr n c) ≡ takes (page_of m) (cond held (C n) (N n)) c.clock
unfolding and_then delayed clocks_in clocks_of
wait_is m addr n c true e = rw (e, same_due m c.clock) (omega arith)
wait_is m addr n c false e = rw e (omega arith)

-- A WAIT AT AN ADDRESS REPORTS THE CLOCKS OF THE PAGES' CYCLE, at any clock.
pub agree_address_wait : (m : ZXMachine) (addr n : ℕ) → addr < 65536 → (w : World)
    → (ran_by (address_wait m addr n) (fresh m w)).clocks ≡ takes (page_of m) (memory_cycle m w.core.paging addr n) w.core.clock
agree_address_wait m addr n h w =
    fresh_clocks (address_wait m addr n w.core) m w
    ∙ rw (agree_held m w.core.paging addr h) (wait_is m addr n w.core (contended m addr w.core) refl)
