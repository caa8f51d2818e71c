-- What a call asks before its first step is enough for all of them: each step takes its clocks from what is asked.
-- Assumes nothing.
use Prim.Native.Nat.{ℕ, ◌+◌, ◌-◌, ◌*◌, ◌^◌, ◌<◌, ◌≤◌}
use mathlib.Core.Path.{◌≡◌, refl, ◌∙◌}
use mathlib.Core.Bool.{Bool, true, false}
use mathlib.Core.List.{List}
use native.Mathlib.Omega.{arith}
use borrow.Author.Rules.{rules}
use lib.ListN.{length}
use Rattle.record.specs.Record.{last_frame}
use Rattle.laws.proofs.Cases.{split, by_bool}
use Rattle.machine.specs.declared.ZXMachine.{ZXMachine}
use Rattle.machine.specs.declared.ZXMachine.TheVariants.{Sinclair48K, Sinclair128K}
use Rattle.machine.specs.declared.BorderPixel.{BorderPixel}
use Rattle.std.specs.Prelude.{Option, Some, None}
use Rattle.machine.specs.Numbers.{specs_of}
use Rattle.machine.specs.Timing.{border_at}
use Rattle.machine.proofs.Bounds.{position_small}
use Rattle.machine.proofs.Numbered.{regular}
use Rattle.memory.specs.declared.Paged.{Paged}
use Rattle.memory.specs.declared.Paged.TheVariants as paging
use Rattle.memory.specs.Memory.{ram_page}
use Rattle.memory.specs.Paging.{write7ffd}
use Rattle.paint.proofs.Painting.{length_paint}
use Rattle.border.specs.Edge.{Edge, inked, inked_at, finished}
use Rattle.border.proofs.Fills.{length_filled}
use Rattle.bus.specs.World.{Screen}
use Rattle.bus.specs.Time.{Look, paged, tick, silent, caught_up, in_core, in_screen, in_edge}
use Rattle.bus.specs.Turns.{Turn, turned, ran, clocks_of, blocks_of, ran_by}
use Rattle.bus.specs.Calls.{paging_ops, paging_write}
use Rattle.bus.specs.Clocks.{inked_at_clock}
use Rattle.steps.specs.Turned.{Ready}
use Rattle.steps.proofs.CodeStep.{on_tick, over_tick, tick_on, tick_over}

-- every operation keeps the lengths
caught_a_long : (l : Look) (shows-a : Bool) (s : Screen) → length (caught_up l shows-a s).a ≡ length s.a
unfolding caught_up
caught_a_long l true s = refl
caught_a_long l false s = length_paint (ram_page l.page l.ram) l.flash s.painted (l.at - s.painted) s.a

caught_b_long : (l : Look) (shows-a : Bool) (s : Screen) → length (caught_up l shows-a s).b ≡ length s.b
unfolding caught_up
caught_b_long l true s = length_paint (ram_page l.page l.ram) l.flash s.painted (l.at - s.painted) s.b
caught_b_long l false s = refl

-- a catch-up paints up to its position
caught_place : (l : Look) (shows-a : Bool) (s : Screen) → (caught_up l shows-a s).painted ≤ l.at
unfolding caught_up
caught_place l shows-a s = omega arith

finished_long : (e : Edge) → length (finished e).pixels ≡ length e.pixels
unfolding finished
finished_long e =
    by_bool (λ (p : List ℕ). length p ≡ length e.pixels) e.blocked (λ _. refl) (λ _. length_filled (2 * e.pairs) 76800 e.colour e.pixels)

inked_at_long : (place : Option BorderPixel) (k : ℕ) (e : Edge) → length (inked_at place k e).pixels ≡ length e.pixels
unfolding inked_at
inked_at_long (Some p) k e = length_filled (2 * e.pairs) (320 * p.line + p.pixel) e.colour e.pixels
inked_at_long None k e = length_filled (2 * e.pairs) 76800 e.colour e.pixels

inked_long : (place : Option BorderPixel) (k : ℕ) (e : Edge) → length (inked place k e).pixels ≡ length e.pixels
unfolding inked
inked_long place k e = by_bool (λ (x : Edge). length x.pixels ≡ length e.pixels) e.blocked (λ _. refl) (λ _. inked_at_long place k e)

-- time goes on by a step's clocks also where the step closes a frame
later : (m : ZXMachine) (passed clock n c all : ℕ) → passed * (specs_of m).frame + clock + all < (last_frame + 1) * (specs_of m).frame → n + c ≤ all
    → (specs_of m).frame ≤ clock + n → (passed + 1) * (specs_of m).frame + (clock + n - (specs_of m).frame) + c < (last_frame + 1) * (specs_of m).frame
later Sinclair48K passed clock n c all h l k = omega arith
later Sinclair128K passed clock n c all h l k = omega arith

-- a step of n clocks takes one step and n clocks of what was asked
module _ (t : Turn) (s c k all n : ℕ) (r : Ready t k all) (one : s + 1 ≤ k) (few : n + c ≤ all) where
  ready_on : t.world.core.clock + n < (specs_of t.machine).frame → Ready (on_tick t n) s c
  ready_on h =
      let p = position_small (specs_of t.machine) (t.world.core.clock + n) in
      record {
        ram_fits = r.ram_fits;
        a_fits = caught_a_long _ _ _ ∙ r.a_fits;
        b_fits = caught_b_long _ _ _ ∙ r.b_fits;
        border_fits = r.border_fits;
        phase_fits = r.phase_fits;
        in_frame = h;
        in_place = caught_place _ _ _;
        short = omega (arith, r.short);
        time = omega (arith, r.time);
        clocks_fit = omega (arith, r.clocks_fit);
        blocks_fit = omega (arith, r.blocks_fit);
      }

  ready_over : (specs_of t.machine).frame ≤ t.world.core.clock + n → Ready (over_tick t n) s c
  ready_over h =
      let p = position_small (specs_of t.machine) (t.world.core.clock + n) in
      record {
        ram_fits = r.ram_fits;
        a_fits = caught_a_long _ _ _ ∙ r.a_fits;
        b_fits = caught_b_long _ _ _ ∙ r.b_fits;
        border_fits = finished_long _ ∙ r.border_fits;
        phase_fits = omega arith;
        in_frame = omega (arith, r.short, r.in_frame);
        in_place = omega arith;
        short = omega (arith, r.short);
        time = later t.machine t.world.core.passed t.world.core.clock n c all r.time few h;
        clocks_fit = omega (arith, r.clocks_fit);
        blocks_fit = omega (arith, r.blocks_fit);
      }

  pub ready_tick : Ready (turned (tick n) t) s c
  ready_tick =
      split (specs_of t.machine).frame (t.world.core.clock + n)
      (λ h. rw (tick_over t n h) (ready_over h))
      (λ h. rw (tick_on t n h) (ready_on h))

-- a frame is short
pub frame_small : (m : ZXMachine) → (specs_of m).frame < 2 ^ 17
frame_small m = (regular m).short

-- less may be asked
pub ready_less : (t : Turn) (s c k all : ℕ) → Ready t k all → s ≤ k → c ≤ all → Ready t s c
ready_less t s c k all r l m = search rules

-- one step of a port call takes at most what is asked for the whole of it
pub ready_call : (t : Turn) (n : ℕ) → Ready t 2 28 → n ≤ 28 → Ready t 1 n
ready_call t n r few = ready_less t 1 n 2 28 r (omega arith) few

-- a border write, at any clock, and a 7FFD write that is taken ask nothing
pub ready_inked : (t : Turn) (s c clock k : ℕ) → Ready t s c → Ready (inked_at_clock clock k t) s c
ready_inked t s c clock k r =
    let border = inked_long (border_at (specs_of t.machine) clock) k t.world.edge in
    search rules

ready_paged : (t : Turn) (s c v : ℕ) → Ready t s c → Ready (turned (silent (paged v)) t) s c
unfolding turned in_core in_screen in_edge clocks_of blocks_of
ready_paged t s c v r = search rules

-- a 7FFD write, whatever becomes of it
repaged_ready : (p : Paged) (t : Turn) (s c : ℕ) → Ready t s c → Ready (ran (paging_ops p) t) s c
unfolding ran
repaged_ready paging.Absent t s c r = r
repaged_ready paging.Locked t s c r = r
repaged_ready (paging.Taken v) t s c r = ready_paged t s c v r

pub ready_paging : (t u : Turn) (s c v : ℕ) → u ≡ ran_by (paging_write t.machine v) t → Ready t s c → Ready u s c
ready_paging t u s c v e r =
    rw e (repaged_ready (write7ffd t.machine t.world.core.paging v) t s c r)

-- what a step leaves is ready for the steps that follow
pub ready_step : (t u : Turn) (s c n : ℕ) → u ≡ turned (tick n) t → Ready t (s + 1) (c + n) → Ready u s c
ready_step t u s c n e r =
    rw e (ready_tick t s c (s + 1) (c + n) n r (omega arith) (omega arith))
