-- SOUNDNESS IS KEPT: no operation leads out of the sound records, so that refusal 3 is never met by one whose record the bus wrote itself.
-- Assumes nothing.
use mathlib.Core.Path.{◌≡◌, refl, sym, ◌∙◌, subst}
use mathlib.Core.Bool.{Bool, true, false, false≢true}
use mathlib.Core.List.{List, [], ◌∷◌}
use Prim.Native.Nat.{ℕ, ◌+◌, ◌*◌, ◌<◌, ◌≤◌}
use native.Mathlib.Omega.{arith}
use mathlib.Core.Logic.{⊎_elim}
use borrow.Author.Tests.{leb-true, le-leb}
use Rattle.laws.proofs.Cases.{by_bool}
use Rattle.machine.specs.declared.ZXMachine.{ZXMachine}
use Rattle.machine.specs.declared.ZXMachine.TheVariants.{Sinclair48K, Sinclair128K}
use Rattle.machine.specs.declared.BorderPixel.{BorderPixel}
use Rattle.std.specs.Prelude.{Option, Some, None}
use Rattle.machine.specs.Numbers.{specs_of}
use Rattle.machine.specs.Timing.{border_at, place_position, is_frame_end, frame_end}
use Rattle.machine.proofs.Numbered.{regular}
use Rattle.machine.proofs.Rising.{border_mono, end_is}
use Rattle.record.specs.Sound.{Sound}
use Rattle.record.specs.Record.{start_record, HasRoom}
use Rattle.record.proofs.Soundness.{sound_facts, start_sound}
use Rattle.border.specs.Edge.{Edge, inked, inked_at, finished}
use Rattle.bus.specs.World.{World, bus_of, started}
use Rattle.bus.specs.Time.{store, paged, unpass, lasts, Op, step, tick, colour, silent, closes, caught_up, in_core, in_screen, in_edge, does, world_after}
use Rattle.bus.specs.Turns.{clocks_of, fresh, Part, ran_by}
use Rattle.bus.proofs.OneStep.{frame_long, closes_at, goes_on_at, core_closed, core_goes, screen_closed, screen_goes, edge_closed, edge_goes, op_moves}
use Rattle.bus.proofs.Runs.{clocks_in, ran_world}
use Rattle.bus.proofs.TimedCalls.{InCall, AllInCall, TimedPart}

-- A world is sound if its state record is: document 01's clauses, one by one, as crate `record` has them.
abbrev pub SoundWorld : ZXMachine → World → Type 0
SoundWorld m w = Sound (bus_of m w)

-- What each operation brings must be in range: "reported border 0..7"; a 7FFD byte, taken on 128K only.
abbrev pub InRange : ZXMachine → Op → Type 0
InRange m (step h n) = Unit {0}
InRange m (colour k) = k < 8
InRange m (silent (paged v)) = (v < 256) × (m ≡ Sinclair128K)
InRange m (silent (store at bytes)) = Unit {0}
InRange m (silent unpass) = Unit {0}

never_48 : (m : ZXMachine) → m ≡ Sinclair128K → m ≡ Sinclair48K → ⊥
never_48 m p q = let z : ◌≡◌ {A = ℕ} 0 1 = cc in omega arith

module _ (m : ZXMachine) where
  -- once the border is at its end, it is there for the rest of the frame
  end_stays : (t t' : ℕ) → t ≤ t' → frame_end (specs_of m) t ≡ true → frame_end (specs_of m) t' ≡ true
  end_stays t t' h e =
      let s = specs_of m in
      let last = s.border + 239 * s.line + 160 in
      let w = (regular m).wide in
      let k = leb-true last t (sym (end_is s w t) ∙ e) in
      end_is s w t' ∙ le-leb last t' (omega arith)

  tick_kept : (n : ℕ) (w : World) (b : Bool) → closes m n w.core ≡ b → SoundWorld m w
      → w.core.clock + n < 2 * (specs_of m).frame
      → ((specs_of m).frame ≤ w.core.clock + n → HasRoom w.core.passed)
      → SoundWorld m (does m (tick n) w)
  unfolding caught_up finished
  tick_kept n w true e s short room =
      let at = closes_at m n w.core e in
      let more = room at in
      rw (core_closed m n w.core e, screen_closed m n w.core w.screen e, edge_closed m n w.core w.edge e)
      (record {
        passed = omega arith;
        phase = omega arith;
        paging = s.paging;
        reported = s.reported;
        colour = s.colour;
        clock = omega arith;
        painted = omega arith;
        pairs = omega arith;
        at_end = λ f. absurd (false≢true f);
        no_pairs = λ f. absurd (false≢true f);
        unpaged = s.unpaged;
      })
  tick_kept n w false e s short room =
      let at = goes_on_at m n w.core e in
      rw (core_goes m n w.core e, screen_goes m n w.core w.screen e, edge_goes m n w.core w.edge e)
      (record {
        passed = s.passed;
        phase = s.phase;
        paging = s.paging;
        reported = s.reported;
        colour = s.colour;
        clock = at;
        painted = omega arith;
        pairs = omega (arith, s.pairs, border_mono (specs_of m) (regular m).wide w.core.clock (w.core.clock + n) (omega arith));
        at_end = λ f. end_stays w.core.clock (w.core.clock + n) (omega arith) (s.at_end f);
        no_pairs = s.no_pairs;
        unpaged = s.unpaged;
      })

  -- the beam after a border write at a place: in the new colour, at or before that place, and blocked only at frame end, with pairs 0
  record InPlace (place : Option BorderPixel) (k : ℕ) (e : Edge) : Type 0 where
    colour : e.colour ≡ k
    pairs : 2 * e.pairs ≤ place_position place
    at_end : e.blocked ≡ true → is_frame_end place ≡ true
    no_pairs : e.blocked ≡ true → e.pairs ≡ 0

  open_kept : (place : Option BorderPixel) (k : ℕ) (e : Edge) → InPlace place k (inked_at place k e)
  unfolding inked_at
  open_kept (Some p) k e =
      record { colour = refl; pairs = omega arith; at_end = λ f. absurd (false≢true f); no_pairs = λ f. absurd (false≢true f) }
  open_kept None k e = record { colour = refl; pairs = omega arith; at_end = λ f. refl; no_pairs = λ f. refl }

  ink_kept : (k : ℕ) (w : World) → SoundWorld m w → InPlace (border_at (specs_of m) w.core.clock) k (in_edge m (colour k) w.core w.edge)
  unfolding in_edge inked
  ink_kept k w s =
      let place = border_at (specs_of m) w.core.clock in
      by_bool (InPlace place k) w.edge.blocked
      (λ f. record { colour = refl; pairs = s.pairs; at_end = s.at_end; no_pairs = s.no_pairs })
      (λ f. open_kept place k w.edge)

  -- passed frames' reset keeps all else
  pub unpass_kept : (w : World) → SoundWorld m w → SoundWorld m (does m (silent unpass) w)
  unfolding in_core in_screen in_edge
  unpass_kept w s =
      record {
        passed = omega arith;
        phase = s.phase;
        paging = s.paging;
        reported = s.reported;
        colour = s.colour;
        clock = s.clock;
        painted = s.painted;
        pairs = s.pairs;
        at_end = s.at_end;
        no_pairs = s.no_pairs;
        unpaged = s.unpaged;
      }

  -- EVERY OPERATION KEEPS SOUNDNESS: one in range, on a sound world, where the clock stays below two frames and passed frames have room
  -- for the frame that it may close.
  pub op_kept : (o : Op) (w : World) → SoundWorld m w → InRange m o
      → w.core.clock + clocks_of o < 2 * (specs_of m).frame
      → ((specs_of m).frame ≤ w.core.clock + clocks_of o → HasRoom w.core.passed)
      → SoundWorld m (does m o w)
  unfolding clocks_of in_core in_screen in_edge
  op_kept (step h n) w s r short room = tick_kept (lasts h n) w (closes m (lasts h n) w.core) refl s short room
  op_kept (colour k) w s r short room =
      let i = ink_kept k w s in
      record {
        passed = s.passed;
        phase = s.phase;
        paging = s.paging;
        reported = r;
        colour = omega (arith, i.colour);
        clock = s.clock;
        painted = s.painted;
        pairs = i.pairs;
        at_end = i.at_end;
        no_pairs = i.no_pairs;
        unpaged = s.unpaged;
      }
  op_kept (silent (paged v)) w s r short room =
      record {
        passed = s.passed;
        phase = s.phase;
        paging = r.0;
        reported = s.reported;
        colour = s.colour;
        clock = s.clock;
        painted = s.painted;
        pairs = s.pairs;
        at_end = s.at_end;
        no_pairs = s.no_pairs;
        unpaged = λ f. absurd (never_48 m r.1 f);
      }
  op_kept (silent (store at bytes)) w s r short room = s
  op_kept (silent unpass) w s r short room = unpass_kept w s

  -- the same of operations one after the other
  abbrev pub AllInRange : List Op → Type 0
  AllInRange [] = Unit {0}
  AllInRange (o ∷ os) = InRange m o × AllInRange os

  -- A RUN KEEPS SOUNDNESS where its clocks end below two frames, so that it closes at most one, and passed frames have room for that one.
  pub run_kept : (os : List Op) (w : World) → SoundWorld m w → AllInRange os
      → w.core.clock + clocks_in os < 2 * (specs_of m).frame
      → ((specs_of m).frame ≤ w.core.clock + clocks_in os → HasRoom w.core.passed)
      → SoundWorld m (world_after m os w)
  unfolding clocks_in world_after
  run_kept [] w s r short room = s
  run_kept (o ∷ os) w s r short room =
      let s' = op_kept o w s r.0 (omega arith) (λ h. room (omega arith)) in
      ⊎_elim
      (λ (p : ((in_core m o w.core).clock ≡ w.core.clock + clocks_of o) × ((in_core m o w.core).passed ≤ w.core.passed)).
      run_kept os (does m o w) s' r.1 (omega arith) (λ h. let k = room (omega arith) in omega arith))
      (λ (p : ((specs_of m).frame ≤ w.core.clock + clocks_of o) × ((in_core m o w.core).clock + (specs_of m).frame ≡ w.core.clock + clocks_of o)).
      run_kept os (does m o w) s' r.1 (omega arith) (λ h. omega arith))
      (op_moves m o w.core)

-- The world that a start leaves is sound, whichever of the eight colours is its first.
pub started_sound : (m : ZXMachine) (first : ℕ) → first < 8 → SoundWorld m (started m first)
started_sound m first h = sound_facts (start_record m first) (start_sound m first h)

-- ---- calls

in_range_lem : (m : ZXMachine) (o : Op) → InCall m o → InRange m o
in_range_lem m (step h n) i = i
in_range_lem m (colour k) i = i
in_range_lem m (silent (paged v)) i = i
in_range_lem m (silent (store at bytes)) i = absurd i
in_range_lem m (silent unpass) i = absurd i

all_in_range : (m : ZXMachine) (os : List Op) → AllInCall m os → AllInRange m os
all_in_range m [] i = tt
all_in_range m (o ∷ os) i = (in_range_lem m o i.0, all_in_range m os i.1)

-- EVERY CALL KEEPS SOUNDNESS: a plain wait, a wait at an address, a port read and a port write (TimedCalls has the four as timed parts), on a
-- sound world below refusal 6, leaves a sound world.
pub call_kept : (m : ZXMachine) (f : Part) → TimedPart m f → (w : World) → SoundWorld m w → HasRoom w.core.passed
    → SoundWorld m (ran_by f (fresh m w)).world
call_kept m f t w s room =
    let b = t.brief w.core in
    let l = frame_long m in
    let k = s.clock in
    subst (SoundWorld m) (sym (ran_world (f w.core) (fresh m w)))
    (run_kept m (f w.core) w s (all_in_range m (f w.core) (t.in_call w.core)) (omega arith) (λ h. omega arith))
