-- The test of a record's soundness says exactly the facts of specs/Sound, one for each clause of document 01.
-- Assumes nothing.
use Prim.Native.Nat.{ℕ, ◌/◌, ◌≤◌, ◌<◌}
use mathlib.Core.Path.{◌≡◌, refl}
use mathlib.Core.Bool.{Bool, true, false, not, ◌&&◌, ◌||◌, false≢true}
use mathlib.Core.List.{List, [], ◌∷◌}
use native.Mathlib.Omega.{arith}
use borrow.Author.Tests.{ltb-true, leb-true, eqb-true, lt-ltb, le-leb, eq-eqb}
use lib.Dec.{ltb, leb, eqb}
use Rattle.laws.proofs.Cases.{and_left, and_right, and_both}
use Rattle.laws.proofs.Conjunction.{each}
use Rattle.machine.specs.declared.ZXMachine.{ZXMachine}
use Rattle.machine.specs.declared.ZXMachine.TheVariants.{Sinclair48K, Sinclair128K}
use Rattle.machine.specs.Numbers.{specs_of}
use Rattle.machine.specs.Timing.{block_position, border_position, frame_end}
use Rattle.machine.proofs.Numbered.{regular}
use Rattle.record.specs.declared.Bus.{Bus}
use Rattle.record.specs.Record.{last_frame, clock_in_frame, painted_in_place, pairs_in_place, blocked_at_end, paging_allowed, sound_bus, fresh_record, start_record}
use Rattle.record.specs.Sound.{Sound}

-- a blocked beam is at frame end, with pairs 0
blocked_end : (t e : Bool) (n : ℕ) → (not t || (e && eqb n 0)) ≡ true → t ≡ true → (e ≡ true) × (n ≡ 0)
blocked_end true e n h p = (and_left e (eqb n 0) h, eqb-true n 0 (and_right e (eqb n 0) h))
blocked_end false e n h p = absurd (false≢true p)

end_blocked : (t e : Bool) (n : ℕ) → (t ≡ true → e ≡ true) → (t ≡ true → n ≡ 0) → (not t || (e && eqb n 0)) ≡ true
end_blocked true e n f g = and_both e (eqb n 0) (f refl) (eq-eqb n 0 (g refl))
end_blocked false e n f g = refl

unpaged_if : (m : ZXMachine) (v : ℕ) → paging_allowed m v ≡ true → m ≡ Sinclair48K → v ≡ 0
unpaged_if m v h e = eqb-true v 0 (rw e at h)

allowed_if : (m : ZXMachine) (v : ℕ) → (m ≡ Sinclair48K → v ≡ 0) → paging_allowed m v ≡ true
allowed_if Sinclair48K v f = eq-eqb v 0 (f refl)
allowed_if Sinclair128K v f = refl

-- the tests of a record behind the first one, in their order
abbrev later : Bus → List Bool
later b =
    ltb b.phase 32
    ∷ ltb b.paging 256
    ∷ ltb b.reported 8
    ∷ ltb b.colour 8
    ∷ clock_in_frame b
    ∷ painted_in_place b
    ∷ pairs_in_place b
    ∷ blocked_at_end b
    ∷ paging_allowed b.machine b.paging
    ∷ []

-- What soundness gives: a record that passes the test has each of the facts.
pub sound_facts : (b : Bus) → sound_bus b ≡ true → Sound b
unfolding sound_bus
sound_facts b t =
    let s = specs_of b.machine in
    let test = each (leb b.passed last_frame) (later b) t in
    let half = leb-true b.pairs (border_position s b.clock / 2) (test 7) in
    let held = blocked_end b.blocked (frame_end s b.clock) b.pairs (test 8) in
    record {
      passed = leb-true b.passed last_frame (test 0);
      phase = ltb-true b.phase 32 (test 1);
      paging = ltb-true b.paging 256 (test 2);
      reported = ltb-true b.reported 8 (test 3);
      colour = ltb-true b.colour 8 (test 4);
      clock = ltb-true b.clock s.frame (test 5);
      painted = leb-true b.painted (block_position s b.clock) (test 6);
      pairs = omega (arith, half);
      at_end = λ p. (held p).0;
      no_pairs = λ p. (held p).1;
      unpaged = unpaged_if b.machine b.paging (test 9);
    }

-- And nothing else is asked: a record with these facts passes the test.
pub facts_sound : (b : Bus) → Sound b → sound_bus b ≡ true
unfolding sound_bus
facts_sound b f =
    let s = specs_of b.machine in
    let half : b.pairs ≤ border_position s b.clock / 2 = omega (arith, f.pairs) in
    rw (
      le-leb b.passed last_frame f.passed,
      lt-ltb b.phase 32 f.phase,
      lt-ltb b.paging 256 f.paging,
      lt-ltb b.reported 8 f.reported,
      lt-ltb b.colour 8 f.colour,
      lt-ltb b.clock s.frame f.clock,
      le-leb b.painted (block_position s b.clock) f.painted,
      le-leb b.pairs (border_position s b.clock / 2) half,
      end_blocked b.blocked (frame_end s b.clock) b.pairs f.at_end f.no_pairs,
      allowed_if b.machine b.paging f.unpaged,
    )

-- A FRESH RECORD IS SOUND, on each machine, whatever it was given within its range: a 7FFD byte is 0 on 48K.
pub fresh_facts : (m : ZXMachine) (paging reported colour : ℕ) → paging < 256 → reported < 8 → colour < 8 → (m ≡ Sinclair48K → paging ≡ 0)
    → Sound (fresh_record m paging reported colour)
fresh_facts m paging reported colour p r k u =
    record {
      passed = omega arith;
      phase = omega arith;
      paging = p;
      reported = r;
      colour = k;
      clock = omega (arith, (regular m).border_in_frame);
      painted = omega arith;
      pairs = omega arith;
      at_end = λ e. absurd (false≢true e);
      no_pairs = λ e. refl;
      unpaged = u;
    }

-- so is a start's
pub start_sound : (m : ZXMachine) (colour : ℕ) → colour < 8 → sound_bus (start_record m colour) ≡ true
start_sound m colour h = facts_sound (start_record m colour) (fresh_facts m 0 0 colour (omega arith) (omega arith) h (λ e. refl))
