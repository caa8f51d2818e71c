-- The four ways out of `report`: what it answers and leaves is what the definition says.
-- Assumes nothing.
use Prim.Native.Nat.{ℕ, ◌+◌, ◌*◌, ◌<◌, ◌≤◌}
use mathlib.Core.Path.{◌≡◌, ap, ◌∙◌}
use mathlib.Core.List.{List, ◌++◌}
use native.Mathlib.Nat.{zero-add}
use native.Mathlib.Omega.{arith}
use borrow.Author.Tests.{lt-ltb, le-ltb, le-leb, lt-leb}
use lib.ListN.{length, drop, length-append}
use lib.Seq.{sets, sets-eq}
use Rattle.laws.proofs.Cases.{split}
use Rattle.beam.specs.declared.Question.{Question}
use Rattle.std.specs.Prelude.{Result, Ok, Err}
use Rattle.beam.specs.declared.NoRoom.{NoRoom}
use Rattle.beam.specs.Meaning.{lines_of}
use Rattle.beam.specs.Whole.{title, long, lines_report, report_of, room, reported, reported_into}
use Rattle.beam.specs.Inner.{Put}
use Rattle.beam.proofs.Runs.{put_then}
use Rattle.beam.proofs.Room.{title_length, room_enough, room_small}

-- what was put from the start on stands there, and the rest as it was
written : (out bytes : List ℕ) → length bytes ≤ length out → sets out 0 bytes ≡ bytes ++ drop (length bytes) out
written out bytes h =
    sets-eq bytes out 0 (rw zero-add h) ∙ ap (λ (k : ℕ). bytes ++ drop k out) (zero-add (length bytes))

abbrev Right : Question → List ℕ → List ℕ → Result ℕ NoRoom → List ℕ → Type 0
Right question input out answer after = (answer ≡ reported question input out) × (after ≡ reported_into question input out)

module _ (question : Question) (input out : List ℕ) where
  full : length out < room question input → Right question input out (Err (record {})) out
  unfolding reported reported_into
  full h = (rw (lt-leb (room question input) (length out) h), rw (lt-leb (room question input) (length out) h))

  done : (r : ℕ) (after : List ℕ) → room question input ≤ length out → Put out 0 (report_of question input) r after → Right question input out (Ok r) after
  unfolding reported reported_into
  done r after h f =
      let e = le-leb (room question input) (length out) h in
      let n : r ≡ length (report_of question input) = f.moved ∙ zero-add (length (report_of question input)) in (
        rw (e, n),
        rw e (f.written ∙ written out (report_of question input) (omega (arith, room_enough question input))),
      )

  module _ (h : 65536 < length input) where
    pub long_full : length out < 7 → Right question input out (Err (record {})) out
    long_full k = full (rw (lt-ltb 65536 (length input) h) k)

    pub long_done : 7 ≤ length out → (r : ℕ) (after : List ℕ) → Put out 0 long r after → Right question input out (Ok r) after
    unfolding report_of
    long_done k r after f =
        let e = lt-ltb 65536 (length input) h in
        done r after (rw e k) (rw e f)

  module _ (h : length input ≤ 65536) where
    pub short_full : length out < 11 + 8 * length input → Right question input out (Err (record {})) out
    short_full k = full (rw (le-ltb 65536 (length input) h, title_length question) k)

    pub short_done : 11 + 8 * length input ≤ length out → (p r : ℕ) (middle after : List ℕ)
        → Put out 0 (title question) p middle → Put middle p (lines_report question 1 (lines_of input)) r after → Right question input out (Ok r) after
    unfolding report_of
    short_done k p r middle after f g =
        let e = le-ltb 65536 (length input) h in
        done r after (rw (e, title_length question) k) (rw e (put_then f g))

module _ (question : Question) (input out : List ℕ) where
  -- what a caller may take of the list after an answer `Ok k`: its first k bytes
  pub done_fits : (after : List ℕ) (k : ℕ) → Ok k ≡ reported question input out → after ≡ reported_into question input out → k ≤ length after
  unfolding reported reported_into
  done_fits after k e f =
      split (room question input) (length out)
      (λ h. let t = le-leb (room question input) (length out) h in
      let d : Ok k ≡ Ok (length (report_of question input)) = rw t at e in
      let n : k ≡ length (report_of question input) = cc in
      omega (arith, ap length (rw t at f), length-append (report_of question input) (drop (length (report_of question input)) out)))
      (λ h. let d : Ok k ≡ Err (record {}) = rw (lt-leb (room question input) (length out) h) at e in
      let z : ◌≡◌ {A = ℕ} 0 1 = cc in absurd (omega arith))

  -- a program that looks at no more than 65,537 bytes of its input and lends 524,299 bytes never hears that there is no room
  pub always_room : length input ≤ 65537 → 524299 ≤ length out → Err (record {}) ≡ reported question input out → ⊥
  unfolding reported
  always_room h k e =
      let t = le-leb (room question input) (length out) (omega (arith, room_small question input h)) in
      let d : ◌≡◌ {A = Result ℕ NoRoom} (Err (record {})) (Ok (length (report_of question input))) = rw t at e in
      let z : ◌≡◌ {A = ℕ} 0 1 = cc in omega arith
