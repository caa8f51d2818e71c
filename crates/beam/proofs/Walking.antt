-- The walk over the input, line by line: what is left to print, and that there is room for it.
-- Assumes nothing.
use Prim.Native.Nat.{ℕ, suc, ◌+◌, ◌-◌, ◌*◌, ◌<◌, ◌≤◌}
use mathlib.Core.Path.{◌≡◌, ap, ◌∙◌}
use mathlib.Core.List.{List, [], ◌∷◌, ◌++◌}
use native.Mathlib.Omega.{arith}
use lib.ListN.{length, take, drop, length-take, length-drop}
use Rattle.beam.specs.declared.Question.{Question}
use Rattle.beam.specs.Meaning.{line_meaning, lines_of}
use Rattle.beam.specs.Printed.{line_report}
use Rattle.beam.specs.Whole.{lines_report}
use Rattle.beam.specs.Inner.{Put}
use Rattle.beam.proofs.Runs.{Left, left_start, left_step, left_end, put_long}
use Rattle.beam.proofs.Cutting.{line_length, line_in, lines_first}
use Rattle.beam.proofs.Room.{line_room}

-- of the input `rest` is left, whose lines are still to be printed; the first of them has the given number
pub record Walk (question : Question) (input l : List ℕ) (at : ℕ) (here : List ℕ) (number next : ℕ) (rest : List ℕ) : Type 0 where
  pub counted : number + length rest ≤ length input + 1
  pub room : next + 8 * length rest ≤ length here
  pub left : Left l at (lines_report question 1 (lines_of input)) here next (lines_report question number (lines_of rest))

pub walk_start : (question : Question) (input l : List ℕ) (at : ℕ) → at + 8 * length input ≤ length l → Walk question input l at l 1 at input
walk_start question input l at h = record { counted = omega arith; room = omega arith; left = left_start l at (lines_report question 1 (lines_of input)) }

pub walk_end : (question : Question) (input l : List ℕ) (at : ℕ) (here : List ℕ) (number next : ℕ) (rest : List ℕ)
    → Walk question input l at here number next rest → length rest ≡ 0 → Put l at (lines_report question 1 (lines_of input)) next here
unfolding lines_report lines_of
walk_end question input l at here number next [] w h = left_end w.left
walk_end question input l at here number next (b ∷ rest) w h = let z : ⊥ = omega arith in absurd z

module _ (question : Question) (input l : List ℕ) (at : ℕ) (here : List ℕ) (number next : ℕ) (s line rest : List ℕ)
    (w : Walk question input l at here number next s) (b : length input ≤ 65536) (h : 0 < length s)
    (el : line ≡ take (line_length s) s) (er : rest ≡ drop (suc (line_length s)) s) where
  report_is : lines_report question number (lines_of s) ≡ line_report question number (line_meaning line) ++ lines_report question (number + 1) (lines_of rest)
  unfolding lines_report
  report_is = rw (lines_first s h, el, er)

  -- how many bytes of the input the line takes, its newline with it
  rest_long : length rest ≡ length s - suc (line_length s)
  rest_long = ap length er ∙ length-drop (suc (line_length s)) s

  line_long : length line ≤ line_length s
  line_long = rw (el, length-take) (omega arith)

  line_small : length (line_report question number (line_meaning line)) ≤ 8 * (length s - length rest)
  line_small =
      line_room question line number (length s - length rest) (omega (arith, w.counted)) (omega (arith, rest_long, line_in s))
      (omega (arith, rest_long, line_long, line_in s))

  pub walk_room : next + length (line_report question number (line_meaning line)) ≤ length here
  walk_room = omega (arith, line_small, w.room)

  pub walk_next : (here' : List ℕ) (p : ℕ) → Put here next (line_report question number (line_meaning line)) p here'
      → Walk question input l at here' (number + 1) p rest
  walk_next here' p f =
      record {
        counted = omega (arith, w.counted, rest_long);
        room = omega (arith, line_small, w.room, rest_long, f.moved, put_long f);
        left = left_step (rw report_is at w.left) f;
      }
