-- Document 01, program `beamat`, and request Q-6, program `heldat`: the whole report of an input, and what `report` answers.
-- Assumes nothing.
use Rattle.std.specs.Prelude.{ℕ, ◌+◌, ◌*◌, cond, List, [], ◌∷◌, ◌++◌, ltb, leb, length, drop, Result, Ok, Err}
use Rattle.beam.specs.declared.Question.{Question}
use Rattle.beam.specs.declared.Question.TheVariants.{Beam, Held}
use Rattle.beam.specs.declared.NoRoom.{NoRoom}
use Rattle.beam.specs.Meaning.{line_meaning, lines_of}
use Rattle.beam.specs.Printed.{line_report}

-- "ULB beam 1", or "the title `ULB held 1`", and a newline
abbrev pub title : Question → List ℕ
title Beam = 85 ∷ 76 ∷ 66 ∷ 32 ∷ 98 ∷ 101 ∷ 97 ∷ 109 ∷ 32 ∷ 49 ∷ 10 ∷ []
title Held = 85 ∷ 76 ∷ 66 ∷ 32 ∷ 104 ∷ 101 ∷ 108 ∷ 100 ∷ 32 ∷ 49 ∷ 10 ∷ []

-- "! long", and a newline
abbrev pub long : List ℕ
long = 33 ∷ 32 ∷ 108 ∷ 111 ∷ 110 ∷ 103 ∷ 10 ∷ []

-- what is printed for each of the lines, of which the first has the given number
unfoldable pub lines_report : Question → ℕ → List (List ℕ) → List ℕ
lines_report question number [] = []
lines_report question number (line ∷ lines) = line_report question number (line_meaning line) ++ lines_report question (number + 1) lines

-- "at most 65,536 bytes, else only `! long`"; "a bad line's number, from 1"; "bad lines, `! long` and the rest as `beamat`"
unfoldable pub report_of : Question → List ℕ → List ℕ
report_of question input = cond (ltb 65536 (length input)) long (title question ++ lines_report question 1 (lines_of input))

-- the room that `report` asks for; proofs/Room.antt shows that it is enough
abbrev pub room : Question → List ℕ → ℕ
room question input = cond (ltb 65536 (length input)) (length long) (length (title question) + 8 * length input)

-- what `report` answers, and what it leaves in the list that it was lent: the report, and behind it what was there
unfoldable pub reported : Question → List ℕ → List ℕ → Result ℕ NoRoom
reported question input out = cond (leb (room question input) (length out)) (Ok (length (report_of question input))) (Err (record {}))

unfoldable pub reported_into : Question → List ℕ → List ℕ → List ℕ
reported_into question input out =
    cond (leb (room question input) (length out)) (report_of question input ++ drop (length (report_of question input)) out) out
