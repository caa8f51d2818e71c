-- Document 01, program `beamat`: what a line of the input means, and how the input is cut into lines. Of `heldat` too: "the rest as `beamat`"
-- (request Q-6).
-- Assumes nothing.
use Rattle.std.specs.Prelude.{ℕ, cond, ◌&&◌, List, [], ◌∷◌, ◌++◌, ltb, eqb, length, drop, Option, Some, None}
use Rattle.machine.specs.declared.ZXMachine.{ZXMachine}
use Rattle.machine.specs.declared.ZXMachine.TheVariants.{Sinclair48K, Sinclair128K}
use Rattle.machine.specs.Numbers.{specs_of}
use Rattle.beam.specs.declared.Asked.{Asked}
use Rattle.beam.specs.Decimal.{decimal, value, same_text, starts_with}

-- "48 or 128"
abbrev pub model : ZXMachine → ℕ
model Sinclair48K = 48
model Sinclair128K = 128

-- "`machine clock` (48 or 128, one space, decimal without leading zeros": what a line starts with, and a whole line
abbrev pub opening : ZXMachine → List ℕ
opening m = decimal (model m) ++ (32 ∷ [])

abbrev pub line_text : ZXMachine → ℕ → List ℕ
line_text m clock = opening m ++ decimal clock

-- a machine and a clock, as a line asks about them
abbrev pub asked : ZXMachine → ℕ → Asked
asked m t = record { machine = m; clock = t }

-- "decimal without leading zeros, below the frame": a text means a clock if it is the spelling of its own value, below the frame
unfoldable pub clock_meaning : ZXMachine → List ℕ → Option Asked
clock_meaning m text =
    cond (same_text text (decimal (value text)) && ltb (value text) (specs_of m).frame) (Some (asked m (value text))) None

abbrev pub behind : ZXMachine → List ℕ → List ℕ
behind m line = drop (length (opening m)) line

-- what a line means: a machine that it starts with, and the clock behind that. proofs/Means.antt shows that a line means m and t exactly when it
-- is `line_text m t` with t below the frame (`means_in`, `means_out`).
unfoldable pub line_meaning : List ℕ → Option Asked
line_meaning line =
    cond (starts_with (opening Sinclair48K) line) (clock_meaning Sinclair48K (behind Sinclair48K line))
    (cond (starts_with (opening Sinclair128K) line) (clock_meaning Sinclair128K (behind Sinclair128K line)) None)

-- a byte in front of the first of the lines behind it
abbrev pub in_front : ℕ → List (List ℕ) → List (List ℕ)
in_front b [] = (b ∷ []) ∷ []
in_front b (line ∷ lines) = (b ∷ line) ∷ lines

-- the lines of a text: each ends at its newline (10) or with the text; "a final newline starts no further line". proofs/Lines.antt shows that lines
-- put together with their newlines are cut into the same lines again.
unfoldable pub lines_of : List ℕ → List (List ℕ)
lines_of [] = []
lines_of (b ∷ bs) = cond (eqb b 10) ([] ∷ lines_of bs) (in_front b (lines_of bs))
