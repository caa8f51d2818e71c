-- Document 01, program `beamat`, and request Q-6, program `heldat`: what is printed for a line of the input.
-- Assumes nothing.
use Rattle.std.specs.Prelude.{ℕ, Bool, cond, List, [], ◌∷◌, ◌++◌, Option, Some, None}
use Rattle.machine.specs.declared.ZXMachine.{ZXMachine}
use Rattle.machine.specs.declared.Delay.{Delay}
use Rattle.machine.specs.declared.Delay.TheVariants.{Held, Outside}
use Rattle.machine.specs.declared.BorderPixel.{BorderPixel}
use Rattle.machine.specs.Numbers.{specs_of}
use Rattle.machine.specs.Timing.{delay_at, delay, first_column, blocks_at, border_at, frame_end, interrupt}
use Rattle.beam.specs.declared.Question.{Question}
use Rattle.beam.specs.declared.Question.TheVariants as asks
use Rattle.beam.specs.declared.Asked.{Asked}
use Rattle.beam.specs.Decimal.{decimal}
use Rattle.beam.specs.Meaning.{model}

-- "border line and pixel (0 0 at frame end)"
abbrev pub border_line : Option BorderPixel → ℕ
border_line (Some p) = p.line
border_line None = 0

abbrev pub border_pixel : Option BorderPixel → ℕ
border_pixel (Some p) = p.pixel
border_pixel None = 0

abbrev pub flag : Bool → ℕ
flag on = cond on 1 0

-- "Fields: machine, clock, delay, block line and column, border line and pixel (0 0 at frame end), frame end, interrupt.": those behind the machine
unfoldable pub fields : ZXMachine → ℕ → List ℕ
fields m clock =
    clock
    ∷ delay (specs_of m) clock
    ∷ (blocks_at (specs_of m) clock).lines
    ∷ (blocks_at (specs_of m) clock).columns
    ∷ border_line (border_at (specs_of m) clock)
    ∷ border_pixel (border_at (specs_of m) clock)
    ∷ flag (frame_end (specs_of m) clock)
    ∷ flag (interrupt clock)
    ∷ []

-- numbers, each behind a space, and a newline
unfoldable pub spaced : List ℕ → List ℕ
spaced [] = 10 ∷ []
spaced (n ∷ ns) = 32 ∷ (decimal n ++ spaced ns)

-- " outside", and a newline
abbrev pub outside : List ℕ
outside = 32 ∷ 111 ∷ 117 ∷ 116 ∷ 115 ∷ 105 ∷ 100 ∷ 101 ∷ 10 ∷ []

-- "`machine clock outside` or `machine clock line x column clocks` with the first column of the pair": those behind the machine
abbrev pub held_line : ℕ → Delay → List ℕ
held_line clock (Held line x clocks) = spaced (clock ∷ line ∷ x ∷ first_column x ∷ clocks ∷ [])
held_line clock Outside = 32 ∷ (decimal clock ++ outside)

-- what is answered behind the machine: `beamat`'s fields, or `heldat`'s
abbrev pub answer_to : Question → ZXMachine → ℕ → List ℕ
answer_to asks.Beam m clock = spaced (fields m clock)
answer_to asks.Held m clock = held_line clock (delay_at (specs_of m) clock)

-- "prints .. for each line its fields"; "`?` gives a bad line's number": the bytes 63 and 32, the number, and a newline; "bad lines .. as `beamat`"
abbrev pub line_report : Question → ℕ → Option Asked → List ℕ
line_report question number (Some asked) = decimal (model asked.machine) ++ answer_to question asked.machine asked.clock
line_report question number None = 63 ∷ 32 ∷ (decimal number ++ (10 ∷ []))
