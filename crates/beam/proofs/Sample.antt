-- Document 01's sample, computed: the report of its four lines is the text that it prints. The same of what `heldat` is run on.
-- Assumes nothing.
use Prim.Native.Nat.{ℕ}
use mathlib.Core.Path.{◌≡◌, refl}
use mathlib.Core.List.{List, [], ◌∷◌}
use Rattle.machine.specs.Timing.{delay_in_line, delay_at, blocks_capped, blocks_from, blocks_at, border_capped, border_from, border_at}
use Rattle.beam.specs.declared.Question.TheVariants.{Beam, Held}
use Rattle.beam.specs.Decimal.{digits, decimal, value_from, same_text, starts_with}
use Rattle.beam.specs.Meaning.{clock_meaning, line_meaning, lines_of}
use Rattle.beam.specs.Printed.{fields, spaced}
use Rattle.beam.specs.Whole.{lines_report, report_of}

abbrev pub sample_input : List ℕ
sample_input =
    -- 48 0
    52 ∷ 56 ∷ 32 ∷ 48 ∷ 10 ∷
    -- 48 14335
    52 ∷ 56 ∷ 32 ∷ 49 ∷ 52 ∷ 51 ∷ 51 ∷ 53 ∷ 10 ∷
    -- 48 62641
    52 ∷ 56 ∷ 32 ∷ 54 ∷ 50 ∷ 54 ∷ 52 ∷ 49 ∷ 10 ∷
    -- 48 69888
    52 ∷ 56 ∷ 32 ∷ 54 ∷ 57 ∷ 56 ∷ 56 ∷ 56 ∷ 10 ∷
    []

abbrev pub sample_report : List ℕ
sample_report =
    -- ULB beam 1
    85 ∷ 76 ∷ 66 ∷ 32 ∷ 98 ∷ 101 ∷ 97 ∷ 109 ∷ 32 ∷ 49 ∷ 10 ∷
    -- 48 0 0 0 0 0 0 0 1
    52 ∷ 56 ∷ 32 ∷ 48 ∷ 32 ∷ 48 ∷ 32 ∷ 48 ∷ 32 ∷ 48 ∷ 32 ∷ 48 ∷ 32 ∷ 48 ∷ 32 ∷ 48 ∷ 32 ∷ 49 ∷ 10 ∷
    -- 48 14335 6 0 0 24 30 0 0
    52 ∷ 56 ∷ 32 ∷ 49 ∷ 52 ∷ 51 ∷ 51 ∷ 53 ∷ 32 ∷ 54 ∷ 32 ∷ 48 ∷ 32 ∷ 48 ∷ 32 ∷ 50 ∷ 52 ∷ 32 ∷ 51 ∷ 48 ∷ 32 ∷ 48 ∷ 32 ∷ 48 ∷ 10 ∷
    -- 48 62641 0 192 0 0 0 1 0
    52 ∷ 56 ∷ 32 ∷ 54 ∷ 50 ∷ 54 ∷ 52 ∷ 49 ∷ 32 ∷ 48 ∷ 32 ∷ 49 ∷ 57 ∷ 50 ∷ 32 ∷ 48 ∷ 32 ∷ 48 ∷ 32 ∷ 48 ∷ 32 ∷ 49 ∷ 32 ∷ 48 ∷ 10 ∷
    -- ? 4
    63 ∷ 32 ∷ 52 ∷ 10 ∷
    []

pub sample : report_of Beam sample_input ≡ sample_report
unfolding delay_in_line delay_at blocks_capped blocks_from blocks_at border_capped border_from border_at digits decimal value_from same_text starts_with clock_meaning line_meaning lines_of fields spaced lines_report report_of
sample = refl

abbrev pub held_input : List ℕ
held_input =
    -- 48 14334
    52 ∷ 56 ∷ 32 ∷ 49 ∷ 52 ∷ 51 ∷ 51 ∷ 52 ∷ 10 ∷
    -- 48 14335
    52 ∷ 56 ∷ 32 ∷ 49 ∷ 52 ∷ 51 ∷ 51 ∷ 53 ∷ 10 ∷
    -- 48 14462
    52 ∷ 56 ∷ 32 ∷ 49 ∷ 52 ∷ 52 ∷ 54 ∷ 50 ∷ 10 ∷
    -- 48 14463
    52 ∷ 56 ∷ 32 ∷ 49 ∷ 52 ∷ 52 ∷ 54 ∷ 51 ∷ 10 ∷
    -- 48 57244
    52 ∷ 56 ∷ 32 ∷ 53 ∷ 55 ∷ 50 ∷ 52 ∷ 52 ∷ 10 ∷
    -- 48 57247
    52 ∷ 56 ∷ 32 ∷ 53 ∷ 55 ∷ 50 ∷ 52 ∷ 55 ∷ 10 ∷
    -- 128 14360
    49 ∷ 50 ∷ 56 ∷ 32 ∷ 49 ∷ 52 ∷ 51 ∷ 54 ∷ 48 ∷ 10 ∷
    -- 128 14361
    49 ∷ 50 ∷ 56 ∷ 32 ∷ 49 ∷ 52 ∷ 51 ∷ 54 ∷ 49 ∷ 10 ∷
    -- 128 14488
    49 ∷ 50 ∷ 56 ∷ 32 ∷ 49 ∷ 52 ∷ 52 ∷ 56 ∷ 56 ∷ 10 ∷
    -- 128 14489
    49 ∷ 50 ∷ 56 ∷ 32 ∷ 49 ∷ 52 ∷ 52 ∷ 56 ∷ 57 ∷ 10 ∷
    -- 128 58034
    49 ∷ 50 ∷ 56 ∷ 32 ∷ 53 ∷ 56 ∷ 48 ∷ 51 ∷ 52 ∷ 10 ∷
    -- 128 58037
    49 ∷ 50 ∷ 56 ∷ 32 ∷ 53 ∷ 56 ∷ 48 ∷ 51 ∷ 55 ∷ 10 ∷
    -- 48 69888
    52 ∷ 56 ∷ 32 ∷ 54 ∷ 57 ∷ 56 ∷ 56 ∷ 56 ∷ 10 ∷
    []

abbrev pub held_report : List ℕ
held_report =
    -- ULB held 1
    85 ∷ 76 ∷ 66 ∷ 32 ∷ 104 ∷ 101 ∷ 108 ∷ 100 ∷ 32 ∷ 49 ∷ 10 ∷
    -- 48 14334 outside
    52 ∷ 56 ∷ 32 ∷ 49 ∷ 52 ∷ 51 ∷ 51 ∷ 52 ∷ 32 ∷ 111 ∷ 117 ∷ 116 ∷ 115 ∷ 105 ∷ 100 ∷ 101 ∷ 10 ∷
    -- 48 14335 0 0 0 6
    52 ∷ 56 ∷ 32 ∷ 49 ∷ 52 ∷ 51 ∷ 51 ∷ 53 ∷ 32 ∷ 48 ∷ 32 ∷ 48 ∷ 32 ∷ 48 ∷ 32 ∷ 54 ∷ 10 ∷
    -- 48 14462 0 127 30 0
    52 ∷ 56 ∷ 32 ∷ 49 ∷ 52 ∷ 52 ∷ 54 ∷ 50 ∷ 32 ∷ 48 ∷ 32 ∷ 49 ∷ 50 ∷ 55 ∷ 32 ∷ 51 ∷ 48 ∷ 32 ∷ 48 ∷ 10 ∷
    -- 48 14463 outside
    52 ∷ 56 ∷ 32 ∷ 49 ∷ 52 ∷ 52 ∷ 54 ∷ 51 ∷ 32 ∷ 111 ∷ 117 ∷ 116 ∷ 115 ∷ 105 ∷ 100 ∷ 101 ∷ 10 ∷
    -- 48 57244 191 125 30 1
    52 ∷ 56 ∷ 32 ∷ 53 ∷ 55 ∷ 50 ∷ 52 ∷ 52 ∷ 32 ∷ 49 ∷ 57 ∷ 49 ∷ 32 ∷ 49 ∷ 50 ∷ 53 ∷ 32 ∷ 51 ∷ 48 ∷ 32 ∷ 49 ∷ 10 ∷
    -- 48 57247 outside
    52 ∷ 56 ∷ 32 ∷ 53 ∷ 55 ∷ 50 ∷ 52 ∷ 55 ∷ 32 ∷ 111 ∷ 117 ∷ 116 ∷ 115 ∷ 105 ∷ 100 ∷ 101 ∷ 10 ∷
    -- 128 14360 outside
    49 ∷ 50 ∷ 56 ∷ 32 ∷ 49 ∷ 52 ∷ 51 ∷ 54 ∷ 48 ∷ 32 ∷ 111 ∷ 117 ∷ 116 ∷ 115 ∷ 105 ∷ 100 ∷ 101 ∷ 10 ∷
    -- 128 14361 0 0 0 6
    49 ∷ 50 ∷ 56 ∷ 32 ∷ 49 ∷ 52 ∷ 51 ∷ 54 ∷ 49 ∷ 32 ∷ 48 ∷ 32 ∷ 48 ∷ 32 ∷ 48 ∷ 32 ∷ 54 ∷ 10 ∷
    -- 128 14488 0 127 30 0
    49 ∷ 50 ∷ 56 ∷ 32 ∷ 49 ∷ 52 ∷ 52 ∷ 56 ∷ 56 ∷ 32 ∷ 48 ∷ 32 ∷ 49 ∷ 50 ∷ 55 ∷ 32 ∷ 51 ∷ 48 ∷ 32 ∷ 48 ∷ 10 ∷
    -- 128 14489 outside
    49 ∷ 50 ∷ 56 ∷ 32 ∷ 49 ∷ 52 ∷ 52 ∷ 56 ∷ 57 ∷ 32 ∷ 111 ∷ 117 ∷ 116 ∷ 115 ∷ 105 ∷ 100 ∷ 101 ∷ 10 ∷
    -- 128 58034 191 125 30 1
    49 ∷ 50 ∷ 56 ∷ 32 ∷ 53 ∷ 56 ∷ 48 ∷ 51 ∷ 52 ∷ 32 ∷ 49 ∷ 57 ∷ 49 ∷ 32 ∷ 49 ∷ 50 ∷ 53 ∷ 32 ∷ 51 ∷ 48 ∷ 32 ∷ 49 ∷ 10 ∷
    -- 128 58037 outside
    49 ∷ 50 ∷ 56 ∷ 32 ∷ 53 ∷ 56 ∷ 48 ∷ 51 ∷ 55 ∷ 32 ∷ 111 ∷ 117 ∷ 116 ∷ 115 ∷ 105 ∷ 100 ∷ 101 ∷ 10 ∷
    -- ? 13
    63 ∷ 32 ∷ 49 ∷ 51 ∷ 10 ∷
    []

pub held_sample : report_of Held held_input ≡ held_report
unfolding delay_in_line delay_at digits decimal value_from same_text starts_with clock_meaning line_meaning lines_of spaced lines_report report_of
held_sample = refl
