-- Document 01: the five address helpers and `ZXColor::from_bits`, as C calls them.
-- Assumes nothing.
use Rattle.std.specs.Prelude.{ℕ, cond, List, length, Option, Some, None}
use Rattle.screen.specs.declared.ZXColor.{ZXColor}
use Rattle.screen.specs.Address.{line_address, line_at, column_at, attribute_row, attribute_column}
use Rattle.screen.specs.Colour.{from_bits, colour_number}
use Rattle.judgement.specs.declared.Refusal.TheVariants.{BadLength, BadNumber}
use Rattle.judgement.specs.Refusals.{refusal_number}
use Rattle.judgement.specs.Judges.{number_fits}
use Rattle.judgement.specs.Answers.{number_answer, refused_answer, number_length}
use Rattle.contracts.specs.Plain.{Told, told}

-- 01's number and values for each case of a helper's answer. "other lengths", then 8: "a helper's number outside its range"
abbrev pub help : Option ℕ → List ℕ → Told
help (Some n) answer = told 0 (number_answer n)
help None answer = told (refusal_number BadNumber) (refused_answer number_length (refusal_number BadNumber) answer)

unfoldable pub helper_call : Option ℕ → List ℕ → Told
helper_call h answer = cond (number_fits (length answer)) (help h answer) (told (refusal_number BadLength) answer)

-- a colour is given by its number
abbrev pub colour_helped : Option ZXColor → Option ℕ
colour_helped (Some c) = Some (colour_number c)
colour_helped None = None

abbrev pub bitmap_line_addr : ℕ → List ℕ → Told
bitmap_line_addr n answer = helper_call (line_address n) answer

abbrev pub bitmap_line_rel : ℕ → List ℕ → Told
bitmap_line_rel n answer = helper_call (line_at n) answer

abbrev pub bitmap_col_rel : ℕ → List ℕ → Told
bitmap_col_rel n answer = helper_call (column_at n) answer

abbrev pub attr_row_rel : ℕ → List ℕ → Told
attr_row_rel n answer = helper_call (attribute_row n) answer

abbrev pub attr_col_rel : ℕ → List ℕ → Told
attr_col_rel n answer = helper_call (attribute_column n) answer

abbrev pub color_from_bits : ℕ → List ℕ → Told
color_from_bits n answer = helper_call (colour_helped (from_bits n)) answer
