-- THE RANGE OF A HELPER'S NUMBER is that of its parameter's own type. It stands alone, so that an edit of it is refused for itself (must-fail/helper_number_narrower).
-- Assumes nothing.
use Prim.Native.Nat.{ℕ, ◌<◌, ◌^◌}
use contract.Lifetimes.{Lfts}
use Rattle.contracts.specs.Calls.{Helper, line_addr, line_of, column_of, attr_row_of, attr_column_of, colour_bits}
use Rattle.runs.specs.Run.{Slice, HelperAdmits}

pub help_range : (h : Helper) (κs : Lfts 1) (n : ℕ) (answer : Slice) (code : ℕ) (answer' : Slice) → HelperAdmits h κs n answer code answer' → n < 2 ^ 32
help_range line_addr κs n answer code answer' s = s.0.0.1
help_range line_of κs n answer code answer' s = s.0.0.1
help_range column_of κs n answer code answer' s = s.0.0.1
help_range attr_row_of κs n answer code answer' s = s.0.0.1
help_range attr_column_of κs n answer code answer' s = s.0.0.1
help_range colour_bits κs n answer code answer' s = s.0.0.1
