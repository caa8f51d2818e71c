-- Document 01, "Bus calls" and "Eight refusals": the bytes of the answers.
-- Assumes nothing.
use Rattle.std.specs.Prelude.{ℕ, ◌-◌, Bool, cond, List, [], ◌∷◌, ◌++◌, eqb, length, replicate, Result, Ok, Err}
use Rattle.record.specs.Words.{bytes16, bytes32}
use Rattle.record.specs.Record.{flag_byte}
use Rattle.judgement.specs.declared.Refusal.{Refusal}
use Rattle.judgement.specs.Refusals.{refusal_number}

-- "a 10-byte answer", "a 5-byte answer"
abbrev pub timed_length : ℕ
timed_length = 10

abbrev pub number_length : ℕ
number_length = 5

-- "Timed calls .. fill a 10-byte answer: refusal; value or code (0 for a wait); frame closed 0/1; interrupt after the call; clocks (32);
-- blocks painted (16), little-endian."
abbrev pub timed_answer : ℕ → Bool → Bool → ℕ → ℕ → List ℕ
timed_answer value closed interrupt clocks blocks =
    (0 ∷ value ∷ flag_byte closed ∷ flag_byte interrupt ∷ []) ++ bytes32 clocks ++ bytes16 blocks

-- "Other calls with a number to give fill a 5-byte answer: refusal, number (32)."
abbrev pub number_answer : ℕ → List ℕ
number_answer n = (0 ∷ []) ++ bytes32 n

-- "A refused call fills its answer with its number and then zeros (untouched if the answer's length is wrong)"
unfoldable pub refused_answer : ℕ → ℕ → List ℕ → List ℕ
refused_answer size refusal answer = cond (eqb (length answer) size) (refusal ∷ replicate (size - 1) 0) answer

-- what a call with a number to give returns, "its refusal number, 0 if accepted", and its answer
abbrev pub told_code : Result ℕ Refusal → ℕ
told_code (Err e) = refusal_number e
told_code (Ok n) = 0

abbrev pub told_answer : Result ℕ Refusal → List ℕ → List ℕ
told_answer (Err e) answer = refused_answer number_length (refusal_number e) answer
told_answer (Ok n) answer = number_answer n
