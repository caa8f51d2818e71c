-- Document 01, "Eight refusals", and refusals 9, 10 and 11 of document 02 (Q-2, Q-4): their numbers, and their order.
-- Assumes nothing.
use Rattle.std.specs.Prelude.{ℕ, Bool, cond, List, [], ◌∷◌, Result, Ok, Err}
use Rattle.record.specs.declared.Bus.{Bus}
use Rattle.record.specs.declared.BadRecord.{BadRecord}
use Rattle.record.specs.declared.BadRecord.TheVariants as bad
use Rattle.record.specs.Record.{held_by}
use Rattle.judgement.specs.declared.Refusal.{Refusal}
use Rattle.judgement.specs.declared.Refusal.TheVariants.{BadMachine, BadLength, Unsound, BadFlag, LongWait, FramesFull, BadPage, BadNumber, NoVideoPage, WrongSize, UnequalCopies}
use Rattle.judgement.specs.declared.Causes.{Causes}

-- the table's numbers; "9 for a page that isn't a video page" (02, Q-2); "10 when the size is not the one due", "11 for unequal copies" (02, Q-4)
abbrev pub refusal_number : Refusal → ℕ
refusal_number BadMachine = 1
refusal_number BadLength = 2
refusal_number Unsound = 3
refusal_number BadFlag = 4
refusal_number LongWait = 5
refusal_number FramesFull = 6
refusal_number BadPage = 7
refusal_number BadNumber = 8
refusal_number NoVideoPage = 9
refusal_number WrongSize = 10
refusal_number UnequalCopies = 11

-- a condition, and the refusal that is given where it holds
pub record Cause : Type 0 where
  pub holds : Bool
  pub refusal : Refusal

abbrev pub cause : Refusal → Bool → Cause
cause refusal holds = record { holds = holds; refusal = refusal }

-- "the first, in the stated order, of the numbered refusals whose condition holds; good input gets none"
unfoldable pub judged : List Cause → Bus → Result Bus Refusal
judged [] bus = Ok bus
judged (c ∷ cs) bus = cond c.holds (Err c.refusal) (judged cs bus)

-- "other lengths, 4, 5, 6, 7, 8", 9 "after 7", and 10 behind them: the code's causes behind the record, by their names, as a list
abbrev pub in_turn : Causes → List Cause
in_turn c =
    cause BadLength c.length ∷ cause BadFlag c.flag ∷ cause LongWait c.wait ∷ cause FramesFull c.frames ∷ cause BadPage c.page
    ∷ cause NoVideoPage c.video ∷ cause BadNumber c.number ∷ cause WrongSize c.size ∷ []

-- "Order: 1, record length, 3, other lengths, 4, 5, 6, 7, 8.": the record is judged before what depends on it
abbrev pub of_record : BadRecord → Refusal
of_record bad.WrongLength = BadLength
of_record bad.Unsound = Unsound

abbrev pub judged_held : Result Bus BadRecord → (Bus → List Cause) → Result Bus Refusal
judged_held (Err bad) causes = Err (of_record bad)
judged_held (Ok bus) causes = judged (causes bus) bus

abbrev pub judge : List ℕ → (Bus → List Cause) → Result Bus Refusal
judge state causes = judged_held (held_by state) causes
