-- What it means that a refusal is "the first, in the stated order, of the numbered refusals whose condition holds", apart from the way in
-- which `judged` finds it; and all the causes of a call in one list, those of the record first.
-- Assumes nothing.
use Rattle.std.specs.Prelude.{ℕ, ◌≡◌, Bool, true, false, cond, not, List, [], ◌∷◌, ◌++◌, map, eqb, length, Result, Ok, Err}
use Rattle.record.specs.declared.Bus.{Bus}
use Rattle.record.specs.Record.{record_length, record_of, sound_bytes}
use Rattle.judgement.specs.declared.Refusal.{Refusal}
use Rattle.judgement.specs.declared.Refusal.TheVariants.{BadLength, Unsound}
use Rattle.judgement.specs.Refusals.{refusal_number, Cause, cause}

-- no condition holds
abbrev pub NoneHolds : List Cause → Type 0
NoneHolds [] = Unit {0}
NoneHolds (c ∷ cs) = (c.holds ≡ false) × NoneHolds cs

-- a condition with this refusal holds, and none that stands before it does
pub record FirstHolds (causes : List Cause) (e : Refusal) : Type 0 where
  pub before : List Cause
  pub this : Cause
  pub after : List Cause
  pub split : causes ≡ before ++ (this ∷ after)
  pub none_before : NoneHolds before
  pub holds : this.holds ≡ true
  pub refusal : this.refusal ≡ e

-- the causes of the record itself: "record length, 3"
abbrev pub record_causes : List ℕ → List Cause
record_causes state = cause BadLength (not (eqb (length state) record_length)) ∷ cause Unsound (not (sound_bytes state)) ∷ []

-- all the causes of a call in one list: the record's own, and then those over the record that its bytes stand for
abbrev pub all_causes : List ℕ → (Bus → List Cause) → List Cause
all_causes state causes = record_causes state ++ causes (record_of state)

-- "Order: 1, record length, 3, other lengths, 4, 5, 6, 7, 8.", 9 "after 7" (02, Q-2), and 10, "then 11 .., both after 2" (02, Q-4), which no call has
-- beside 4 to 9
abbrev pub document_order : List ℕ
document_order = 1 ∷ 2 ∷ 3 ∷ 2 ∷ 4 ∷ 5 ∷ 6 ∷ 7 ∷ 9 ∷ 8 ∷ 10 ∷ 11 ∷ []

abbrev pub numbers_of : List Cause → List ℕ
numbers_of causes = map (λ c. refusal_number c.refusal) causes

-- numbers that stand in a list in this order, with others between them or not
unfoldable pub stand_in : List ℕ → List ℕ → Bool
stand_in [] ys = true
stand_in (x ∷ xs) [] = false
stand_in (x ∷ xs) (y ∷ ys) = cond (eqb x y) (stand_in xs ys) (stand_in (x ∷ xs) ys)

-- A verdict by a list of causes: they stand in document 01's order; the call is refused by e exactly when the first of them that holds has e,
-- and accepted exactly when none holds, then with this record.
pub record Ordered (v : Result Bus Refusal) (causes : List Cause) (bus : Bus) : Type 0 where
  pub stand : stand_in (numbers_of causes) document_order ≡ true
  pub refused_by_first : (e : Refusal) → v ≡ Err e → FirstHolds causes e
  pub first_refuses : (e : Refusal) → FirstHolds causes e → v ≡ Err e
  pub accepted_by_none : (b : Bus) → v ≡ Ok b → NoneHolds causes × (b ≡ bus)
  pub none_accepts : NoneHolds causes → v ≡ Ok bus

-- The number that a call returns, by its causes: 0 exactly when none holds, and a refusal's number exactly when the first that holds has it.
pub record Numbered (code : ℕ) (causes : List Cause) : Type 0 where
  pub stand : stand_in (numbers_of causes) document_order ≡ true
  pub zero_by_none : code ≡ 0 → NoneHolds causes
  pub none_is_zero : NoneHolds causes → code ≡ 0
  pub number_by_first : (e : Refusal) → code ≡ refusal_number e → FirstHolds causes e
  pub first_is_number : (e : Refusal) → FirstHolds causes e → code ≡ refusal_number e
