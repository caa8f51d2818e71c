-- The Rust's own language: a run ends with a value or panics, and an `assert!` that fails panics; an option; a loop.
-- Assumes nothing.
use Rattle.std.specs.Prelude.{◌≡◌, Bool, true, false, ℕ, zero, suc}

pub data OrPanic (A : Type 0) : Type 0 where
  done : A → OrPanic A
  panics : OrPanic A

-- enum Option
pub data Option (A : Type 0) : Type 0 where
  some : A → Option A
  none : Option A

-- one statement and then the next
abbrev pub on_done : {A B : Type 0} → OrPanic A → (A → OrPanic B) → OrPanic B
on_done (done a) f = f a
on_done panics f = panics

-- assert!(test)
abbrev pub assert : {A : Type 0} → Bool → OrPanic A → OrPanic A
assert true r = r
assert false r = panics

-- for i in from..from + n { .. }
unfoldable pub each : {A : Type 0} → ℕ → ℕ → (ℕ → A → A) → A → A
each from zero f a = a
each from (suc n) f a = each (suc from) n f (f from a)

-- a run that ends with a value, of which something holds
pub record Ends {A : Type 0} (r : OrPanic A) (P : A → Type 0) : Type 0 where
  pub value : A
  pub ends : r ≡ done value
  pub holds : P value
