-- A test taken by its two cases: of `cond t x y` one shows a property by showing it of x where t holds, and of y where it does not.
-- Assumes nothing.
use Prim.Native.Nat.{ℕ, ◌≤◌, ◌<◌}
use mathlib.Core.Bool.{Bool, true, false, cond, ◌&&◌}
use mathlib.Core.Path.{◌≡◌, refl}
use native.Mathlib.Nat.{lt_of_not-le}
use native.Mathlib.Decide.{dec_le}
use lib.Dec.{ltb, leb, eqb}
use borrow.Author.Tests.{ltb-true, ltb-false, leb-true, leb-false, eqb-true, eqb-false}

pub by_bool : {A : Type 0} (P : A → Type 0) (t : Bool) {x y : A} → (t ≡ true → P x) → (t ≡ false → P y) → P (cond t x y)
by_bool P true f g = f refl
by_bool P false f g = g refl

pub by_lt : {A : Type 0} (P : A → Type 0) (a b : ℕ) {x y : A} → (a < b → P x) → (b ≤ a → P y) → P (cond (ltb a b) x y)
by_lt P a b f g = by_bool P (ltb a b) (λ e. f (ltb-true a b e)) (λ e. g (ltb-false a b e))

pub by_le : {A : Type 0} (P : A → Type 0) (a b : ℕ) {x y : A} → (a ≤ b → P x) → (b < a → P y) → P (cond (leb a b) x y)
by_le P a b f g = by_bool P (leb a b) (λ e. f (leb-true a b e)) (λ e. g (leb-false a b e))

pub by_eq : {A : Type 0} (P : A → Type 0) (a b : ℕ) {x y : A} → (a ≡ b → P x) → ((a ≡ b → ⊥) → P y) → P (cond (eqb a b) x y)
by_eq P a b f g = by_bool P (eqb a b) (λ e. f (eqb-true a b e)) (λ e. g (eqb-false a b e))

-- by whether m ≤ n
pub split : {A : Type 0} (m n : ℕ) → (m ≤ n → A) → (n < m → A) → A
split m n f g = elim (dec_le m n) [ yes h ↦ f h | no h ↦ g (lt_of_not-le h) ]

-- a test with both answers the same
pub cond_same : {A : Type 0} (t : Bool) (x : A) → cond t x x ≡ x
cond_same true x = refl
cond_same false x = refl

-- what a conjunction that holds says of its two sides
pub and_left : (a b : Bool) → (a && b) ≡ true → a ≡ true
and_left true b e = refl
and_left false b e = e

pub and_right : (a b : Bool) → (a && b) ≡ true → b ≡ true
and_right true b e = e
and_right false b e = cc

-- a conjunction holds where both sides do
pub and_both : (a b : Bool) → a ≡ true → b ≡ true → (a && b) ≡ true
and_both true true p q = refl
and_both true false p q = q
and_both false b p q = p
