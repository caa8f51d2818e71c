-- A test that passes at every number below a bound, which antt computes, one number after the other.
-- Assumes nothing.
use mathlib.Core.Path.{◌≡◌, refl, subst⁻¹}
use mathlib.Core.Bool.{Bool, true, false}
use mathlib.Core.Logic.{⊎_elim}
use Prim.Native.Nat.{ℕ, zero, suc, ◌<◌}
use native.Mathlib.Nat.{not-suc-le-zero, le_of_suc-le-suc, eq-or-lt_of_le}
use lib.Dec.{T, eqb, eqb→eq}
use Rattle.laws.specs.Tests.{both, below, agree}

pub both_left : (a b : Bool) → T (both a b) → T a
both_left true b t = tt
both_left false b t = t

pub both_right : (a b : Bool) → T (both a b) → T b
both_right true b t = t
both_right false b t = absurd t

-- a test that passes below n passes at each number below n
pub at : (f : ℕ → Bool) (n : ℕ) → T (below f n) → (k : ℕ) → k < n → T (f k)
at f zero t k h = absurd (not-suc-le-zero h)
at f (suc n) t k h =
    ⊎_elim (λ (e : k ≡ n). subst⁻¹ (λ (m : ℕ). T (f m)) e (both_left (f n) (below f n) t))
    (λ (l : k < n). at f n (both_right (f n) (below f n) t) k l)
    (eq-or-lt_of_le (le_of_suc-le-suc h))

-- two functions that agree, by a test, below n
pub same : (f g : ℕ → ℕ) (n : ℕ) → T (below (λ k. eqb (f k) (g k)) n) → (k : ℕ) → k < n → f k ≡ g k
same f g n t k h = eqb→eq (f k) (g k) (at (λ k. eqb (f k) (g k)) n t k h)

agree→eq : (a b : Bool) → T (agree a b) → a ≡ b
agree→eq true true t = refl
agree→eq true false t = absurd t
agree→eq false true t = absurd t
agree→eq false false t = refl

-- two tests that agree, by a test, below n
pub same_bool : (f g : ℕ → Bool) (n : ℕ) → T (below (λ k. agree (f k) (g k)) n) → (k : ℕ) → k < n → f k ≡ g k
same_bool f g n t k h = agree→eq (f k) (g k) (at (λ k. agree (f k) (g k)) n t k h)

-- two tests of two numbers that agree, by a test, below m and n
pub same_test : (f g : ℕ → ℕ → Bool) (m n : ℕ) → T (below (λ i. below (λ k. agree (f i k) (g i k)) n) m)
    → (i k : ℕ) → i < m → k < n → f i k ≡ g i k
same_test f g m n t i k hi hk =
    agree→eq (f i k) (g i k) (at (λ k. agree (f i k) (g i k)) n (at (λ i. below (λ k. agree (f i k) (g i k)) n) m t i hi) k hk)
