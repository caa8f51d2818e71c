-- The laws of `each`, the Rust's `for i in from..from + n`.
-- Assumes nothing.
use mathlib.Core.Path.{◌≡◌, refl, ◌∙◌, sym, ap}
use Prim.Native.Nat.{ℕ, zero, suc, ◌+◌, ◌<◌}
use native.Mathlib.Nat.{add-zero}
use native.Mathlib.Omega.{arith}
use Rattle.rustzx.specs.Panics.{each}

-- An empty range does nothing.
pub each_none : {A : Type 0} (from : ℕ) (f : ℕ → A → A) (a : A) → each from 0 f a ≡ a
unfolding each
each_none from f a = refl

-- The first round comes first ..
pub each_first : {A : Type 0} (from n : ℕ) (f : ℕ → A → A) (a : A) → each from (suc n) f a ≡ each (suc from) n f (f from a)
unfolding each
each_first from n f a = refl

-- .. and the last one last.
pub each_last : {A : Type 0} (from n : ℕ) (f : ℕ → A → A) (a : A) → each from (suc n) f a ≡ f (from + n) (each from n f a)
unfolding each
each_last from zero f a = rw add-zero
each_last from (suc n) f a = let e : from + suc n ≡ suc from + n = omega arith in rw e (each_last (suc from) n f (f from a))

-- What holds before the first round, and is carried by each round, holds after the last.
pub each_keeps : {A : Type 0} (P : ℕ → A → Type 0) (from n : ℕ) (f : ℕ → A → A) (a : A)
    → ((k : ℕ) (x : A) → k < n → P k x → P (suc k) (f (from + k) x)) → P 0 a → P n (each from n f a)
unfolding each
each_keeps P from zero f a h p = p
each_keeps P from (suc n) f a h p =
    rw (each_last from n f a) (h n (each from n f a) (omega arith) (each_keeps P from n f a (λ k x l. h k x (omega arith)) p))

-- Two loops whose rounds do the same do the same.
pub each_same : {A : Type 0} (from n : ℕ) (f g : ℕ → A → A) (a : A) → ((k : ℕ) (x : A) → k < n → f (from + k) x ≡ g (from + k) x)
    → each from n f a ≡ each from n g a
unfolding each
each_same from zero f g a h = refl
each_same from (suc n) f g a h =
    each_last from n f a ∙ h n (each from n f a) (omega arith)
    ∙ ap (g (from + n)) (each_same from n f g a (λ k x l. h k x (omega arith))) ∙ sym (each_last from n g a)
