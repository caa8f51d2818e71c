-- Two tests of six Bools that agree in all 64 cases, which antt computes.
-- Assumes nothing.
use mathlib.Core.Path.{◌≡◌, refl}
use mathlib.Core.Bool.{Bool, true, false, beq}
use lib.Dec.{T}
use Rattle.laws.specs.Tests.{both}
use Rattle.laws.proofs.Below.{both_left, both_right}

pub beq_refl : (a : Bool) → beq a a ≡ true
beq_refl true = refl
beq_refl false = refl

pub beq_eq : (a b : Bool) → beq a b ≡ true → a ≡ b
beq_eq true true e = refl
beq_eq true false e = cc
beq_eq false true e = cc
beq_eq false false e = refl

T-eq : (a b : Bool) → T (beq a b) → a ≡ b
T-eq true true t = refl
T-eq true false t = absurd t
T-eq false true t = absurd t
T-eq false false t = refl

abbrev all : (Bool → Bool) → Bool
all p = both (p true) (p false)

at : (p : Bool → Bool) → T (all p) → (b : Bool) → T (p b)
at p t true = both_left (p true) (p false) t
at p t false = both_right (p true) (p false) t

abbrev all₂ : (Bool → Bool → Bool) → Bool
all₂ p = all (λ a. all (p a))

at₂ : (p : Bool → Bool → Bool) → T (all₂ p) → (a b : Bool) → T (p a b)
at₂ p t a b = at (p a) (at (λ a. all (p a)) t a) b

abbrev all₄ : (Bool → Bool → Bool → Bool → Bool) → Bool
all₄ p = all₂ (λ a b. all₂ (p a b))

at₄ : (p : Bool → Bool → Bool → Bool → Bool) → T (all₄ p) → (a b c d : Bool) → T (p a b c d)
at₄ p t a b c d = at₂ (p a b) (at₂ (λ a b. all₂ (p a b)) t a b) c d

abbrev Six : Type 0
Six = Bool → Bool → Bool → Bool → Bool → Bool → Bool

pub same_six : (f g : Six) → T (all₂ (λ a b. all₄ (λ c d e h. beq (f a b c d e h) (g a b c d e h)))) → (a b c d e h : Bool) → f a b c d e h ≡ g a b c d e h
same_six f g t a b c d e h =
    T-eq (f a b c d e h) (g a b c d e h)
    (at₄ (λ c d e h. beq (f a b c d e h) (g a b c d e h))
    (at₂ (λ a b. all₄ (λ c d e h. beq (f a b c d e h) (g a b c d e h))) t a b) c d e h)
