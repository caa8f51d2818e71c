-- A conjunction of several tests, `a && b && c && ..` as it is written: where it holds each of them holds, picked by its place.
-- Assumes nothing.
use Prim.Native.Nat.{ℕ, zero, suc}
use mathlib.Core.Path.{◌≡◌, refl}
use mathlib.Core.Bool.{Bool, true, ◌&&◌}
use mathlib.Core.List.{List, [], ◌∷◌}
use lib.ListN.{get_or}
use Rattle.laws.proofs.Cases.{and_left, and_right}

-- the first test, and those that follow it
abbrev pub conj : Bool → List Bool → Bool
conj a [] = a
conj a (b ∷ bs) = conj (a && b) bs

first : (a : Bool) (bs : List Bool) → conj a bs ≡ true → a ≡ true
first a [] e = e
first a (b ∷ bs) e = and_left a b (first (a && b) bs e)

pub each : (a : Bool) (bs : List Bool) → conj a bs ≡ true → (k : ℕ) → get_or (a ∷ bs) k true ≡ true
each a bs e zero = first a bs e
each a [] e (suc k) = refl
each a (b ∷ bs) e (suc zero) = and_right a b (first (a && b) bs e)
each a (b ∷ bs) e (suc (suc k)) = each (a && b) bs e (suc k)
