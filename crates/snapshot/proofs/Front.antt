-- A slice that is written from its front, store after store: what stands at its front so far, and behind it what stood there before. And two stores, one
-- right behind the other, as one.
-- Assumes nothing.
use Prim.Native.Nat.{ℕ, suc, ◌+◌, ◌≤◌}
use mathlib.Core.Path.{◌≡◌, sym, ap, ◌∙◌}
use mathlib.Core.List.{List, [], ◌∷◌, ◌++◌}
use native.Mathlib.Nat.{add-zero, add-suc, suc-add}
use native.Mathlib.Omega.{arith}
use lib.ListN.{length, set, drop}
use lib.Seq.{sets}
use Rattle.snapshot.proofs.Laid.{grown, all_grown}

-- e is d with x written at its front
abbrev pub Front : List ℕ → List ℕ → List ℕ → Type 0
Front d x e = e ≡ x ++ drop (length x) d

-- one store more, right behind what stands at the front
pub front_more : (d x v e then : List ℕ) (at : ℕ) → Front d x e → length x ≡ at → at + length v ≤ length d → then ≡ sets e at v → Front d (x ++ v) then
front_more d x v e then at f long room store = store ∙ rw (f, ← long) (grown d x v (omega arith))

-- where the front is all of it, nothing of what stood there is left
pub front_all : (d x e : List ℕ) → Front d x e → length x ≡ length d → e ≡ x
front_all d x e f long = f ∙ all_grown d x long

-- a store right behind a store is one store of both
pub sets_sets : (d x v : List ℕ) (at : ℕ) → sets (sets d at x) (at + length x) v ≡ sets d at (x ++ v)
sets_sets d [] v at = ap (λ (i : ℕ). sets d i v) (add-zero at)
sets_sets d (a ∷ x) v at =
    ap (λ (i : ℕ). sets (sets (set d at a) (suc at) x) i v) (add-suc at (length x) ∙ sym (suc-add at (length x)))
    ∙ sets_sets (set d at a) x v (suc at)
