-- DETERMINACY: "For each input a public call's contract determines its answer and the later contents of each slice it was lent; prove that two
-- answers it admits are equal." Said of the contracts themselves: `Post` of a function is its `ensures` clause, at the arguments, a result and
-- the parameters at exit. Whatever two results and exits it admits for the same arguments, the results are equal, and so are the contents at
-- exit of each slice that the call may write. A slice lent by `&` is not written: its type says so.
-- Every contract is one equation `left ≡ definition of the entry`, so that the whole argument is `equal`, once.
-- Assumes nothing.
use Prim.Native.Nat.{ℕ}
use mathlib.Core.Path.{◌≡◌, sym, ap, ◌∙◌}
use mathlib.Core.List.{List}
use Rattle.contracts.specs.Timed.{lent, Outcome, outcome, Started, start_leaves}
use Rattle.contracts.specs.Snapshots.{Imported, import_leaves}
use Rattle.contracts.specs.Plain.{Told, told, Changed, changed, Repaged, repaged}

pub equal : {A : Type 0} {d x y : A} → x ≡ d → y ≡ d → x ≡ y
equal p q = p ∙ sym q

pub told_equal : (d : Told) (r r' : ℕ) (x x' : List ℕ) → told r x ≡ d → told r' x' ≡ d → (r ≡ r') × (x ≡ x')
told_equal d r r' x x' p q = let e = equal p q in (ap (λ (t : Told). t.code) e, ap (λ (t : Told). t.answer) e)

pub changed_equal : (d : Changed) (r r' : ℕ) (x x' : List ℕ) → changed r x ≡ d → changed r' x' ≡ d → (r ≡ r') × (x ≡ x')
changed_equal d r r' x x' p q = let e = equal p q in (ap (λ (t : Changed). t.code) e, ap (λ (t : Changed). t.slice) e)

pub repaged_equal : (d : Repaged) (r r' : ℕ) (s s' x x' : List ℕ) → repaged r s x ≡ d → repaged r' s' x' ≡ d → (r ≡ r') × (s ≡ s') × (x ≡ x')
repaged_equal d r r' s s' x x' p q =
    let e = equal p q in
    (ap (λ (t : Repaged). t.code) e, ap (λ (t : Repaged). t.state) e, ap (λ (t : Repaged). t.answer) e)

pub outcome_equal : (d : Outcome) (r r' : ℕ) (ram s s' a a' b b' e e' x x' : List ℕ)
    → outcome r (lent s ram a b e) x ≡ d → outcome r' (lent s' ram a' b' e') x' ≡ d
    → (r ≡ r') × (s ≡ s') × (a ≡ a') × (b ≡ b') × (e ≡ e') × (x ≡ x')
outcome_equal d r r' ram s s' a a' b b' e e' x x' p q =
    let k = equal p q in (
      ap (λ (t : Outcome). t.code) k,
      ap (λ (t : Outcome). t.slices.state) k,
      ap (λ (t : Outcome). t.slices.a) k,
      ap (λ (t : Outcome). t.slices.b) k,
      ap (λ (t : Outcome). t.slices.border) k,
      ap (λ (t : Outcome). t.answer) k,
    )

pub start_equal : (d : Started) (r r' : ℕ) (s s' m m' a a' b b' e e' : List ℕ)
    → start_leaves r (lent s m a b e) ≡ d → start_leaves r' (lent s' m' a' b' e') ≡ d
    → (r ≡ r') × (s ≡ s') × (m ≡ m') × (a ≡ a') × (b ≡ b') × (e ≡ e')
start_equal d r r' s s' m m' a a' b b' e e' p q =
    let k = equal p q in (
      ap (λ (t : Started). t.code) k,
      ap (λ (t : Started). t.slices.state) k,
      ap (λ (t : Started). t.slices.ram) k,
      ap (λ (t : Started). t.slices.a) k,
      ap (λ (t : Started). t.slices.b) k,
      ap (λ (t : Started). t.slices.border) k,
    )

pub import_equal : (d : Imported) (r r' : ℕ) (s s' m m' g g' a a' b b' e e' : List ℕ)
    → import_leaves r (lent s m a b e) g ≡ d → import_leaves r' (lent s' m' a' b' e') g' ≡ d
    → (r ≡ r') × (s ≡ s') × (m ≡ m') × (g ≡ g') × (a ≡ a') × (b ≡ b') × (e ≡ e')
import_equal d r r' s s' m m' g g' a a' b b' e e' p q =
    let k = equal p q in (
      ap (λ (t : Imported). t.code) k,
      ap (λ (t : Imported). t.slices.state) k,
      ap (λ (t : Imported). t.slices.ram) k,
      ap (λ (t : Imported). t.registers) k,
      ap (λ (t : Imported). t.slices.a) k,
      ap (λ (t : Imported). t.slices.b) k,
      ap (λ (t : Imported). t.slices.border) k,
    )
