-- A list of known length is its elements one after the other, so that an equation of lists becomes one of elements.
-- Assumes nothing.
use Prim.Native.Nat.{ℕ, zero, suc, ◌+◌, ◌<◌}
use mathlib.Core.Path.{◌≡◌, sym, ap, ◌∙◌}
use mathlib.Core.List.{List, [], ◌∷◌}
use native.Mathlib.Omega.{arith}
use lib.ListN.{length, get_or, drop, drop_of_length-le}
use lib.Seq.{drop-cons}

-- n elements of a list, from place k on
abbrev pub elements : ℕ → ℕ → List ℕ → List ℕ
elements zero k s = []
elements (suc n) k s = get_or s k 0 ∷ elements n (suc k) s

from : (n k : ℕ) (s : List ℕ) → k + n ≡ length s → elements n k s ≡ drop k s
from zero k s e = sym (drop_of_length-le s {i = k} (omega arith))
from (suc n) k s e =
    let h : k < length s = omega arith in
    ap (λ (l : List ℕ). get_or s k 0 ∷ l) (from n (suc k) s (omega arith)) ∙ sym (drop-cons s k 0 h)

pub spelled : (n : ℕ) (s : List ℕ) → length s ≡ n → elements n 0 s ≡ s
spelled n s e = from n 0 s (omega arith)
