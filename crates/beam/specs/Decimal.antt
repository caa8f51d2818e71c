-- Document 01, program `beamat`: "decimal without leading zeros", in bytes: the digit d is the byte 48 + d.
-- Assumes nothing.
use Rattle.std.specs.Prelude.{ℕ, zero, suc, ◌+◌, ◌-◌, ◌*◌, ◌/◌, ◌%◌, Bool, true, false, cond, ◌&&◌, List, [], ◌∷◌, ◌++◌, ltb, eqb}

-- n's digits, the most significant first, where n has at most so many: below ten n itself, else those of n / 10 and then n mod 10
unfoldable pub digits : ℕ → ℕ → List ℕ
digits zero n = []
digits (suc most) n = cond (ltb n 10) ((48 + n) ∷ []) (digits most (n / 10) ++ ((48 + n % 10) ∷ []))

-- the decimal spelling of n, without leading zeros: n has at most n + 1 digits. proofs/Spelling.antt shows that it reads back as n (`value_back`) and is
-- as short as can be (`length_below`, `length_from`).
unfoldable pub decimal : ℕ → List ℕ
decimal n = digits (suc n) n

-- the number that a text of digits spells, behind digits that came to v
unfoldable pub value_from : ℕ → List ℕ → ℕ
value_from v [] = v
value_from v (b ∷ bs) = value_from (10 * v + (b - 48)) bs

abbrev pub value : List ℕ → ℕ
value text = value_from 0 text

-- whether two texts are the same
unfoldable pub same_text : List ℕ → List ℕ → Bool
same_text [] [] = true
same_text [] (y ∷ ys) = false
same_text (x ∷ xs) [] = false
same_text (x ∷ xs) (y ∷ ys) = eqb x y && same_text xs ys

-- whether a text starts so
unfoldable pub starts_with : List ℕ → List ℕ → Bool
starts_with [] text = true
starts_with (p ∷ ps) [] = false
starts_with (p ∷ ps) (x ∷ xs) = eqb x p && starts_with ps xs
