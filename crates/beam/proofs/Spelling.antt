-- The decimal spelling of a number: its two equations, its digits, its length, and that it reads back as the number.
-- Assumes nothing.
use Prim.Native.Nat.{ℕ, zero, suc, ◌+◌, ◌-◌, ◌*◌, ◌/◌, ◌%◌, ◌^◌, ◌<◌, ◌≤◌}
use mathlib.Core.Path.{◌≡◌, refl, ap, sym, ◌∙◌}
use mathlib.Core.Bool.{true, cond}
use mathlib.Core.List.{List, [], ◌∷◌, ◌++◌}
use native.Mathlib.Nat.{pow-suc, div-lt_iff_lt-mul, zero-lt-suc, not-suc-le-zero}
use native.Mathlib.Omega.{arith}
use borrow.Author.Tests.{lt-ltb, le-ltb, eq-eqb, eqb-true}
use lib.Dec.{eqb}
use lib.ListN.{length, get_or, length-append, get_or-append}
use lib.Seq.{get_or_at}
use Rattle.std.specs.Fmt.{decimal as printed}
use Rattle.std.proofs.lemmas.Fmt.{decimal_by_steps}
use Rattle.laws.proofs.Cases.{split, and_left, and_right, and_both}
use Rattle.beam.specs.Decimal.{digits, decimal, value_from, value, same_text}

-- how many digits are allowed does not matter, once they are enough
same_digits : (a b n : ℕ) → n < a → n < b → digits a n ≡ digits b n
unfolding digits
same_digits zero b n h k = absurd (not-suc-le-zero h)
same_digits (suc a) zero n h k = absurd (not-suc-le-zero k)
same_digits (suc a) (suc b) n h k =
    split 10 n
    (λ l. let e : digits a (n / 10) ≡ digits b (n / 10) = same_digits a b (n / 10) (omega arith) (omega arith) in rw e)
    (λ l. simp (lt-ltb n 10 l))

-- below ten the spelling is one digit
pub decimal_small : (n : ℕ) → n < 10 → decimal n ≡ (48 + n) ∷ []
unfolding decimal digits
decimal_small n h = simp (lt-ltb n 10 h)

-- from ten on it is the spelling of a tenth, and the last digit behind it
pub decimal_large : (n : ℕ) → 10 ≤ n → decimal n ≡ decimal (n / 10) ++ ((48 + n % 10) ∷ [])
unfolding decimal digits
decimal_large n h =
    let e : digits n (n / 10) ≡ digits (suc (n / 10)) (n / 10) = same_digits n (suc (n / 10)) (n / 10) (omega arith) (omega arith) in
    ap (λ t. cond t ((48 + n) ∷ []) (digits n (n / 10) ++ ((48 + n % 10) ∷ []))) (le-ltb n 10 h)
    ∙ ap (λ (l : List ℕ). l ++ ((48 + n % 10) ∷ [])) e

-- what holds below ten, and of a number if of its tenth, holds of every number
pub by_tens : (P : ℕ → Type 0) → ((n : ℕ) → n < 10 → P n) → ((n : ℕ) → 10 ≤ n → P (n / 10) → P n) → (n : ℕ) → P n
by_tens P small large n = go (suc n) n (omega arith) where
  go : (most n : ℕ) → n < most → P n
  go zero n h = absurd (not-suc-le-zero h)
  go (suc most) n h = split 10 n (λ l. large n l (go most (n / 10) (omega arith))) (λ l. small n l)

-- the kit spells a number so
pub decimal_same : (n : ℕ) → n < 2 ^ 64 → printed n ≡ decimal n
decimal_same =
    decimal_by_steps (λ n ds. ds ≡ decimal n) (λ n h. sym (decimal_small n h)) (λ n ds h e. rw (e, decimal_large n h))

pub length_some : (n : ℕ) → 0 < length (decimal n)
length_some =
    by_tens (λ n. 0 < length (decimal n))
    (λ n h. rw (decimal_small n h) (omega arith))
    (λ n h i. rw (decimal_large n h, length-append) (omega arith))

-- each byte of a spelling is a digit
abbrev IsDigit : ℕ → Type 0
IsDigit b = (48 ≤ b) × (b ≤ 57)

abbrev AllDigits : ℕ → Type 0
AllDigits n = (k : ℕ) → k < length (decimal n) → IsDigit (get_or (decimal n) k 0)

one_more : (xs : List ℕ) (x : ℕ) → ((k : ℕ) → k < length xs → IsDigit (get_or xs k 0)) → IsDigit x
    → (k : ℕ) → k < length (xs ++ (x ∷ [])) → IsDigit (get_or (xs ++ (x ∷ [])) k 0)
one_more xs x f g k h =
    split (suc k) (length xs)
    (λ l. rw (get_or-append xs (x ∷ []) 0 k l) (f k l))
    (λ l. let e : length xs ≡ k = omega (arith, simp length-append at h) in rw (get_or_at xs x [] 0 k e) g)

pub all_digits : (n : ℕ) → AllDigits n
all_digits =
    by_tens AllDigits
    (λ n h. rw (decimal_small n h) (λ k l. let e : k ≡ 0 = omega arith in rw e (omega arith, omega arith)))
    (λ n h i. rw (decimal_large n h) (one_more (decimal (n / 10)) (48 + n % 10) i (omega arith, omega arith)))

-- no spelling but that of 0 starts with a zero
pub first_digit : (n : ℕ) → 0 < n → 48 < get_or (decimal n) 0 0
first_digit =
    by_tens (λ n. 0 < n → 48 < get_or (decimal n) 0 0)
    (λ n h p. rw (decimal_small n h) (omega arith))
    (λ n h i p. rw (decimal_large n h, get_or-append (decimal (n / 10)) ((48 + n % 10) ∷ []) 0 0 (length_some (n / 10))) (i (omega arith)))

-- a spelling has as few digits as can be: below 10, 100, 1,000, .. at most 1, 2, 3, .. digits, and from 1, 10, 100, .. on at least so many
pub length_below : (k n : ℕ) → n < 10 ^ suc k → length (decimal n) ≤ suc k
length_below zero n h = rw (decimal_small n (omega arith)) (omega arith)
length_below (suc k) n h =
    split 10 n
    (λ l. let i : length (decimal (n / 10)) ≤ suc k = length_below k (n / 10) ((div-lt_iff_lt-mul (zero-lt-suc 9)).1 (rw pow-suc at h)) in
    rw (decimal_large n l, length-append) (omega arith))
    (λ l. rw (decimal_small n l) (omega arith))

ten_pos : (k : ℕ) → 0 < 10 ^ k
ten_pos zero = omega arith
ten_pos (suc k) = let i : 0 < 10 ^ k = ten_pos k in rw pow-suc (omega arith)

pub length_from : (k n : ℕ) → 10 ^ k ≤ n → suc k ≤ length (decimal n)
length_from zero n h = length_some n
length_from (suc k) n h =
    let g : 10 ^ k * 10 ≤ n = rw pow-suc at h in
    let p : 0 < 10 ^ k = ten_pos k in
    let i : suc k ≤ length (decimal (n / 10)) = length_from k (n / 10) (omega arith) in
    rw (decimal_large n (omega arith), length-append) (omega arith)

-- a text behind another is read on from the other's value
pub value_append : (v : ℕ) (a b : List ℕ) → value_from v (a ++ b) ≡ value_from (value_from v a) b
unfolding value_from
value_append v [] b = refl
value_append v (x ∷ a) b = value_append (10 * v + (x - 48)) a b

-- a spelling reads back as its number
pub value_back : (n : ℕ) → value (decimal n) ≡ n
unfolding value_from
value_back =
    by_tens (λ n. value (decimal n) ≡ n)
    (λ n h. rw (decimal_small n h) (omega arith))
    (λ n h i. rw (decimal_large n h, value_append, i) (omega arith))

-- reading on never makes a value smaller
pub value_grows : (v : ℕ) (text : List ℕ) → v ≤ value_from v text
unfolding value_from
value_grows v [] = omega arith
value_grows v (b ∷ bs) = omega (arith, value_grows (10 * v + (b - 48)) bs)

-- the test of two texts says whether they are equal
pub same_text_lem : (a b : List ℕ) → same_text a b ≡ true → a ≡ b
unfolding same_text
same_text_lem [] [] e = refl
same_text_lem [] (y ∷ ys) e = cc
same_text_lem (x ∷ xs) [] e = cc
same_text_lem (x ∷ xs) (y ∷ ys) e =
    let p : x ≡ y = eqb-true x y (and_left (eqb x y) (same_text xs ys) e) in
    let q : xs ≡ ys = same_text_lem xs ys (and_right (eqb x y) (same_text xs ys) e) in
    cc

pub text_same : (a : List ℕ) → same_text a a ≡ true
unfolding same_text
text_same [] = refl
text_same (x ∷ xs) = and_both (eqb x x) (same_text xs xs) (eq-eqb x x refl) (text_same xs)
