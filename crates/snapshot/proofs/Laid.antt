-- Pieces laid one behind the other (`laid`): how long they are together, and the piece at each place. And a list that is written from its front by stores,
-- one piece after the other.
-- Assumes nothing.
use Prim.Native.Nat.{ℕ, zero, suc, ◌+◌, ◌*◌, ◌≤◌, ◌<◌, suc-le-suc}
use mathlib.Core.Path.{◌≡◌, refl, sym, ap, ap₂, ◌∙◌}
use mathlib.Core.List.{List, [], ◌∷◌, ◌++◌, append_assoc, append-nil}
use native.Mathlib.Nat.{mul-zero, mul-suc, zero-lt-suc, not-suc-le-zero, le_of_suc-le-suc}
use native.Mathlib.Numerals.{add-one}
use native.Mathlib.Omega.{arith}
use lib.ListN.{length, get_or, take, drop, length-append, length-drop, drop_of_length-le, get_or-append}
use lib.Seq.{sets, sets-eq, take-suc, take_at, take-append_seam, drop-append-add, drop-drop, take-add, get_or-append-add}
use Rattle.snapshot.specs.File.{laid}

-- the piece of each of a list is n long
abbrev pub Pieces : ℕ → (ℕ → List ℕ) → List ℕ → Type 0
Pieces n f bs = (k : ℕ) → k < length bs → length (f (get_or bs k 0)) ≡ n

-- what is laid for two lists, one behind the other, is what is laid for both together
pub laid_append : (f : ℕ → List ℕ) (bs cs : List ℕ) → laid f (bs ++ cs) ≡ laid f bs ++ laid f cs
unfolding laid
laid_append f [] cs = refl
laid_append f (b ∷ bs) cs = ap (λ (l : List ℕ). f b ++ l) (laid_append f bs cs) ∙ sym (append_assoc (f b) (laid f bs) (laid f cs))

-- two functions that give equal pieces lay the same
pub laid_same : (f g : ℕ → List ℕ) (bs : List ℕ) → ((k : ℕ) → k < length bs → f (get_or bs k 0) ≡ g (get_or bs k 0)) → laid f bs ≡ laid g bs
unfolding laid
laid_same f g [] e = refl
laid_same f g (b ∷ bs) e = ap₂ ◌++◌ (e 0 (zero-lt-suc _)) (laid_same f g bs (λ k h. e (suc k) (suc-le-suc h)))

-- pieces of n are together n for each
pub length_laid : (n : ℕ) (f : ℕ → List ℕ) (bs : List ℕ) → Pieces n f bs → length (laid f bs) ≡ n * length bs
unfolding laid
length_laid n f [] p = sym (mul-zero n)
length_laid n f (b ∷ bs) p =
    let first : length (f b) ≡ n = p 0 (zero-lt-suc _) in
    let rest : length (laid f bs) ≡ n * length bs = length_laid n f bs (λ k h. p (suc k) (suc-le-suc h)) in
    length-append (f b) (laid f bs) ∙ omega (arith, mul-suc n (length bs))

-- and the piece at place k begins n * k behind the front
pub piece_at : (n : ℕ) (f : ℕ → List ℕ) (bs : List ℕ) → Pieces n f bs → (k : ℕ) → k < length bs → take n (drop (n * k) (laid f bs)) ≡ f (get_or bs k 0)
unfolding laid
piece_at n f [] p k h = absurd (not-suc-le-zero h)
piece_at n f (b ∷ bs) p zero h = rw (mul-zero n) (take_at (f b) (laid f bs) n (p 0 h))
piece_at n f (b ∷ bs) p (suc k) h =
    let first : length (f b) ≡ n = p 0 (zero-lt-suc _) in
    let e : n * suc k ≡ length (f b) + n * k = omega (arith, mul-suc n k) in
    ap (λ (i : ℕ). take n (drop i (f b ++ laid f bs))) e
    ∙ ap (take n) (drop-append-add (f b) (laid f bs) (n * k))
    ∙ piece_at n f bs (λ j g. p (suc j) (suc-le-suc g)) k (le_of_suc-le-suc h)

-- a list that is cut into pieces of n is laid again
pub laid_cut : (n : ℕ) (f : ℕ → List ℕ) (bs l : List ℕ) → ((k : ℕ) → k < length bs → f (get_or bs k 0) ≡ take n (drop (n * k) l))
    → laid f bs ≡ take (n * length bs) l
unfolding laid
laid_cut n f [] l e = rw (mul-zero n)
laid_cut n f (b ∷ bs) l e =
    let z : n * 0 ≡ 0 = mul-zero n in
    let first : f b ≡ take n l = e 0 (zero-lt-suc _) ∙ ap (λ (i : ℕ). take n (drop i l)) z in
    let step : (k : ℕ) → n * suc k ≡ n + n * k = λ k. omega (arith, mul-suc n k) in
    let rest : laid f bs ≡ take (n * length bs) (drop n l) = laid_cut n f bs (drop n l) (λ k h. e (suc k) (suc-le-suc h) ∙ ap (λ (i : ℕ). take n (drop i l)) (step k) ∙ ap (take n) (sym (drop-drop (n * k) n l))) in
    ap₂ ◌++◌ first rest ∙ sym (take-add n (n * length bs) l) ∙ ap (λ (i : ℕ). take i l) (sym (step (length bs)))

-- pieces of a list are those of its two parts
pub pieces_left : (n : ℕ) (f : ℕ → List ℕ) (bs cs : List ℕ) → Pieces n f (bs ++ cs) → Pieces n f bs
pieces_left n f bs cs p k h = rw (get_or-append bs cs 0 k h) at (p k (rw length-append (omega arith)))

pub pieces_right : (n : ℕ) (f : ℕ → List ℕ) (bs cs : List ℕ) → Pieces n f (bs ++ cs) → Pieces n f cs
pieces_right n f bs cs p k h = rw (get_or-append-add bs cs k 0) at (p (length bs + k) (rw length-append (omega arith)))

-- one piece more
pub laid_suc : (f : ℕ → List ℕ) (bs : List ℕ) (k : ℕ) → k < length bs → laid f (take (suc k) bs) ≡ laid f (take k bs) ++ f (get_or bs k 0)
unfolding laid
laid_suc f bs k h =
    ap (laid f) (take-suc bs k 0 h)
    ∙ laid_append f (take k bs) (get_or bs k 0 ∷ [])
    ∙ ap (λ (l : List ℕ). laid f (take k bs) ++ l) (append-nil (f (get_or bs k 0)))

-- the same, with the next place written k + 1
pub laid_more : (f : ℕ → List ℕ) (bs : List ℕ) (k : ℕ) → k < length bs → laid f (take (k + 1) bs) ≡ laid f (take k bs) ++ f (get_or bs k 0)
laid_more f bs k h = rw add-one (laid_suc f bs k h)

-- A LIST THAT IS WRITTEN FROM ITS FRONT: where x stands before what is left of d, storing v behind x gives x and v before what is left of d,
pub grown : (d x v : List ℕ) → length x + length v ≤ length d
    → sets (x ++ drop (length x) d) (length x) v ≡ (x ++ v) ++ drop (length (x ++ v)) d
grown d x v h =
    let n : length x + length v ≤ length (x ++ drop (length x) d) = rw (length-append, length-drop) (omega arith) in
    sets-eq v (x ++ drop (length x) d) (length x) n
    ∙ ap₂ (λ (a b : List ℕ). a ++ v ++ b) (take-append_seam x (drop (length x) d)) (drop-append-add x (drop (length x) d) (length v) ∙ drop-drop (length v) (length x) d)
    ∙ ap (λ (k : ℕ). x ++ v ++ drop k d) (sym (length-append x v))

-- and where x is as long as d, nothing of d is left
pub all_grown : (d x : List ℕ) → length x ≡ length d → x ++ drop (length x) d ≡ x
all_grown d x e = ap (λ (l : List ℕ). x ++ l) (drop_of_length-le d {i = length x} (omega arith)) ∙ append-nil x
