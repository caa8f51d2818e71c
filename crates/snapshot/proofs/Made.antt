-- A list of the layout of a file, whatever its parts are: 27 bytes, three pieces of 16 KiB, what stands between, and further pieces. Where each part is found.
-- Assumes nothing.
use Prim.Native.Nat.{ℕ, ◌+◌, ◌-◌, ◌*◌, ◌≤◌, ◌<◌}
use mathlib.Core.Path.{◌≡◌, sym, ap, ◌∙◌}
use mathlib.Core.List.{List, ◌++◌, append_assoc}
use native.Mathlib.Omega.{arith}
use borrow.Author.Tests.{lt-ltb, le-ltb}
use lib.ListN.{length, get_or, take, drop, length-append, length-drop, get_or-append}
use lib.Seq.{length-take-le, take_at, take-append-le, drop-append-le, drop-append-add, drop-drop, get_or-append-add, get_or-take, get_or-drop}
use Rattle.laws.proofs.Cases.{split}
use Rattle.snapshot.specs.File.{laid, place_start, bank_at}
use Rattle.snapshot.proofs.Laid.{Pieces, length_laid, piece_at, pieces_left, pieces_right}

-- where the bank at a place begins: one of the first three, or a later one
pub early_start : (k : ℕ) → k < 3 → place_start k ≡ 27 + 16384 * k
early_start k h = rw (lt-ltb k 3 h) (omega arith)

pub late_start : (k : ℕ) → 3 ≤ k → place_start k ≡ 49183 + 16384 * (k - 3)
late_start k h = rw (le-ltb k 3 h) (omega arith)

-- and what stands there, cut from what follows the header, or from what follows the four bytes behind the third
pub early_cut : (k : ℕ) (file : List ℕ) → k < 3 → bank_at k file ≡ take 16384 (drop (16384 * k) (drop 27 file))
early_cut k file h = ap (λ (i : ℕ). take 16384 (drop i file)) (early_start k h) ∙ ap (take 16384) (sym (drop-drop (16384 * k) 27 file))

pub late_cut : (k : ℕ) (file : List ℕ) → bank_at (3 + k) file ≡ take 16384 (drop (16384 * k) (drop 49183 file))
late_cut k file =
    let e : place_start (3 + k) ≡ 49183 + 16384 * k = omega (arith, late_start (3 + k) (omega arith)) in
    ap (λ (i : ℕ). take 16384 (drop i file)) e ∙ ap (take 16384) (sym (drop-drop (16384 * k) 49183 file))

-- 16 KiB that a file has at a place
pub bank_long : (k : ℕ) (file : List ℕ) → place_start k + 16384 ≤ length file → length (bank_at k file) ≡ 16384
bank_long k file h = length-take-le 16384 (drop (place_start k) file) (rw length-drop (omega arith))

-- and each byte of them
pub bank_byte : (k i : ℕ) (file : List ℕ) → i < 16384 → get_or (bank_at k file) i 0 ≡ get_or file (place_start k + i) 0
bank_byte k i file h = get_or-take 16384 (drop (place_start k) file) i 0 h ∙ get_or-drop (place_start k) file i 0

-- a part that lies whole in the front list
part_front : (at n : ℕ) (x y : List ℕ) → at + n ≤ length x → take n (drop at (x ++ y)) ≡ take n (drop at x)
part_front at n x y h =
    let long : n ≤ length (drop at x) = rw length-drop (omega arith) in
    rw (drop-append-le at x y (omega arith)) (take-append-le n (drop at x) y long)

-- the list
abbrev pub made : List ℕ → List ℕ → (ℕ → List ℕ) → List ℕ → List ℕ → List ℕ
made head middle f bs cs = head ++ laid f bs ++ middle ++ laid f cs

-- with its parts grouped from behind
pub regrouped : (head middle : List ℕ) (f : ℕ → List ℕ) (bs cs : List ℕ) → made head middle f bs cs ≡ head ++ (laid f bs ++ (middle ++ laid f cs))
regrouped head middle f bs cs = simp append_assoc

module _ (head middle : List ℕ) (f : ℕ → List ℕ) (bs cs : List ℕ) (header : length head ≡ 27) (three : length bs ≡ 3) (p : Pieces 16384 f (bs ++ cs)) where
  front : length (head ++ laid f bs) ≡ 49179
  front = length-append head (laid f bs) ∙ omega (arith, length_laid 16384 f bs (pieces_left 16384 f bs cs p))

  -- its length
  pub made_long : length (made head middle f bs cs) ≡ 27 + 16384 * length (bs ++ cs) + length middle
  made_long =
      simp length-append
      (omega
      (arith, length_laid 16384 f bs (pieces_left 16384 f bs cs p), length_laid 16384 f cs (pieces_right 16384 f bs cs p)))

  -- its head
  pub made_head : take 27 (made head middle f bs cs) ≡ head
  made_head = ap (take 27) (regrouped head middle f bs cs) ∙ take_at head (laid f bs ++ (middle ++ laid f cs)) 27 header

  -- what follows the first three
  pub made_behind : (i : ℕ) → get_or (made head middle f bs cs) (49179 + i) 0 ≡ get_or (middle ++ laid f cs) i 0
  made_behind i =
      ap (λ (l : List ℕ). get_or l (49179 + i) 0) (append_assoc (head ++ laid f bs) middle (laid f cs))
      ∙ ap (λ (n : ℕ). get_or ((head ++ laid f bs) ++ (middle ++ laid f cs)) (n + i) 0) (sym front)
      ∙ get_or-append-add (head ++ laid f bs) (middle ++ laid f cs) i 0

  -- one of the first three
  early : (k : ℕ) → k < 3 → bank_at k (made head middle f bs cs) ≡ f (get_or (bs ++ cs) k 0)
  early k h =
      let e : place_start k ≡ length head + 16384 * k = omega (arith, early_start k h) in
      let long : 16384 * k + 16384 ≤ length (laid f bs) = omega (arith, length_laid 16384 f bs (pieces_left 16384 f bs cs p)) in
      ap (bank_at k) (regrouped head middle f bs cs)
      ∙ ap (λ (i : ℕ). take 16384 (drop i (head ++ (laid f bs ++ (middle ++ laid f cs))))) e
      ∙ ap (take 16384) (drop-append-add head (laid f bs ++ (middle ++ laid f cs)) (16384 * k))
      ∙ part_front (16384 * k) 16384 (laid f bs) (middle ++ laid f cs) long
      ∙ piece_at 16384 f bs (pieces_left 16384 f bs cs p) k (omega arith)
      ∙ ap f (sym (get_or-append bs cs 0 k (omega arith)))

  -- one behind them
  late : (k : ℕ) → 3 ≤ k → k < length (bs ++ cs) → length middle ≡ 4 → bank_at k (made head middle f bs cs) ≡ f (get_or (bs ++ cs) k 0)
  late k g h four =
      let e : place_start k ≡ length (head ++ laid f bs ++ middle) + 16384 * (k - 3) = omega (arith, late_start k g, front, length-append (head ++ laid f bs) middle) in
      let i : k ≡ length bs + (k - 3) = omega arith in
      ap (λ (i : ℕ). take 16384 (drop i (made head middle f bs cs))) e
      ∙ ap (take 16384) (drop-append-add (head ++ laid f bs ++ middle) (laid f cs) (16384 * (k - 3)))
      ∙ piece_at 16384 f cs (pieces_right 16384 f bs cs p) (k - 3) (omega (arith, length-append bs cs))
      ∙ ap f (sym (ap (λ (j : ℕ). get_or (bs ++ cs) j 0) i ∙ get_or-append-add bs cs (k - 3) 0))

  -- THE PIECE AT EACH PLACE, where four bytes stand between if any piece stands behind them
  pub made_place : (k : ℕ) → k < length (bs ++ cs) → (3 ≤ k → length middle ≡ 4) → bank_at k (made head middle f bs cs) ≡ f (get_or (bs ++ cs) k 0)
  made_place k h four = split 3 k (λ g. late k g h (four g)) (early k)
