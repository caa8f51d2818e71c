-- What is drawn, block by block: each block once, by the catch-up that reached it.
-- Assumes nothing.
use Prim.Native.Nat.{ℕ, zero, suc, ◌+◌, ◌-◌, ◌*◌, ◌≤◌, ◌<◌}
use mathlib.Core.Bool.{Bool}
use mathlib.Core.List.{List, [], ◌∷◌, ◌++◌}
use mathlib.Core.Path.{◌≡◌, refl, ◌∙◌, ap}
use native.Mathlib.Omega.{arith}
use lib.ListN.{length, take, drop, length-append, length-drop}
use lib.Seq.{take_all, take-append-le, drop-append-le, drop-append-add, drop_at}
use borrow.Author.Tests.{lt-ltb, le-ltb, le-leb, lt-leb}
use Rattle.laws.proofs.Cases.{split}
use Rattle.paint.specs.Paint.{block_at, blocks}
use Rattle.paint.proofs.Painting.{eight_pixels, length_blocks}
use Rattle.memory.specs.Memory.{ram_page}
use Rattle.history.specs.Log.{Sight, last_at, times_painted, reaching, block_by, block_in, drawn, drawn_by, Rising}

-- a block of what stands in front, and of what stands behind p blocks
pub in_front_lem : (xs ys : List ℕ) (k : ℕ) → 8 * k + 8 ≤ length xs → block_in (xs ++ ys) k ≡ block_in xs k
in_front_lem xs ys k h =
    ap (take 8) (drop-append-le (8 * k) xs ys (omega arith))
    ∙ take-append-le 8 (drop (8 * k) xs) ys (rw (length-drop) (omega arith))

pub in_back : (xs ys : List ℕ) (p k : ℕ) → length xs ≡ 8 * p → p ≤ k → block_in (xs ++ ys) k ≡ block_in ys (k - p)
in_back xs ys p k size h =
    let e : 8 * k ≡ length xs + 8 * (k - p) = omega arith in
    ap (λ (n : ℕ). take 8 (drop n (xs ++ ys))) e ∙ ap (take 8) (drop-append-add xs ys (8 * (k - p)))

-- block from + i in a run of blocks
blocks_in_lem : (page : List ℕ) (flash : Bool) (from n i : ℕ) → i < n → block_in (blocks page flash from n) i ≡ block_at page flash (from + i)
unfolding blocks
blocks_in_lem page flash from zero i h = absurd (omega arith)
blocks_in_lem page flash from (suc n) i h =
    let size = length_blocks page flash from n in
    split (suc i) n
    (λ p. in_front_lem (blocks page flash from n) (block_at page flash (from + n)) i (omega arith) ∙ blocks_in_lem page flash from n i (omega arith))
    (λ p. let e : n ≡ i = omega arith in
    ap (take 8) (drop_at (blocks page flash from n) (block_at page flash (from + n)) (8 * i) (omega arith))
    ∙ take_all 8 (block_at page flash (from + n)) (omega (arith, eight_pixels page flash (from + n)))
    ∙ ap (λ (k : ℕ). block_at page flash (from + k)) e)

pub drawn_length : (ss : List Sight) → Rising ss → length (drawn ss) ≡ 8 * last_at ss
unfolding drawn
drawn_length [] r = refl
drawn_length (s ∷ ss) r = rw (length-append, length_blocks, drawn_length ss r.1) (omega (arith, r.0))

-- block k is as the catch-up which reached it draws it
pub drawn_block : (ss : List Sight) → Rising ss → (k : ℕ) → k < last_at ss → block_in (drawn ss) k ≡ block_by (reaching k ss) k
unfolding drawn reaching
drawn_block [] r k h = absurd (omega arith)
drawn_block (s ∷ ss) r k h =
    let size = drawn_length ss r.1 in
    let page = ram_page s.page s.ram in
    split (last_at ss) k
    (λ p. let e : last_at ss + (k - last_at ss) ≡ k = omega arith in
    rw (le-leb (last_at ss) k p, lt-ltb k s.at h)
    (in_back (drawn ss) (drawn_by s (last_at ss)) (last_at ss) k size p
    ∙ blocks_in_lem page s.flash (last_at ss) (s.at - last_at ss) (k - last_at ss) (omega arith)
    ∙ ap (block_by s) e))
    (λ p. rw (lt-leb (last_at ss) k p) (in_front_lem (drawn ss) (drawn_by s (last_at ss)) k (omega arith) ∙ drawn_block ss r.1 k p))

-- none past the last position is painted, and each before it once
unpainted : (ss : List Sight) → Rising ss → (k : ℕ) → last_at ss ≤ k → times_painted k ss ≡ 0
unfolding times_painted
unpainted [] r k h = refl
unpainted (s ∷ ss) r k h = rw (le-leb (last_at ss) k (omega (arith, r.0)), le-ltb k s.at h) (omega (arith, unpainted ss r.1 k (omega (arith, r.0))))

pub painted_once : (ss : List Sight) → Rising ss → (k : ℕ) → k < last_at ss → times_painted k ss ≡ 1
unfolding times_painted
painted_once [] r k h = absurd (omega arith)
painted_once (s ∷ ss) r k h =
    split (last_at ss) k
    (λ p. rw (le-leb (last_at ss) k p, lt-ltb k s.at h) (omega (arith, unpainted ss r.1 k p)))
    (λ p. rw (lt-leb (last_at ss) k p) (omega (arith, painted_once ss r.1 k p)))
