-- Each way out of the leaf functions, over plain values: the order of the banks, their places, two slices that are compared.
-- Assumes nothing.
use Prim.Native.Nat.{ℕ, zero, suc, ◌+◌, ◌-◌, ◌%◌, ◌≤◌, ◌<◌}
use mathlib.Core.Bool.{Bool, true, false, false≢true, cond, not, ◌&&◌, ◌||◌}
use mathlib.Core.Path.{◌≡◌, refl, sym, ap, ◌∙◌}
use mathlib.Core.List.{List, [], ◌∷◌, map}
use native.Mathlib.Nat.{not-suc-le-zero, le_of_suc-le-suc}
use native.Mathlib.Numerals.{add-one}
use native.Mathlib.Omega.{arith}
use lib.Dec.{eqb}
use lib.ListN.{length, get_or, take, drop}
use lib.Seq.{get_or-take, drop-cons, drop-length}
use borrow.Author.Tests.{eq-eqb, ne_eqb, eqb-true}
use Rattle.machine.specs.declared.ZXMachine.{ZXMachine}
use Rattle.machine.specs.declared.ZXMachine.TheVariants.{Sinclair48K, Sinclair128K}
use Rattle.snapshot.specs.File.{paged_bank, all_banks, among, without, banks_in_order, place_start, stands_twice, due_size, paging_in, first_place, places_of_banks, same_bytes, copies_differ}
use Rattle.snapshot.proofs.Order.{order, bank_is_place}

-- ---- the order of the banks on 128K, by the bank that is paged
pub order_by : (m : ZXMachine) (byte paged : ℕ) → m ≡ Sinclair128K → byte % 8 ≡ paged → banks_in_order m byte ≡ order paged
unfolding banks_in_order
order_by m byte paged e p = rw (e, p)

pub order_is : (m : ZXMachine) (byte paged : ℕ) (r : List ℕ) → m ≡ Sinclair128K → byte % 8 ≡ paged → take (length (order paged)) r ≡ order paged
    → take (length (banks_in_order m byte)) r ≡ banks_in_order m byte
order_is m byte paged r e p h = rw (order_by m byte paged e p) h

four_up : (n : ℕ) → (n ≡ 0 → ⊥) → (n ≡ 1 → ⊥) → (n ≡ 2 → ⊥) → (n ≡ 3 → ⊥) → 4 ≤ n
four_up n p0 p1 p2 p3 = omega arith

last_one : (n : ℕ) → 4 ≤ n → n < 8 → (n ≡ 4 → ⊥) → (n ≡ 5 → ⊥) → (n ≡ 6 → ⊥) → n ≡ 7
last_one n h k p4 p5 p6 = omega arith

-- the last of the eight
pub seven : (n : ℕ) → n < 8 → (n ≡ 0 → ⊥) → (n ≡ 1 → ⊥) → (n ≡ 2 → ⊥) → (n ≡ 3 → ⊥) → (n ≡ 4 → ⊥) → (n ≡ 5 → ⊥) → (n ≡ 6 → ⊥) → n ≡ 7
seven n h p0 p1 p2 p3 p4 p5 p6 = last_one n (four_up n p0 p1 p2 p3) h p4 p5 p6

-- ---- the place of each bank
pub places_are : (m : ZXMachine) (byte paged : ℕ) (r : List ℕ) → m ≡ Sinclair128K → byte % 8 ≡ paged
    → take 8 r ≡ map (λ bank. first_place bank (order paged)) (all_banks Sinclair128K) → take (length (all_banks m)) r ≡ places_of_banks m byte
places_are m byte paged r e p h = rw (order_by m byte paged e p, e) h

-- one of them, by its bank
map_at : (f : ℕ → ℕ) (xs : List ℕ) (k : ℕ) → k < length xs → get_or (map f xs) k 0 ≡ f (get_or xs k 0)
map_at f [] k h = absurd (not-suc-le-zero h)
map_at f (x ∷ xs) zero h = refl
map_at f (x ∷ xs) (suc k) h = map_at f xs k (le_of_suc-le-suc h)

pub place_at : (m : ZXMachine) (byte : ℕ) (r : List ℕ) (k : ℕ) → take (length (all_banks m)) r ≡ places_of_banks m byte → k < length (all_banks m)
    → get_or r k 0 ≡ first_place k (banks_in_order m byte)
place_at m byte r k e h =
    sym (get_or-take (length (all_banks m)) r k 0 h) ∙ ap (λ (xs : List ℕ). get_or xs k 0) e
    ∙ map_at (λ bank. first_place bank (banks_in_order m byte)) (all_banks m) k h ∙ ap (λ (bank : ℕ). first_place bank (banks_in_order m byte)) (bank_is_place m k h)

-- ---- two slices that are compared
pub same_short : (a b : List ℕ) → (length a ≡ length b → ⊥) → false ≡ same_bytes a b
unfolding same_bytes
same_short [] [] n = absurd (n refl)
same_short [] (y ∷ ys) n = refl
same_short (x ∷ xs) [] n = refl
same_short (x ∷ xs) (y ∷ ys) n = by (eqb x y) (same_short xs ys (λ e. n (ap suc e)))
  where
    by : (t : Bool) → false ≡ same_bytes xs ys → false ≡ (t && same_bytes xs ys)
    by true e = e
    by false e = refl

module _ (a b : List ℕ) (i : ℕ) (long : length a ≡ length b) (h : i < length a) (so_far : same_bytes a b ≡ same_bytes (drop i a) (drop i b)) where
  here : same_bytes a b ≡ same_bytes (get_or a i 0 ∷ drop (suc i) a) (get_or b i 0 ∷ drop (suc i) b)
  here = let k : i < length b = omega arith in so_far ∙ rw (drop-cons a i 0, drop-cons b i 0)

  pub same_no : (get_or a i 0 ≡ get_or b i 0 → ⊥) → false ≡ same_bytes a b
  unfolding same_bytes
  same_no n = rw (here, ne_eqb (get_or a i 0) (get_or b i 0) n)

  pub same_on : get_or a i 0 ≡ get_or b i 0 → same_bytes a b ≡ same_bytes (drop (i + 1) a) (drop (i + 1) b)
  unfolding same_bytes
  same_on e = rw (add-one, here, eq-eqb (get_or a i 0) (get_or b i 0) e)

pub same_yes : (a b : List ℕ) (i : ℕ) → length a ≡ length b → length a ≤ i → i ≤ length a → same_bytes a b ≡ same_bytes (drop i a) (drop i b) → true ≡ same_bytes a b
unfolding same_bytes
same_yes a b i long h k so_far =
    let e : i ≡ length a = omega arith in
    rw (so_far, e, drop-length) (rw (long, drop-length))

-- ---- sizes, and the file's 7FFD byte
pub twice_due : (m : ZXMachine) (byte : ℕ) (twice : Bool) → m ≡ Sinclair128K → twice ≡ stands_twice m byte → twice ≡ true → 147487 ≡ due_size m byte
unfolding due_size
twice_due m byte twice e t y = rw e (sym (ap (λ (b : Bool). cond b 147487 131103) (rw e at (sym t ∙ y))))

pub once_due : (m : ZXMachine) (byte : ℕ) (twice : Bool) → m ≡ Sinclair128K → twice ≡ stands_twice m byte → twice ≡ false → 131103 ≡ due_size m byte
unfolding due_size
once_due m byte twice e t y = rw e (sym (ap (λ (b : Bool). cond b 147487 131103) (rw e at (sym t ∙ y))))

-- ---- the two copies of a bank that stands twice
only_128 : (m : ZXMachine) (byte : ℕ) → stands_twice m byte ≡ true → m ≡ Sinclair128K
only_128 Sinclair48K byte t = absurd (false≢true t)
only_128 Sinclair128K byte t = refl

pub copy_5 : (m : ZXMachine) (byte : ℕ) → stands_twice m byte ≡ true → byte % 8 ≡ 5 → 27 ≡ place_start (first_place (paged_bank byte) (banks_in_order m byte))
unfolding without among first_place
copy_5 m byte t p = rw (order_by m byte 5 (only_128 m byte t) p, p)

else_2 : (n : ℕ) → (eqb n 5 || eqb n 2) ≡ true → (n ≡ 5 → ⊥) → n ≡ 2
else_2 n t f = eqb-true n 2 (rw (ne_eqb n 5 f) at t)

pub copy_2 : (m : ZXMachine) (byte : ℕ) → stands_twice m byte ≡ true → (byte % 8 ≡ 5 → ⊥) → 16411 ≡ place_start (first_place (paged_bank byte) (banks_in_order m byte))
unfolding without among first_place
copy_2 m byte t f =
    let e = only_128 m byte t in
    let p : byte % 8 ≡ 2 = else_2 (byte % 8) (rw e at t) f in
    rw (order_by m byte 2 e p, p)

-- a file in which a bank stands twice
pub twice_long : (m : ZXMachine) (file : List ℕ) (byte : ℕ) (twice : Bool) → length file ≡ due_size m (paging_in m file) → byte ≡ paging_in m file
    → twice ≡ stands_twice m byte → twice ≡ true → length file ≡ 147487
twice_long m file byte twice l b t y = l ∙ ap (due_size m) (sym b) ∙ sym (twice_due m byte twice (only_128 m byte (sym t ∙ y)) t y)

pub differ_is : (m : ZXMachine) (file : List ℕ) (byte at : ℕ) (twice eq : Bool) → byte ≡ paging_in m file → twice ≡ stands_twice m byte → twice ≡ true
    → at ≡ place_start (first_place (paged_bank byte) (banks_in_order m byte)) → eq ≡ same_bytes (take (at + 16384 - at) (drop at file)) (take 16384 (drop 32795 file))
    → not eq ≡ copies_differ m file
unfolding copies_differ
differ_is m file byte at twice eq b t y a e =
    let n : at + 16384 - at ≡ 16384 = omega arith in
    rw (← b, ← t, y, e, n, a)

pub differ_not : (m : ZXMachine) (file : List ℕ) (byte : ℕ) (twice : Bool) → byte ≡ paging_in m file → twice ≡ stands_twice m byte → twice ≡ false → false ≡ copies_differ m file
unfolding copies_differ
differ_not m file byte twice b t y = rw (← b, ← t, y)
