-- The Rust's screen banks go on mirroring RAM: one byte written is one cell updated, and a refresh updates them all.
-- Assumes nothing.
use mathlib.Core.Path.{◌≡◌, refl, sym, ap, ap₂, ◌∙◌}
use mathlib.Core.Bool.{Bool, true, false, cond}
use mathlib.Core.List.{List}
use Prim.Native.Nat.{ℕ, suc, ◌+◌, ◌-◌, ◌*◌, ◌/◌, ◌%◌, ◌<◌, ◌≤◌}
use native.Mathlib.Nat.{zero-add}
use native.Mathlib.Omega.{arith}
use lib.Dec.{leb, eqb}
use lib.ListN.{length, get_or, set, length-set}
use lib.Seq.{get_or-set_same, get_or-set_other}
use borrow.Author.Tests.{le-leb, lt-leb, ne_eqb}
use Rattle.laws.proofs.Cases.{by_bool, by_le, by_eq, split}
use Rattle.offsets.specs.Offset.{line_start, offset_of}
use Rattle.screen.specs.Address.{line_of}
use Rattle.screen.specs.Colour.{attribute_of}
use Rattle.screen.proofs.RoundTrips.{line_back, offset_back}
use Rattle.rustzx.specs.Panics.{done, some, each}
use Rattle.rustzx.specs.Colors.{ZXAttribute}
use Rattle.rustzx.specs.Screen.{ScreenBank, ZXScreen, black_attribute, with_bank, put_bitmap, put_attribute, update_bitmap, update_attribute, update_in}
use Rattle.rustzx.specs.Related.{our_attribute, Mirrors}
use Rattle.rustzx.proofs.Loops.{each_keeps}
use Rattle.rustzx.proofs.Helpers.{line_rel_is, col_rel_is, attr_row_is, attr_col_is, rust_attribute, attribute_there, from_byte_is}

-- the attribute that from_byte gives
abbrev cell_of : ℕ → ZXAttribute
cell_of v = rust_attribute (attribute_of v)

-- what an update does to a bank: the bitmap byte of an offset, its attribute, or nothing
unfoldable pub put : ℕ → ℕ → ScreenBank → ScreenBank
put rel v b =
    cond (leb rel 0x17FF) (put_bitmap (line_of rel * 32 + rel % 32) v b)
    (cond (leb rel 0x1AFF) (put_attribute ((rel - 0x1800) / 32 * 32 + (rel - 0x1800) % 32) (cell_of v) b) b)

-- ---- update is `put` on the bank, and never panics
bitmap_done : (bank rel v : ℕ) (s : ZXScreen) → rel ≤ 0x17FF → update_bitmap bank rel v s ≡ done (with_bank bank (put_bitmap (line_of rel * 32 + rel % 32) v) s)
bitmap_done bank rel v s h =
    let l = le-leb rel 0x17FF h in
    rw (line_rel_is rel, col_rel_is rel, l)

attribute_done : (bank rel v : ℕ) (s : ZXScreen) → 0x1800 ≤ rel → rel ≤ 0x1AFF
    → update_attribute bank rel v s ≡ done (with_bank bank (put_attribute ((rel - 0x1800) / 32 * 32 + (rel - 0x1800) % 32) (cell_of v)) s)
attribute_done bank rel v s h k =
    let l = le-leb 0x1800 rel h in
    let u = le-leb rel 0x1AFF k in
    rw (attr_row_is rel, attr_col_is rel, from_byte_is v, l, u)

nothing_done : (t : Bool) (s : ZXScreen)
    → s ≡ record { last_blocks = s.last_blocks; flash = s.flash; frame_counter = s.frame_counter; buffer = s.buffer; back_buffer = s.back_buffer; bank0 = cond t s.bank0 s.bank0; bank1 = cond t s.bank1 s.bank1; active_bank = s.active_bank }
nothing_done true s = refl
nothing_done false s = refl

pub update_is : (bank rel v : ℕ) (s : ZXScreen) → update_in (some bank) rel v s ≡ done (with_bank bank (put rel v) s)
unfolding put
update_is bank rel v s =
    split rel 0x17FF
    (λ h. let l = le-leb rel 0x17FF h in rw l (bitmap_done bank rel v s h))
    (λ h. let l = lt-leb rel 0x17FF h in
    split rel 0x1AFF
    (λ k. let u = le-leb rel 0x1AFF k in rw (l, u) (attribute_done bank rel v s h k))
    (λ k. let u = lt-leb rel 0x1AFF k in rw (l, u) (ap done (nothing_done (eqb bank 0) s))))

-- ---- where a page's byte stands in a bank
offset_small : (n col : ℕ) → n < 192 → col < 32 → line_start n + col < 6144
offset_small n col h k = omega arith

column_back : (n col : ℕ) → col < 32 → (line_start n + col) % 32 ≡ col
column_back n col k = omega arith

digits : (k : ℕ) → k / 32 * 32 + k % 32 ≡ k
digits k = omega arith

line_digit : (x y : ℕ) → y < 32 → (x * 32 + y) / 32 ≡ x
line_digit x y h = omega arith

column_digit : (x y : ℕ) → y < 32 → (x * 32 + y) % 32 ≡ y
column_digit x y h = omega arith

-- the raster block of an offset, there and back
block_back : (k : ℕ) → line_of (offset_of k) * 32 + offset_of k % 32 ≡ k
block_back k =
    ap₂ (λ (x y : ℕ). x * 32 + y) (line_back (k / 32) (k % 32) (omega arith)) (column_back (k / 32) (k % 32) (omega arith)) ∙ digits k

byte_back : (rel : ℕ) → offset_of (line_of rel * 32 + rel % 32) ≡ rel
byte_back rel =
    ap₂ (λ (x y : ℕ). line_start x + y) (line_digit (line_of rel) (rel % 32) (omega arith)) (column_digit (line_of rel) (rel % 32) (omega arith)) ∙ offset_back rel

line_small : (rel : ℕ) → rel ≤ 0x17FF → line_of rel * 32 + rel % 32 < 6144
line_small rel h = omega arith

-- ---- one cell
module _ (rel v : ℕ) (b : ScreenBank) where
  put_bitmap_long : length (put rel v b).bitmap ≡ length b.bitmap
  unfolding put
  put_bitmap_long =
      by_bool (λ (x : ScreenBank). length x.bitmap ≡ length b.bitmap) (leb rel 0x17FF) (λ e. length-set b.bitmap _ v)
      (λ e. by_bool (λ (x : ScreenBank). length x.bitmap ≡ length b.bitmap) (leb rel 0x1AFF) (λ f. refl) (λ f. refl))

  put_attributes_long : length (put rel v b).attributes ≡ length b.attributes
  unfolding put
  put_attributes_long =
      by_bool (λ (x : ScreenBank). length x.attributes ≡ length b.attributes) (leb rel 0x17FF) (λ e. refl)
      (λ e. by_bool (λ (x : ScreenBank). length x.attributes ≡ length b.attributes) (leb rel 0x1AFF) (λ f. length-set b.attributes _ (cell_of v)) (λ f. refl))

  -- an update changes the bitmap byte of its offset, and no other
  put_bitmap_lem : length b.bitmap ≡ 6144 → (k : ℕ) → k < 6144
      → get_or (put rel v b).bitmap k 0 ≡ cond (eqb (offset_of k) rel) v (get_or b.bitmap k 0)
  unfolding put
  put_bitmap_lem long k h =
      by_le (λ (x : ScreenBank). get_or x.bitmap k 0 ≡ cond (eqb (offset_of k) rel) v (get_or b.bitmap k 0)) rel 0x17FF
      (λ l. by_eq (λ (n : ℕ). get_or (set b.bitmap (line_of rel * 32 + rel % 32) v) k 0 ≡ n) (offset_of k) rel
      (λ e. let i : line_of rel * 32 + rel % 32 ≡ k = ap (λ (n : ℕ). line_of n * 32 + n % 32) (sym e) ∙ block_back k in
      rw i (get_or-set_same b.bitmap k v 0 (omega arith)))
      (λ e. get_or-set_other b.bitmap (line_of rel * 32 + rel % 32) k v 0 (λ i. e (ap offset_of i ∙ byte_back rel))))
      (λ l. let n = ne_eqb (offset_of k) rel (λ e. omega (arith, offset_small (k / 32) (k % 32) (omega arith) (omega arith))) in
      by_bool (λ (x : ScreenBank). get_or x.bitmap k 0 ≡ cond (eqb (offset_of k) rel) v (get_or b.bitmap k 0)) (leb rel 0x1AFF)
      (λ f. rw n) (λ f. rw n))

  -- and the attribute of its offset, and no other
  put_attribute_lem : length b.attributes ≡ 768 → (j : ℕ) → j < 768
      → get_or (put rel v b).attributes j black_attribute ≡ cond (eqb (0x1800 + j) rel) (cell_of v) (get_or b.attributes j black_attribute)
  unfolding put
  put_attribute_lem long j h =
      by_le (λ (x : ScreenBank). get_or x.attributes j black_attribute ≡ cond (eqb (0x1800 + j) rel) (cell_of v) (get_or b.attributes j black_attribute)) rel 0x17FF
      (λ l. let n = ne_eqb (0x1800 + j) rel (λ e. omega arith) in rw n)
      (λ l. by_le (λ (x : ScreenBank). get_or x.attributes j black_attribute ≡ cond (eqb (0x1800 + j) rel) (cell_of v) (get_or b.attributes j black_attribute)) rel 0x1AFF
      (λ u. by_eq (λ (a : ZXAttribute). get_or (set b.attributes ((rel - 0x1800) / 32 * 32 + (rel - 0x1800) % 32) (cell_of v)) j black_attribute ≡ a) (0x1800 + j) rel
      (λ e. let i : (rel - 0x1800) / 32 * 32 + (rel - 0x1800) % 32 ≡ j = omega arith in
      rw i (get_or-set_same b.attributes j (cell_of v) black_attribute (omega arith)))
      (λ e. get_or-set_other b.attributes ((rel - 0x1800) / 32 * 32 + (rel - 0x1800) % 32) j (cell_of v) black_attribute (λ i. e (omega arith))))
      (λ u. let n = ne_eqb (0x1800 + j) rel (λ e. omega arith) in rw n))

-- a byte stored in a page
stored : (page : List ℕ) (rel v j : ℕ) → rel < length page → get_or (set page rel v) j 0 ≡ cond (eqb j rel) v (get_or page j 0)
stored page rel v j h =
    by_eq (λ (n : ℕ). get_or (set page rel v) j 0 ≡ n) j rel
    (λ e. rw e (get_or-set_same page rel v 0 h)) (λ e. get_or-set_other page rel j v 0 e)

-- a cell stored, as ours
through : (t : Bool) (v y : ℕ) (a : ZXAttribute) → our_attribute a ≡ attribute_of y → our_attribute (cond t (cell_of v) a) ≡ attribute_of (cond t v y)
through true v y a e = attribute_there (attribute_of v)
through false v y a e = e

-- ONE BYTE: a bank that mirrors a page mirrors it still when the byte is stored in both.
pub put_mirrors : (rel v : ℕ) (b : ScreenBank) (page : List ℕ) → rel < length page → Mirrors b page → Mirrors (put rel v b) (set page rel v)
put_mirrors rel v b page h r =
    record {
      bitmap_long = put_bitmap_long rel v b ∙ r.bitmap_long;
      attributes_long = put_attributes_long rel v b ∙ r.attributes_long;
      bitmap = λ k l.
          put_bitmap_lem rel v b r.bitmap_long k l
          ∙ ap (λ (n : ℕ). cond (eqb (offset_of k) rel) v n) (r.bitmap k l)
          ∙ sym (stored page rel v (offset_of k) h);
      attributes = λ j l.
          ap our_attribute (put_attribute_lem rel v b r.attributes_long j l)
          ∙ through (eqb (0x1800 + j) rel) v (get_or page (0x1800 + j) 0) (get_or b.attributes j black_attribute) (r.attributes j l)
          ∙ ap attribute_of (sym (stored page rel v (0x1800 + j) h));
    }

-- ---- a refresh
-- the cells of the first n offsets are the page's
record Upto (page : List ℕ) (n : ℕ) (b : ScreenBank) : Type 0 where
  bitmap_long : length b.bitmap ≡ 6144
  attributes_long : length b.attributes ≡ 768
  bitmap : (k : ℕ) → k < 6144 → offset_of k < n → get_or b.bitmap k 0 ≡ get_or page (offset_of k) 0
  attributes : (j : ℕ) → j < 768 → 0x1800 + j < n → our_attribute (get_or b.attributes j black_attribute) ≡ attribute_of (get_or page (0x1800 + j) 0)

one_more : (page : List ℕ) (n : ℕ) (b : ScreenBank) → Upto page n b → Upto page (suc n) (put n (get_or page n 0) b)
one_more page n b r =
    record {
      bitmap_long = put_bitmap_long n (get_or page n 0) b ∙ r.bitmap_long;
      attributes_long = put_attributes_long n (get_or page n 0) b ∙ r.attributes_long;
      bitmap = λ k l u.
          put_bitmap_lem n (get_or page n 0) b r.bitmap_long k l
          ∙ by_eq (λ (x : ℕ). x ≡ get_or page (offset_of k) 0) (offset_of k) n (λ e. ap (λ (i : ℕ). get_or page i 0) (sym e)) (λ e. r.bitmap k l (omega arith));
      attributes = λ j l u.
          ap our_attribute (put_attribute_lem n (get_or page n 0) b r.attributes_long j l)
          ∙ by_eq (λ (x : ZXAttribute). our_attribute x ≡ attribute_of (get_or page (0x1800 + j) 0)) (0x1800 + j) n
          (λ e. attribute_there (attribute_of (get_or page n 0)) ∙ ap (λ (i : ℕ). attribute_of (get_or page i 0)) (sym e)) (λ e. r.attributes j l (omega arith));
    }

-- every byte of a page put into a bank, one after the other
abbrev pub put_all : List ℕ → ℕ → ScreenBank → ScreenBank
put_all page n b = each 0 n (λ i. put i (get_or page i 0)) b

-- A WHOLE PAGE: after all 16,384 updates a bank mirrors the page, whatever it held before.
pub all_mirrors : (page : List ℕ) (b : ScreenBank) → length b.bitmap ≡ 6144 → length b.attributes ≡ 768 → Mirrors (put_all page 16384 b) page
all_mirrors page b p q =
    let u = each_keeps (Upto page) 0 16384 (λ i. put i (get_or page i 0)) b
    (λ k x h r. rw (zero-add k) (one_more page k x r))
    (record { bitmap_long = p; attributes_long = q; bitmap = λ k l h. absurd (omega arith); attributes = λ j l h. absurd (omega arith) }) in
    record {
      bitmap_long = u.bitmap_long;
      attributes_long = u.attributes_long;
      bitmap = λ k h. u.bitmap k h (omega (arith, offset_small (k / 32) (k % 32) (omega arith) (omega arith)));
      attributes = λ j h. u.attributes j h (omega arith);
    }
