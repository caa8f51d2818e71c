-- The floating bus: where its places and addresses lie, that document 01's place is the pages' fetch at every clock, and at which T-state, and at no
-- other, each byte of the picture is fetched.
-- Assumes nothing.
use Prim.Native.Nat.{ℕ, zero, suc, ◌+◌, ◌-◌, ◌*◌, ◌/◌, ◌%◌, ◌≤◌, ◌<◌}
use mathlib.Core.Path.{◌≡◌, refl, sym, ap, ap₂, ◌∙◌, subst}
use mathlib.Core.Bool.{cond}
use native.Mathlib.Nat.{mod-eq_of_lt, mod-eq-sub-mod, div-eq_of_lt, div-eq-sub-div, div-add-mod', mul-add-div_right, mul-add-mod_self_right, suc-mul}
use native.Mathlib.Omega.{arith}
use borrow.Author.Tests.{lt-ltb, le-ltb, le-leb, lt-leb, eq-eqb, ne_eqb}
use lib.Dec.{ltb, eqb}
use Rattle.std.specs.Prelude.{Option, Some, None}
use Rattle.laws.proofs.Cases.{split, by_lt, by_le, by_eq}
use Rattle.machine.specs.declared.ZXMachine.{ZXMachine}
use Rattle.machine.specs.declared.ZXMachine.TheVariants.{Sinclair48K}
use Rattle.machine.specs.declared.ZXSpecs.{ZXSpecs}
use Rattle.machine.specs.Numbers.{specs_of}
use Rattle.machine.specs.Pages.{Page, page_of, laps}
use Rattle.machine.proofs.Agree.{Same, same as same_numbers}
use Rattle.ports.specs.declared.Fetched.{Fetched}
use Rattle.ports.specs.declared.Fetched.TheVariants.{Bitmap, Attribute}
use Rattle.ports.specs.Floating.{column_at, floating_in, floating_place, floating_address}
use Rattle.offsets.proofs.Agree.{agree_bitmap, agree_attribute}
use Rattle.ports.specs.Pages.{Fetch, idle, bitmap_byte, attribute_byte, groups, fetches, first_fetch, page_floating, bitmap_in, bitmap_at, attribute_at, byte_of, seen_in, page_seen}
use Rattle.ports.specs.Terms.{as_place, seen_at, document_seen, page_at4000}

-- ---- bounds
-- a place that is not idle is one of 192 lines and 32 columns
abbrev pub Within : Option Fetched → Type 0
Within None = Unit {0}
Within (Some (Bitmap row column)) = (row < 192) × (column < 32)
Within (Some (Attribute row column)) = (row < 192) × (column < 32)

in_within : (row r : ℕ) → Within (floating_in row r)
unfolding floating_in
in_within row r =
    by_le Within 192 row (λ h. tt)
    (λ h. by_le Within 124 r (λ g. tt)
    (λ g. by_lt Within 3 (r % 8) (λ f. tt)
    (λ f. by_eq Within (r % 2) 0 (λ e. (h, omega arith)) (λ e. (h, omega arith)))))

pub place_within : (s : ZXSpecs) (clock : ℕ) → Within (floating_place s clock)
unfolding floating_place
place_within s clock =
    by_lt Within clock s.block (λ h. tt) (λ h. in_within ((clock - s.block) / s.line) ((clock - s.block) % s.line))

-- the address of a place: 4000h to 57FFh for a bitmap byte, 5800h to 5AFFh for an attribute
abbrev pub Picture : Option ℕ → Type 0
Picture None = Unit {0}
Picture (Some a) = (0x4000 ≤ a) × (a ≤ 0x5AFF)

address_in : (p : Option Fetched) → Within p → Picture (floating_address p)
address_in None w = tt
address_in (Some (Bitmap row column)) w = (omega arith, omega (arith, w.0, w.1))
address_in (Some (Attribute row column)) w = (omega arith, omega (arith, w.0, w.1))

-- the floating bus never reads outside 4000h to 5AFFh, at any clock, on any machine's numbers
pub address_bounds : (s : ZXSpecs) (clock a : ℕ) → floating_address (floating_place s clock) ≡ Some a → (0x4000 ≤ a) × (a ≤ 0x5AFF)
address_bounds s clock a e = subst Picture e (address_in (floating_place s clock) (place_within s clock))

-- ---- one line: sixteen groups of eight T-states are document 01's remainder rule
-- document 01's byte, with the columns counted from a first one
from : ℕ → ℕ → ℕ → Option Fetched
from row column x =
    cond (ltb 3 (x % 8)) None (cond (eqb (x % 2) 0) (Some (Bitmap row (column + column_at x))) (Some (Attribute row (column + column_at x))))

from_next : (row column x : ℕ) → from row (column + 2) x ≡ from row column (8 + x)
unfolding from
from_next row column x =
    let e₁ : (8 + x) % 8 ≡ x % 8 = omega arith in
    let e₂ : (8 + x) % 2 ≡ x % 2 = omega arith in
    let e₃ : column + column_at (8 + x) ≡ column + 2 + column_at x = omega arith in
    rw (e₃, e₁, e₂)

-- inside k groups
groups_in : (k row column x : ℕ) → x < 8 * k → as_place (groups k row column x) ≡ from row column x
unfolding groups from
groups_in zero row column x h = let z : ⊥ = omega arith in absurd z
groups_in (suc k) row column zero h = ap (λ (c : ℕ). Some (Bitmap row c)) (omega arith)
groups_in (suc k) row column (suc zero) h = ap (λ (c : ℕ). Some (Attribute row c)) (omega arith)
groups_in (suc k) row column (suc (suc zero)) h = ap (λ (c : ℕ). Some (Bitmap row c)) (omega arith)
groups_in (suc k) row column (suc (suc (suc zero))) h = ap (λ (c : ℕ). Some (Attribute row c)) (omega arith)
groups_in (suc k) row column (suc (suc (suc (suc zero)))) h = refl
groups_in (suc k) row column (suc (suc (suc (suc (suc zero))))) h = refl
groups_in (suc k) row column (suc (suc (suc (suc (suc (suc zero)))))) h = refl
groups_in (suc k) row column (suc (suc (suc (suc (suc (suc (suc zero))))))) h = refl
groups_in (suc k) row column (suc (suc (suc (suc (suc (suc (suc (suc x)))))))) h =
    let e : 8 + x ≡ suc (suc (suc (suc (suc (suc (suc (suc x))))))) = omega arith in
    groups_in k row (column + 2) x (omega arith) ∙ (from_next row column x ∙ ap (from row column) e)

-- and past them
groups_past : (k row column x : ℕ) → 8 * k ≤ x → as_place (groups k row column x) ≡ None
unfolding groups
groups_past zero row column x h = refl
groups_past (suc k) row column zero h = let z : ⊥ = omega arith in absurd z
groups_past (suc k) row column (suc zero) h = let z : ⊥ = omega arith in absurd z
groups_past (suc k) row column (suc (suc zero)) h = let z : ⊥ = omega arith in absurd z
groups_past (suc k) row column (suc (suc (suc zero))) h = let z : ⊥ = omega arith in absurd z
groups_past (suc k) row column (suc (suc (suc (suc zero)))) h = refl
groups_past (suc k) row column (suc (suc (suc (suc (suc zero))))) h = refl
groups_past (suc k) row column (suc (suc (suc (suc (suc (suc zero)))))) h = refl
groups_past (suc k) row column (suc (suc (suc (suc (suc (suc (suc zero))))))) h = refl
groups_past (suc k) row column (suc (suc (suc (suc (suc (suc (suc (suc x)))))))) h = groups_past k row (column + 2) x (omega arith)

-- the 124 of document 01 falls in the last group's idle T-states
line_is : (row r : ℕ) → row < 192 → as_place (groups 16 row 0 r) ≡ floating_in row r
unfolding floating_in from
line_is row r h =
    split 128 r
    (λ g. groups_past 16 row 0 r g ∙ sym (rw (lt-leb 192 row h, le-leb 124 r (omega arith))))
    (λ g. split 124 r
    (λ f. groups_in 16 row 0 r g ∙ rw (lt-leb 192 row h, le-leb 124 r f, lt-ltb 3 (r % 8) (omega arith)))
    (λ f.
    let e : 0 + column_at r ≡ column_at r = omega arith in
    groups_in 16 row 0 r g ∙ rw (lt-leb 192 row h, lt-leb 124 r f, e)))

-- ---- line after line
late : (row r : ℕ) → 192 ≤ row → floating_in row r ≡ None
unfolding floating_in
late row r h = rw (le-leb 192 row h)

-- document 01's place, with the lines counted from a first one
document : ℕ → ℕ → ℕ → ℕ → Option Fetched
document row start line t = cond (ltb t start) None (floating_in (row + (t - start) / line) ((t - start) % line))

fetches_is : (k row start line t : ℕ) → row + k ≡ 192 → 0 < line → as_place (fetches k row start line t) ≡ document row start line t
unfolding fetches document
fetches_is zero row start line t e w =
    split start t
    (λ h. rw (le-ltb t start h) (sym (late (row + (t - start) / line) ((t - start) % line) (omega arith))))
    (λ h. rw (lt-ltb t start h))
fetches_is (suc k) row start line t e w =
    split start t
    (λ h. split (start + line) t
    (λ g.
    let d : t - start - line ≡ t - (start + line) = omega arith in
    let q : (t - start) / line ≡ (t - (start + line)) / line + 1 = div-eq-sub-div {m = line} {n = t - start} w (omega arith) ∙ ap (λ (x : ℕ). x / line + 1) d in
    let r : (t - start) % line ≡ (t - (start + line)) % line = mod-eq-sub-mod {n = t - start} {m = line} (omega arith) ∙ ap (λ (x : ℕ). x % line) d in
    let s : row + ((t - (start + line)) / line + 1) ≡ suc row + (t - (start + line)) / line = omega arith in
    rw (le-ltb t start h, le-ltb t (start + line) g, q, r, s)
    (fetches_is k (suc row) (start + line) line t (omega arith) w ∙ rw (le-ltb t (start + line) g)))
    (λ g.
    let s : row + 0 ≡ row = omega arith in
    rw (le-ltb t start h, lt-ltb t (start + line) g, div-eq_of_lt {n = t - start} {m = line} (omega arith), mod-eq_of_lt {n = t - start} {m = line} (omega arith), s)
    (line_is row (t - start) (omega arith))))
    (λ h. rw (lt-ltb t start h))

-- the pages' fetch is document 01's place at every clock, on any machine whose two sets of numbers go together
pub agree_floating : (p : Page) (s : ZXSpecs) → Same p s → (t : ℕ) → as_place (page_floating p t) ≡ floating_place s t
unfolding document floating_place
agree_floating p s e t =
    rw (e.line, e.block)
    (fetches_is 192 0 s.block s.line t refl (omega (arith, e.wide)) ∙ ap (λ (q : ℕ). cond (ltb t s.block) None (floating_in q ((t - s.block) % s.line))) (omega arith))

-- ---- at which T-state a byte is fetched
laps_is : (k n : ℕ) → laps k n ≡ k * n
unfolding laps
laps_is zero n = omega arith
laps_is (suc k) n = omega (arith, laps_is k n, suc-mul k n)

-- the T-states from the start of a line to a column's bitmap byte
abbrev into_line : ℕ → ℕ
into_line column = 8 * (column / 2) + 2 * (column % 2)

bitmap_in_lem : (start column : ℕ) → bitmap_in start column ≡ start + into_line column
unfolding bitmap_in
bitmap_in_lem start zero = omega arith
bitmap_in_lem start (suc zero) = omega arith
bitmap_in_lem start (suc (suc column)) = omega (arith, bitmap_in_lem (start + 8) column)

-- lines, groups and columns as a sum
pub bitmap_sum : (p : Page) (row column : ℕ) → bitmap_at p row column ≡ first_fetch p + row * p.per_line + (8 * (column / 2) + 2 * (column % 2))
bitmap_sum p row column = omega (arith, bitmap_in_lem (first_fetch p + laps row p.per_line) column, laps_is row p.per_line)

in_bitmap : (row column : ℕ) → row < 192 → column < 32 → floating_in row (into_line column) ≡ Some (Bitmap row column)
unfolding floating_in
in_bitmap row column h g =
    let x = into_line column in
    let e : column_at x ≡ column = omega arith in
    rw (lt-leb 192 row h, lt-leb 124 x (omega arith), le-ltb 3 (x % 8) (omega arith), eq-eqb (x % 2) 0 (omega arith)) (ap (λ (c : ℕ). Some (Bitmap row c)) e)

in_attribute : (row column : ℕ) → row < 192 → column < 32 → floating_in row (into_line column + 1) ≡ Some (Attribute row column)
unfolding floating_in
in_attribute row column h g =
    let x = into_line column + 1 in
    let e : column_at x ≡ column = omega arith in
    rw (lt-leb 192 row h, lt-leb 124 x (omega arith), le-ltb 3 (x % 8) (omega arith), ne_eqb (x % 2) 0 (λ (z : x % 2 ≡ 0). omega arith)) (ap (λ (c : ℕ). Some (Attribute row c)) e)

document_at : (start line row x t : ℕ) → x < line → t ≡ start + row * line + x → document 0 start line t ≡ floating_in row x
unfolding document
document_at start line row x t h e =
    let d : t - start ≡ row * line + x = omega arith in
    let p : 0 < line = omega arith in
    let q : 0 + (row * line + x) / line ≡ row =
    ap (λ (y : ℕ). 0 + y) (mul-add-div_right {m = line} p row x ∙ ap (λ (y : ℕ). row + y) (div-eq_of_lt {n = x} {m = line} h)) ∙ omega arith in
    let r : (row * line + x) % line ≡ x = mul-add-mod_self_right row line x ∙ mod-eq_of_lt {n = x} {m = line} h in
    rw (le-ltb t start (omega arith), d, q, r)

-- an idle T-state fetches no byte, and one that fetches a byte of the bitmap fetches no attribute
abbrev kind_of : Option Fetched → ℕ
kind_of None = 0
kind_of (Some (Bitmap row column)) = 1
kind_of (Some (Attribute row column)) = 2

clash : {A : Type 0} {x y : Option Fetched} → x ≡ y → (kind_of x ≡ kind_of y → ⊥) → A
clash e n = absurd (n (ap kind_of e))

-- a byte is fetched in one line, and there at one T-state
in_bitmap_only : (q r row column : ℕ) → floating_in q r ≡ Some (Bitmap row column) → (q ≡ row) × (r ≡ into_line column)
unfolding floating_in
in_bitmap_only q r row column =
    let P : Option Fetched → Type 0 = λ x. x ≡ Some (Bitmap row column) → (q ≡ row) × (r ≡ into_line column) in
    by_le P 192 q (λ h e. clash e (λ z. omega arith))
    (λ h. by_le P 124 r (λ g e. clash e (λ z. omega arith))
    (λ g. by_lt P 3 (r % 8) (λ f e. clash e (λ z. omega arith))
    (λ f. by_eq P (r % 2) 0
    (λ o e. let a : q ≡ row = cc in let b : column_at r ≡ column = cc in (a, omega arith))
    (λ o e. clash e (λ z. omega arith)))))

in_attribute_only : (q r row column : ℕ) → floating_in q r ≡ Some (Attribute row column) → (q ≡ row) × (r ≡ into_line column + 1)
unfolding floating_in
in_attribute_only q r row column =
    let P : Option Fetched → Type 0 = λ x. x ≡ Some (Attribute row column) → (q ≡ row) × (r ≡ into_line column + 1) in
    by_le P 192 q (λ h e. clash e (λ z. omega arith))
    (λ h. by_le P 124 r (λ g e. clash e (λ z. omega arith))
    (λ g. by_lt P 3 (r % 8) (λ f e. clash e (λ z. omega arith))
    (λ f. by_eq P (r % 2) 0
    (λ o e. clash e (λ z. omega arith))
    (λ o e. let a : q ≡ row = cc in let b : column_at r ≡ column = cc in (a, omega arith)))))

-- from the line and the T-state in it back to the T-state of the frame
rejoined : (start line row x t : ℕ) → start ≤ t → ((t - start) / line ≡ row) × ((t - start) % line ≡ x) → t ≡ start + row * line + x
rejoined start line row x t h e =
    let d : row * line + x ≡ t - start = ap₂ (λ (y z : ℕ). y * line + z) (sym e.0) (sym e.1) ∙ div-add-mod' (t - start) line in
    omega arith

document_bitmap : (start line t row column : ℕ) → document 0 start line t ≡ Some (Bitmap row column) → t ≡ start + row * line + into_line column
unfolding document
document_bitmap start line t row column =
    by_lt (λ (x : Option Fetched). x ≡ Some (Bitmap row column) → t ≡ start + row * line + into_line column) t start
    (λ h e. clash e (λ z. omega arith))
    (λ h e. let i = in_bitmap_only (0 + (t - start) / line) ((t - start) % line) row column e in rejoined start line row (into_line column) t h (omega (arith, i.0), i.1))

document_attribute : (start line t row column : ℕ) → document 0 start line t ≡ Some (Attribute row column) → t ≡ start + row * line + (into_line column + 1)
unfolding document
document_attribute start line t row column =
    by_lt (λ (x : Option Fetched). x ≡ Some (Attribute row column) → t ≡ start + row * line + (into_line column + 1)) t start
    (λ h e. clash e (λ z. omega arith))
    (λ h e. let i = in_attribute_only (0 + (t - start) / line) ((t - start) % line) row column e in rejoined start line row (into_line column + 1) t h (omega (arith, i.0), i.1))

-- what is not idle in document 01's terms is the same byte in the pages'
bitmap_back : (f : Fetch) (row column : ℕ) → as_place f ≡ Some (Bitmap row column) → f ≡ bitmap_byte row column
bitmap_back idle row column e = clash e (λ z. omega arith)
bitmap_back (attribute_byte r c) row column e = clash e (λ z. omega arith)
bitmap_back (bitmap_byte r c) row column e = let a : r ≡ row = cc in let b : c ≡ column = cc in ap₂ bitmap_byte a b

attribute_back : (f : Fetch) (row column : ℕ) → as_place f ≡ Some (Attribute row column) → f ≡ attribute_byte row column
attribute_back idle row column e = clash e (λ z. omega arith)
attribute_back (bitmap_byte r c) row column e = clash e (λ z. omega arith)
attribute_back (attribute_byte r c) row column e = let a : r ≡ row = cc in let b : c ≡ column = cc in ap₂ attribute_byte a b

-- each byte of the picture is fetched at its T-state, and at no other, on any page whose lines have room for the sixteen groups
module _ (p : Page) (w : 128 ≤ p.per_line) (row column : ℕ) where
  at_page : (t : ℕ) → as_place (page_floating p t) ≡ document 0 (first_fetch p) p.per_line t
  at_page t = fetches_is 192 0 (first_fetch p) p.per_line t refl (omega arith)

  pub bitmap_fetched : row < 192 → column < 32 → page_floating p (bitmap_at p row column) ≡ bitmap_byte row column
  bitmap_fetched h g =
      bitmap_back (page_floating p (bitmap_at p row column)) row column
      (at_page (bitmap_at p row column) ∙ (document_at (first_fetch p) p.per_line row (into_line column) (bitmap_at p row column) (omega arith) (bitmap_sum p row column) ∙ in_bitmap row column h g))

  pub attribute_fetched : row < 192 → column < 32 → page_floating p (attribute_at p row column) ≡ attribute_byte row column
  attribute_fetched h g =
      attribute_back (page_floating p (attribute_at p row column)) row column
      (at_page (attribute_at p row column) ∙ (document_at (first_fetch p) p.per_line row (into_line column + 1) (attribute_at p row column) (omega arith) (omega (arith, bitmap_sum p row column)) ∙ in_attribute row column h g))

  pub bitmap_only : (t : ℕ) → page_floating p t ≡ bitmap_byte row column → t ≡ bitmap_at p row column
  bitmap_only t e = document_bitmap (first_fetch p) p.per_line t row column (sym (at_page t) ∙ ap as_place e) ∙ sym (bitmap_sum p row column)

  pub attribute_only : (t : ℕ) → page_floating p t ≡ attribute_byte row column → t ≡ attribute_at p row column
  attribute_only t e =
      let d = document_attribute (first_fetch p) p.per_line t row column (sym (at_page t) ∙ ap as_place e) in
      omega (arith, d, bitmap_sum p row column)

-- on 48K the first fetch is at the T-state that the page names, and none comes before it
pub first_fetch_48k : page_floating (page_of Sinclair48K) 14338 ≡ bitmap_byte 0 0
unfolding fetches groups
first_fetch_48k = refl

pub before_48k : (t : ℕ) → t < 14338 → page_floating (page_of Sinclair48K) t ≡ idle
unfolding fetches
before_48k t h = rw (lt-ltb t 14338 h)

seen_same : (page : ℕ) (f : Fetch) → Within (as_place f) → seen_in page f ≡ seen_at page (floating_address (as_place f))
seen_same page idle w = refl
seen_same page (bitmap_byte row column) w = ap (λ (a : ℕ). byte_of page (a - 0x4000)) (agree_bitmap row column (omega (arith, w.0)))
seen_same page (attribute_byte row column) w = ap (λ (a : ℕ). byte_of page (a - 0x4000)) (agree_attribute row column (omega (arith, w.0)))

seen_by : (m : ZXMachine) (shown t : ℕ) → page_seen m shown t ≡ seen_at shown (floating_address (floating_place (specs_of m) t))
seen_by m shown t =
    let e : as_place (page_floating (page_of m) t) ≡ floating_place (specs_of m) t = agree_floating (page_of m) (specs_of m) (same_numbers m) t in
    seen_same shown (page_floating (page_of m) t) (subst Within (sym e) (place_within (specs_of m) t))
    ∙ ap (λ (x : Option Fetched). seen_at shown (floating_address x)) e

-- the floating bus shows the pages' byte whenever the shown page is the one at 4000h: always on 48K, page 5 on 128K
pub seen_agree : (m : ZXMachine) (t : ℕ) → page_seen m (page_at4000 m) t ≡ document_seen m t
seen_agree m t = seen_by m (page_at4000 m) t

-- when another page is shown they agree at the idle clocks
pub seen_idle : (m : ZXMachine) (shown t : ℕ) → floating_address (floating_place (specs_of m) t) ≡ None → page_seen m shown t ≡ document_seen m t
seen_idle m shown t e = seen_by m shown t ∙ (ap (seen_at shown) e ∙ sym (ap (seen_at (page_at4000 m)) e))

-- and part at every other clock
pub seen_part : (m : ZXMachine) (shown t a : ℕ) → (shown ≡ page_at4000 m → ⊥) → floating_address (floating_place (specs_of m) t) ≡ Some a
    → page_seen m shown t ≡ document_seen m t → ⊥
seen_part m shown t a n e h =
    let p : byte_of shown (a - 0x4000) ≡ byte_of (page_at4000 m) (a - 0x4000) =
    sym (ap (seen_at shown) e) ∙ (sym (seen_by m shown t) ∙ (h ∙ ap (seen_at (page_at4000 m)) e)) in
    let q : shown ≡ page_at4000 m = cc in
    n q
