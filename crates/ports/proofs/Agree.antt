-- Document 01's port decoding and keys (specs/Order, specs/Keys) in the pages' terms (specs/Terms) against the public pages' (specs/Pages): where they
-- agree, and exactly where they part.
-- Assumes nothing.
use Prim.Native.Nat.{ℕ, zero, suc, ◌+◌, ◌≤◌, ◌<◌}
use mathlib.Core.Path.{◌≡◌, refl, sym, ap, ap₂, ◌∙◌, subst}
use mathlib.Core.Bool.{Bool, true, false, cond, not, ◌&&◌, ◌||◌, beq, or-true}
use mathlib.Core.List.{List, [], ◌∷◌}
use native.Mathlib.Omega.{arith}
use borrow.Author.Tests.{lt-ltb, le-ltb, eq-eqb, ne_eqb}
use lib.Dec.{eqb}
use lib.ListN.{get_or}
use lib.Bits.{bit_and}
use Rattle.std.specs.Prelude.{Some, None}
use Rattle.laws.proofs.Below.{same_bool}
use Rattle.laws.proofs.Cases.{split, by_eq, cond_same, and_left, and_right}
use Rattle.machine.specs.declared.ZXMachine.{ZXMachine}
use Rattle.machine.specs.declared.ZXMachine.TheVariants.{Sinclair48K, Sinclair128K}
use Rattle.ports.specs.declared.Device.{Device}
use Rattle.ports.specs.declared.Device.TheVariants.{Absent, Present}
use Rattle.ports.specs.declared.Devices.{Devices}
use Rattle.ports.specs.Keys.{selected, row_in, rows_and, keys_read}
use Rattle.ports.specs.Order.{has7ffd, paging_port, ay_byte, read_order}
use Rattle.ports.specs.Hearers.{Hearer, ay_select, ay_write, border, paging, listens, first_of, port_hearers}
use Rattle.ports.specs.Pages.{is_set, has_paging, ula_lines, select_lines, Heard, page_write, ula, register, nobody, page_read, read_also_pages, key_up, column_up, page_key_bit, Keyboard}
use Rattle.ports.specs.Terms.{heard_by, write_parts, is_fitted, as_answer}
use Rattle.ports.proofs.Rows.{rows_byte}
use Rattle.ports.proofs.Bits.{bit_off, bit_and_lem, toggles}
use Rattle.ports.proofs.Classes.{even_lines, select_lines_lem, data_lines_lem, paging_lines_lem}
use Rattle.ports.proofs.Bools.{beq_refl, beq_eq, same_six}

-- ---- writes
same_heard : Heard → Heard → Bool
same_heard h k =
    beq h.border k.border && beq h.paging k.paging && beq h.select k.select && beq h.writes k.writes

heard_refl : (h : Heard) → same_heard h h ≡ true
unfolding same_heard
heard_refl h = rw (beq_refl h.border, beq_refl h.paging, beq_refl h.select, beq_refl h.writes)

heard_eq : (h k : Heard) → same_heard h k ≡ true → h ≡ k
unfolding same_heard
heard_eq h k e =
    let b = beq h.border k.border in
    let p = beq h.paging k.paging in
    let s = beq h.select k.select in
    let w = beq h.writes k.writes in
    let e₃ : (b && p && s) ≡ true = and_left (b && p && s) w e in
    let e₂ : (b && p) ≡ true = and_left (b && p) s e₃ in
    let q₁ : h.border ≡ k.border = beq_eq h.border k.border (and_left b p e₂) in
    let q₂ : h.paging ≡ k.paging = beq_eq h.paging k.paging (and_right b p e₂) in
    let q₃ : h.select ≡ k.select = beq_eq h.select k.select (and_right (b && p) s e₃) in
    let q₄ : h.writes ≡ k.writes = beq_eq h.writes k.writes (and_right (b && p && s) w e) in
    λ i. record { border = q₁ i; paging = q₂ i; select = q₃ i; writes = q₄ i }

-- document 01's write order over the five lines that it looks at
by_lines : Bool → Bool → Bool → Bool → Bool → List Hearer
by_lines pages a0 a1 a14 a15 =
    first_of
    (listens ay_select (a15 && a14 && not a1) ∷
    listens ay_write (a15 && not a14 && not a1) ∷
    listens border (not a0) ∷
    listens paging (not a15 && not a1 && pages) ∷
    [])

-- the machine that has 7FFDh is the same by both
pub paging_machines : (m : ZXMachine) → has7ffd m ≡ has_paging m
paging_machines Sinclair48K = refl
paging_machines Sinclair128K = refl

by_lines_lem : (m : ZXMachine) (port : ℕ) → port_hearers m port ≡ by_lines (has_paging m) (is_set 0 port) (is_set 1 port) (is_set 14 port) (is_set 15 port)
unfolding port_hearers by_lines
by_lines_lem m port = rw (select_lines_lem port, data_lines_lem port, even_lines port, paging_lines_lem port, paging_machines m)

heard_lines : Bool → Bool → Bool → Bool → Bool → Bool → Heard
heard_lines pages fitted a0 a1 a14 a15 =
    record {
      border = not a0;
      paging = pages && (not a15 && not a1);
      select = fitted && (a15 && a14 && not a1);
      writes = fitted && (a15 && not a14 && not a1);
    }

part_lines : Bool → Bool → Bool → Bool → Bool → Bool → Bool
part_lines pages fitted a0 a1 a14 a15 = not a1 && cond a15 (not a0 || not fitted) (not a0 && pages)

-- in all 64 cases of the lines, the machine and the AY
lines_tell : (pages fitted a0 a1 a14 a15 : Bool)
    → same_heard (heard_by (by_lines pages a0 a1 a14 a15)) (heard_lines pages fitted a0 a1 a14 a15) ≡ not (part_lines pages fitted a0 a1 a14 a15)
unfolding same_heard by_lines heard_lines part_lines
lines_tell =
    same_six
    (λ pages fitted a0 a1 a14 a15. same_heard (heard_by (by_lines pages a0 a1 a14 a15)) (heard_lines pages fitted a0 a1 a14 a15))
    (λ pages fitted a0 a1 a14 a15. not (part_lines pages fitted a0 a1 a14 a15))
    tt

writes_tell : (m : ZXMachine) (fitted : Bool) (port : ℕ) → same_heard (heard_by (port_hearers m port)) (page_write m fitted port) ≡ not (write_parts m fitted port)
unfolding heard_lines part_lines
writes_tell m fitted port =
    rw (by_lines_lem m port)
    (lines_tell (has_paging m) fitted (is_set 0 port) (is_set 1 port) (is_set 14 port) (is_set 15 port))

module _ (m : ZXMachine) (fitted : Bool) (port : ℕ) where
  -- outside `write_parts` a write is heard by exactly those whom the pages name
  pub writes_agree : write_parts m fitted port ≡ false → heard_by (port_hearers m port) ≡ page_write m fitted port
  writes_agree e = heard_eq (heard_by (port_hearers m port)) (page_write m fitted port) (writes_tell m fitted port ∙ ap not e)

  -- and at each of its ports it is not
  pub writes_part : write_parts m fitted port ≡ true → heard_by (port_hearers m port) ≡ page_write m fitted port → ⊥
  writes_part e h =
      let p : same_heard (heard_by (port_hearers m port)) (page_write m fitted port) ≡ true =
      subst (λ (k : Heard). same_heard (heard_by (port_hearers m port)) k ≡ true) h (heard_refl (heard_by (port_hearers m port))) in
      let q : same_heard (heard_by (port_hearers m port)) (page_write m fitted port) ≡ false = writes_tell m fitted port ∙ ap not e in
      let z : ◌≡◌ {A = Bool} true false = sym p ∙ q in
      let y : ◌≡◌ {A = ℕ} 0 1 = cc in
      omega arith

-- on 128K with its AY the two part exactly at the ports with A1 and A0 reset, the multiples of 4
pub parts_128k : (port : ℕ) → write_parts Sinclair128K true port ≡ (not (is_set 1 port) && not (is_set 0 port))
parts_128k port = of_lines (is_set 0 port) (is_set 1 port) (is_set 15 port) where
  of_lines : (a0 a1 a15 : Bool) → (not a1 && cond a15 (not a0 || false) (not a0 && true)) ≡ (not a1 && not a0)
  of_lines true true a15 = refl
  of_lines false true a15 = refl
  of_lines true false true = refl
  of_lines true false false = refl
  of_lines false false true = refl
  of_lines false false false = refl

-- on 48K with an AY fitted they part at the even ports of the AY's classes
pub parts_48k : (port : ℕ) → write_parts Sinclair48K true port ≡ (is_set 15 port && not (is_set 1 port) && not (is_set 0 port))
parts_48k port = of_lines (is_set 0 port) (is_set 1 port) (is_set 15 port) where
  of_lines : (a0 a1 a15 : Bool) → (not a1 && cond a15 (not a0 || false) (not a0 && false)) ≡ (a15 && not a1 && not a0)
  of_lines true true true = refl
  of_lines true true false = refl
  of_lines true false true = refl
  of_lines true false false = refl
  of_lines false true true = refl
  of_lines false true false = refl
  of_lines false false true = refl
  of_lines false false false = refl

-- on a bare 48K they part at all ports of the AY's classes: an odd one gets a code though nobody is there
pub parts_bare_48k : (port : ℕ) → write_parts Sinclair48K false port ≡ (is_set 15 port && not (is_set 1 port))
parts_bare_48k port = of_lines (is_set 0 port) (is_set 1 port) (is_set 15 port) where
  of_lines : (a0 a1 a15 : Bool) → (not a1 && cond a15 (not a0 || true) (not a0 && false)) ≡ (a15 && not a1)
  of_lines true true true = refl
  of_lines true true false = refl
  of_lines true false true = refl
  of_lines true false false = refl
  of_lines false true true = refl
  of_lines false true false = refl
  of_lines false false true = refl
  of_lines false false false = refl

-- 7FFCh on 128K: a border write and no more, where the pages set the border and page
pub border_7_ffc : port_hearers Sinclair128K 0x7FFC ≡ border ∷ []
unfolding port_hearers
border_7_ffc = refl

pub page_7_ffc : page_write Sinclair128K true 0x7FFC ≡ record { border = true; paging = true; select = false; writes = false }
page_7_ffc = refl

-- FFFCh: the AY and no border, where the pages have both
pub select_fffc : (m : ZXMachine) → port_hearers m 0xFFFC ≡ ay_select ∷ []
unfolding port_hearers
select_fffc m = refl

pub page_fffc : (m : ZXMachine) → page_write m true 0xFFFC ≡ record { border = true; paging = false; select = true; writes = false }
page_fffc Sinclair48K = refl
page_fffc Sinclair128K = refl

-- ---- reads
ay_inner : (a : Device ℕ) (t : Bool) → cond t (ay_byte a) None ≡ cond (is_fitted a && t) (ay_byte a) None
ay_inner Absent t = cond_same t None
ay_inner (Present byte) t = refl

answered : (a : Device ℕ) (keys : ℕ) (t u : Bool) → as_answer a keys (cond t ula (cond u register nobody)) ≡ cond t (Some keys) (cond u (ay_byte a) None)
answered a keys true u = refl
answered a keys false true = refl
answered a keys false false = refl

-- with no extender, mouse or joystick, which no page knows, a read is answered by the device that the pages name
pub reads_agree : (d : Devices) (port : ℕ) → d.extender ≡ Absent → d.mouse ≡ Absent → d.joystick ≡ Absent
    → read_order d port ≡ as_answer d.ay (keys_read d.rows d.tape port) (page_read (is_fitted d.ay) port)
unfolding read_order
reads_agree d port e m j =
    rw (e, m, j, even_lines port, select_lines_lem port, ay_inner d.ay (select_lines port))
    (sym (answered d.ay (keys_read d.rows d.tape port) (ula_lines port) (is_fitted d.ay && select_lines port)))

-- the ports whose read pages by the 128K page, and never by document 01, are those whose odd ones page when written
pub read_pages : (port : ℕ) → read_also_pages Sinclair128K port ≡ paging_port port
read_pages port = sym (paging_lines_lem port)

-- ---- keys
all_set : (b : ℕ) → b < 8 → is_set b 0xFF ≡ true
all_set = same_bool (λ b. is_set b 0xFF) (λ b. true) 8 tt

row_bits : (rows : List ℕ) (n b : ℕ) → is_set b (row_in rows n) ≡ key_up rows n b
row_bits rows n b =
    bit_and_lem b (bit_and (get_or rows n 0) (get_or rows (n + 8) 0)) (get_or rows (n + 16) 0)
    ∙ ap (λ (t : Bool). t && is_set b (get_or rows (n + 16) 0)) (bit_and_lem b (get_or rows n 0) (get_or rows (n + 8) 0))

counted : (t u : Bool) (rows : List ℕ) (n b : ℕ) → b < 8 → u ≡ not t → is_set b (cond u (row_in rows n) 0xFF) ≡ (t || key_up rows n b)
counted true u rows n b h e = rw e (all_set b h)
counted false u rows n b h e = rw e (row_bits rows n b)

selected_line : (port n : ℕ) → selected port n ≡ not (is_set (8 + n) port)
unfolding selected
selected_line port n = bit_off (8 + n) port

-- bit b of the rows' AND says whether a key of column b is down in a selected half row: for all eight bits and any bytes as rows
pub key_bits : (rows : List ℕ) (port b n : ℕ) → b < 8 → is_set b (rows_and rows port n) ≡ column_up rows port b n
unfolding rows_and column_up
key_bits rows port b zero h = all_set b h
key_bits rows port b (suc n) h =
    bit_and_lem b (rows_and rows port n) (cond (selected port n) (row_in rows n) 0xFF)
    ∙ ap₂ ◌&&◌ (key_bits rows port b n h) (counted (is_set (8 + n) port) (selected port n) rows n b h (selected_line port n))

-- on a keyboard's rows the bits above the keys are up
high_up : (rows : List ℕ) (port b : ℕ) → Keyboard rows → 5 ≤ b → b < 8 → (n : ℕ) → n ≤ 8 → column_up rows port b n ≡ true
unfolding column_up
high_up rows port b k g h zero l = refl
high_up rows port b k g h (suc n) l =
    rw (high_up rows port b k g h n (omega arith), k n (omega arith) b g h, k (n + 8) (omega arith) b g h, k (n + 16) (omega arith) b g h)
    (or-true (is_set (8 + n) port))

-- bits 0 to 4 of what is read at an even port are the pages' keys, whatever stands in the rows
pub agree_columns : (rows : List ℕ) (tape port b : ℕ) → b < 5 → is_set b (keys_read rows tape port) ≡ column_up rows port b 8
unfolding keys_read
agree_columns rows tape port b h =
    by_eq (λ (v : ℕ). is_set b v ≡ column_up rows port b 8) tape 0
    (λ e. toggles (rows_and rows port 8) b (rows_byte rows port 8) (omega arith)
    ∙ (rw (ne_eqb b 6 (λ (x : b ≡ 6). omega arith)) (key_bits rows port b 8 (omega arith))))
    (λ e. key_bits rows port b 8 (omega arith))

-- on a keyboard's rows bit 6 is the tape bit, and bits 5 and 7 are set
high_bit : (rows : List ℕ) (tape port b : ℕ) → Keyboard rows → 5 ≤ b → b < 8 → tape < 2
    → is_set b (keys_read rows tape port) ≡ cond (eqb b 6) (eqb tape 1) true
unfolding keys_read
high_bit rows tape port b k g h t =
    let up : is_set b (rows_and rows port 8) ≡ true = key_bits rows port b 8 h ∙ high_up rows port b k g h 8 (omega arith) in
    by_eq (λ (v : ℕ). is_set b v ≡ cond (eqb b 6) (eqb tape 1) true) tape 0
    (λ e. toggles (rows_and rows port 8) b (rows_byte rows port 8) h ∙ rw (up, ne_eqb tape 1 (λ (x : tape ≡ 1). omega arith)))
    (λ e. let o : tape ≡ 1 = omega arith in up ∙ sym (rw (eq-eqb tape 1 o) (cond_same (eqb b 6) true)))

-- so on a keyboard's rows the byte is, bit by bit, what the pages say, with the tape bit as the EAR input
pub agree_keys : (rows : List ℕ) (tape port : ℕ) → Keyboard rows → tape < 2 → (b : ℕ) → b < 8
    → is_set b (keys_read rows tape port) ≡ page_key_bit rows (eqb tape 1) port b
agree_keys rows tape port k t b h =
    split 5 b (λ g. rw (le-ltb b 5 g) (high_bit rows tape port b k g h t)) (λ g. rw (lt-ltb b 5 g) (agree_columns rows tape port b g))
