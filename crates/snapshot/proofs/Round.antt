-- SNAPSHOTS (02, Q-4): what a file that is made holds, read back; and what a file that is read gives, made again. What this says of the calls stands in crate
-- contracts.
-- Assumes nothing.
use Prim.Native.Nat.{ℕ, zero, suc, ◌+◌, ◌*◌, ◌/◌, ◌%◌, ◌≤◌, ◌<◌, suc-le-suc}
use mathlib.Core.Path.{◌≡◌, refl, sym, ap, ap₂, ◌∙◌}
use mathlib.Core.Bool.{Bool, true, false, cond, not, ◌&&◌, false≢true}
use mathlib.Core.List.{List, [], ◌∷◌, ◌++◌, append_assoc}
use native.Mathlib.Nat.{zero-lt-suc, suc_inj, mod-eq_of_lt}
use native.Mathlib.Omega.{arith}
use borrow.Author.Tests.{eqb-true, eqb-false, eq-eqb, not-true}
use lib.Dec.{eqb, lit<, lit≤}
use lib.ListN.{length, get_or, take, drop, length-append, length-drop, take-append-drop, drop_of_length-le, get_or-append}
use lib.Seq.{length-take-le, take_all, take-take, take-append-le, drop-cons, drop-drop, get_or_at, get_or-take, get_or-append-add, get_or-drop}
use Rattle.laws.proofs.Cases.{and_left, and_right, and_both}
use Rattle.laws.proofs.Spelled.{spelled}
use Rattle.machine.specs.declared.ZXMachine.{ZXMachine}
use Rattle.machine.specs.declared.ZXMachine.TheVariants.{Sinclair48K, Sinclair128K}
use Rattle.machine.specs.Numbers.{specs_of}
use Rattle.machine.specs.Limits.{page_length}
use Rattle.record.specs.Words.{byte_at}
use Rattle.memory.specs.Paging.{page_at}
use Rattle.memory.specs.Memory.{ram_page, page_part, peeked}
use Rattle.memory.proofs.Stored.{block_bytes}
use Rattle.snapshot.specs.File.{header_length, border_at, paging_byte_at, paged_bank, first_banks, remaining_banks, all_banks, banks_in_order, place_start, stands_twice, due_size, paging_in, border_in, bank_at, bank_in, first_place, laid, ram_in, same_bytes, copies_differ, copy_start}
use Rattle.snapshot.specs.Kept.{registers_length, last_three, registers_in, header_of, between, snapshot_file, kept_three}
use Rattle.snapshot.proofs.Laid.{Pieces, length_laid, piece_at, laid_cut}
use Rattle.snapshot.proofs.Order.{length_order, due_is_banks, due_least, first_three, three_banks, third_paged, ram_is_banks, place_fits, bank_exists, bank_whole, found_itself, found_first, found_inside, found_there, bank_is_place}
use Rattle.snapshot.proofs.Made.{early_start, early_cut, late_cut, bank_long, bank_byte, regrouped, made_long, made_head, made_behind, made_place}

-- ---- the same bytes
-- two lists that are the same by the test are equal,
pub same_is_equal : (a b : List ℕ) → same_bytes a b ≡ true → a ≡ b
unfolding same_bytes
same_is_equal [] [] e = refl
same_is_equal [] (y ∷ ys) e = absurd (false≢true e)
same_is_equal (x ∷ xs) [] e = absurd (false≢true e)
same_is_equal (x ∷ xs) (y ∷ ys) e =
    ap₂ ◌∷◌ (eqb-true x y (and_left (eqb x y) (same_bytes xs ys) e)) (same_is_equal xs ys (and_right (eqb x y) (same_bytes xs ys) e))

same_itself : (a : List ℕ) → same_bytes a a ≡ true
unfolding same_bytes
same_itself [] = refl
same_itself (x ∷ xs) = and_both (eqb x x) (same_bytes xs xs) (eq-eqb x x refl) (same_itself xs)

-- and equal lists are the same by the test
pub equal_is_same : (a b : List ℕ) → a ≡ b → same_bytes a b ≡ true
equal_is_same a b e = rw e (same_itself b)

-- lists of one length that are not the same part at some byte
abbrev Parted : List ℕ → List ℕ → Type 0
Parted a b = (i : ℕ) × (i < length a) × (get_or a i 0 ≡ get_or b i 0 → ⊥)

parted : (a b : List ℕ) → length a ≡ length b → same_bytes a b ≡ false → Parted a b
unfolding same_bytes
parted [] [] l e = absurd (false≢true (sym e))
parted [] (y ∷ ys) l e = absurd (omega arith)
parted (x ∷ xs) [] l e = absurd (omega arith)
parted (x ∷ xs) (y ∷ ys) l e = by (eqb x y) refl (parted xs ys (suc_inj l)) e where
  by : (t : Bool) → eqb x y ≡ t → (same_bytes xs ys ≡ false → Parted xs ys) → (t && same_bytes xs ys) ≡ false → Parted (x ∷ xs) (y ∷ ys)
  by true f later g = let r : Parted xs ys = later g in (suc r.0, suc-le-suc r.1, r.2)
  by false f later g = (0, zero-lt-suc _, eqb-false x y f)

-- ---- a file of the size that is due
abbrev order_in : ZXMachine → List ℕ → List ℕ
order_in m file = banks_in_order m (paging_in m file)

last_long : (m : ZXMachine) (file : List ℕ) → length (last_three m file) ≡ 3
last_long Sinclair48K file = refl
last_long Sinclair128K file = refl

module _ (m : ZXMachine) (file : List ℕ) (due : length file ≡ due_size m (paging_in m file)) where
  -- each bank of it is 16 KiB
  place_long : (k : ℕ) → k < length (order_in m file) → length (bank_at k file) ≡ 16384
  place_long k h = bank_long k file (omega (arith, place_fits m (paging_in m file) k h))

  banks_long : Pieces 16384 (bank_in m file) (all_banks m)
  banks_long b h = rw (bank_is_place m b h) (place_long (first_place b (order_in m file)) (found_inside m (paging_in m file) b h))

  -- the RAM of the file is as long as the machine's
  pub length_ram : length (ram_in m file) ≡ (specs_of m).ram
  unfolding ram_in
  length_ram = length_laid 16384 (bank_in m file) (all_banks m) banks_long ∙ ram_is_banks m

  -- and its registers are 30 bytes
  pub length_registers : length (registers_in m file) ≡ registers_length
  unfolding registers_in
  length_registers =
      let h : 27 ≤ length file = omega (arith, due_least m (paging_in m file)) in
      length-append (take 27 file) (last_three m file) ∙ omega (arith, length-take-le 27 file h, last_long m file)

-- ---- A FILE THAT IS MADE
-- four bytes stand before each bank behind the third, as only the 128K has one
four_between : (m : ZXMachine) (byte k : ℕ) (registers : List ℕ) → k < length (banks_in_order m byte) → 3 ≤ k → length (between m registers byte) ≡ 4
four_between Sinclair48K byte k registers h g = absurd (omega (arith, length_order Sinclair48K byte))
four_between Sinclair128K byte k registers h g = refl

module _ (m : ZXMachine) (byte border : ℕ) (ram registers : List ℕ) (n : length ram ≡ (specs_of m).ram) (r : length registers ≡ registers_length) where
  header_long : length (header_of registers border) ≡ 27
  header_long =
      let h : 26 ≤ length registers = omega arith in
      length-append (take 26 registers) (border ∷ []) ∙ omega (arith, length-take-le 26 registers h)

  pages_long : Pieces 16384 (λ bank. ram_page bank ram) (banks_in_order m byte)
  pages_long k h =
      let b : ℕ = get_or (banks_in_order m byte) k 0 in
      let fits : 16384 * b + 16384 ≤ (specs_of m).ram = bank_whole m b (bank_exists m byte k h) in
      length-take-le 16384 (drop (16384 * b) ram) (rw length-drop (omega arith))

  -- its size is the one that is due
  pub length_file : length (snapshot_file m byte border ram registers) ≡ due_size m byte
  unfolding snapshot_file banks_in_order
  length_file =
      made_long (header_of registers border) (between m registers byte) (λ bank. ram_page bank ram) (first_banks m byte) (remaining_banks m byte) header_long (first_three m byte) pages_long
      ∙ sym (due_is_banks m registers byte)

  -- at each place stands the page of RAM that the order has there
  pub file_place : (k : ℕ) → k < length (banks_in_order m byte) → bank_at k (snapshot_file m byte border ram registers) ≡ ram_page (get_or (banks_in_order m byte) k 0) ram
  unfolding snapshot_file banks_in_order
  file_place k h =
      made_place (header_of registers border) (between m registers byte) (λ bank. ram_page bank ram) (first_banks m byte) (remaining_banks m byte) header_long (first_three m byte) pages_long
      k h (four_between m byte k registers h)

  -- the header stands first
  header_first : take 27 (snapshot_file m byte border ram registers) ≡ header_of registers border
  unfolding snapshot_file banks_in_order
  header_first =
      made_head (header_of registers border) (between m registers byte) (λ bank. ram_page bank ram) (first_banks m byte) (remaining_banks m byte) header_long (first_three m byte) pages_long

  -- and what stands between the banks behind the third
  between_there : (i : ℕ) → get_or (snapshot_file m byte border ram registers) (49179 + i) 0
      ≡ get_or (between m registers byte ++ laid (λ bank. ram_page bank ram) (remaining_banks m byte)) i 0
  unfolding snapshot_file banks_in_order
  between_there =
      made_behind (header_of registers border) (between m registers byte) (λ bank. ram_page bank ram) (first_banks m byte) (remaining_banks m byte) header_long (first_three m byte) pages_long

  -- the border that is read is the one that was written
  pub border_back : border < 8 → border_in (snapshot_file m byte border ram registers) ≡ border
  border_back h =
      let file : List ℕ = snapshot_file m byte border ram registers in
      let long : length (take 26 registers) ≡ 26 = length-take-le 26 registers (omega arith) in
      let e : get_or file 26 0 ≡ border = sym (get_or-take 27 file 26 0 (lit< tt)) ∙ ap (λ (l : List ℕ). get_or l 26 0) header_first ∙ get_or_at (take 26 registers) border [] 0 26 long in
      ap (λ (b : ℕ). b % 8) e ∙ mod-eq_of_lt h

-- THE 7FFD BYTE THAT IS READ is the one that was written; a 48K's is 0 always
pub paging_back : (m : ZXMachine) (byte border : ℕ) (ram registers : List ℕ) → length ram ≡ (specs_of m).ram → length registers ≡ registers_length
    → (m ≡ Sinclair48K → byte ≡ 0) → paging_in m (snapshot_file m byte border ram registers) ≡ byte
paging_back Sinclair48K byte border ram registers n r z = sym (z refl)
paging_back Sinclair128K byte border ram registers n r z = between_there Sinclair128K byte border ram registers n r 2

-- nothing differs where two lists are equal
none_differ : (t : Bool) (a b : List ℕ) → a ≡ b → (t && not (same_bytes a b)) ≡ false
none_differ true a b e = ap not (equal_is_same a b e)
none_differ false a b e = refl

module _ (m : ZXMachine) (byte border : ℕ) (ram registers : List ℕ) (n : length ram ≡ (specs_of m).ram) (r : length registers ≡ registers_length)
    (z : m ≡ Sinclair48K → byte ≡ 0) where
  back : paging_in m (snapshot_file m byte border ram registers) ≡ byte
  back = paging_back m byte border ram registers n r z

  -- each bank that is read is the page of RAM that was written
  pub bank_back : (b : ℕ) → b < length (all_banks m) → bank_in m (snapshot_file m byte border ram registers) b ≡ ram_page b ram
  bank_back b h =
      ap (λ (p : ℕ). bank_at (first_place b (banks_in_order m p)) (snapshot_file m byte border ram registers)) back
      ∙ file_place m byte border ram registers n r (first_place b (banks_in_order m byte)) (found_inside m byte b h)
      ∙ ap (λ (b : ℕ). ram_page b ram) (found_there m byte b h)

  -- THE RAM THAT IS READ is the one that was written
  pub ram_back : ram_in m (snapshot_file m byte border ram registers) ≡ ram
  unfolding ram_in
  ram_back =
      laid_cut 16384 (bank_in m (snapshot_file m byte border ram registers)) (all_banks m) ram (λ b h. rw (bank_is_place m b h) (bank_back b h))
      ∙ take_all (16384 * length (all_banks m)) ram (omega (arith, ram_is_banks m))

-- no two copies differ in it
pub copies_agree : (m : ZXMachine) (byte border : ℕ) (ram registers : List ℕ) → length ram ≡ (specs_of m).ram → length registers ≡ registers_length
    → (m ≡ Sinclair48K → byte ≡ 0) → copies_differ m (snapshot_file m byte border ram registers) ≡ false
unfolding copies_differ banks_in_order
copies_agree Sinclair48K byte border ram registers n r z = refl
copies_agree Sinclair128K byte border ram registers n r z =
    let file : List ℕ = snapshot_file Sinclair128K byte border ram registers in
    let paged : ℕ = paged_bank (paging_in Sinclair128K file) in
    none_differ (stands_twice Sinclair128K (paging_in Sinclair128K file)) (bank_in Sinclair128K file paged) (bank_at 2 file)
    (bank_back Sinclair128K byte border ram registers n r z paged (omega arith)
    ∙ ap (λ (p : ℕ). ram_page (paged_bank p) ram) (paging_back Sinclair128K byte border ram registers n r z)
    ∙ sym (file_place Sinclair128K byte border ram registers n r 2 (three_banks Sinclair128K byte)))

last_back : (m : ZXMachine) (byte border : ℕ) (ram registers : List ℕ) → length ram ≡ (specs_of m).ram → length registers ≡ registers_length
    → last_three m (snapshot_file m byte border ram registers) ≡ kept_three m registers
last_back Sinclair48K byte border ram registers n r = refl
last_back Sinclair128K byte border ram registers n r =
    let at = between_there Sinclair128K byte border ram registers n r in
    let long : length (drop 27 registers) ≡ 3 = rw length-drop (omega arith) in
    ap₂ ◌∷◌ (at 0) (ap₂ ◌∷◌ (at 1) (ap₂ ◌∷◌ (at 3) refl)) ∙ (simp get_or-drop at (spelled 3 (drop 27 registers) long))

-- THE REGISTERS THAT ARE READ are those that were written, with the border in byte 26, and with PC and TR-DOS byte on 128K
pub registers_back : (m : ZXMachine) (byte border : ℕ) (ram registers : List ℕ) → length ram ≡ (specs_of m).ram → length registers ≡ registers_length
    → registers_in m (snapshot_file m byte border ram registers) ≡ header_of registers border ++ kept_three m registers
unfolding registers_in
registers_back m byte border ram registers n r =
    ap₂ ◌++◌ (header_first m byte border ram registers n r) (last_back m byte border ram registers n r)

-- ---- A FILE THAT IS READ, made again
-- what stands between is four bytes at most
at_most_four : (m : ZXMachine) (byte : ℕ) → length (between m [] byte) ≤ 4
at_most_four Sinclair48K byte = lit≤ tt
at_most_four Sinclair128K byte = lit≤ tt

-- where nothing differs that stands twice, it is the same
agreed : (s t : Bool) → (s && not t) ≡ false → s ≡ true → t ≡ true
agreed true true d e = refl
agreed true false d e = absurd (false≢true (sym d))
agreed false t d e = absurd (false≢true e)

module _ (m : ZXMachine) (file : List ℕ) (due : length file ≡ due_size m (paging_in m file)) (agree : copies_differ m file ≡ false) where
  -- the two copies of a bank that stands twice are equal,
  copies_equal_lem : stands_twice m (paging_in m file) ≡ true → bank_in m file (paged_bank (paging_in m file)) ≡ bank_at 2 file
  unfolding copies_differ
  copies_equal_lem e =
      let copy : List ℕ = bank_in m file (paged_bank (paging_in m file)) in
      same_is_equal copy (bank_at 2 file) (agreed (stands_twice m (paging_in m file)) (same_bytes copy (bank_at 2 file)) agree e)

  -- so what is read of the bank at a place is what stands there
  in_place : (k : ℕ) → k < length (order_in m file) → bank_in m file (get_or (order_in m file) k 0) ≡ bank_at k file
  in_place k h = by (stands_twice m (paging_in m file) && eqb k 2) refl where
    by : (t : Bool) → (stands_twice m (paging_in m file) && eqb k 2) ≡ t → bank_in m file (get_or (order_in m file) k 0) ≡ bank_at k file
    by true e =
        let twice : stands_twice m (paging_in m file) ≡ true = and_left (stands_twice m (paging_in m file)) (eqb k 2) e in
        let two : k ≡ 2 = eqb-true k 2 (and_right (stands_twice m (paging_in m file)) (eqb k 2) e) in
        ap (λ (j : ℕ). bank_in m file (get_or (order_in m file) j 0)) two
        ∙ ap (bank_in m file) (third_paged m (paging_in m file) twice)
        ∙ copies_equal_lem twice
        ∙ ap (λ (j : ℕ). bank_at j file) (sym two)
    by false e = ap (λ (j : ℕ). bank_at j file) (found_itself m (paging_in m file) k h e)

  -- and the page of the RAM that is read
  pub page_again : (k : ℕ) → k < length (banks_in_order m (paging_in m file)) → ram_page (get_or (banks_in_order m (paging_in m file)) k 0) (ram_in m file) ≡ bank_at k file
  unfolding ram_in
  page_again k h =
      let b : ℕ = get_or (order_in m file) k 0 in
      let g : b < length (all_banks m) = bank_exists m (paging_in m file) k h in
      piece_at 16384 (bank_in m file) (all_banks m) (banks_long m file due) b g ∙ ap (bank_in m file) (bank_is_place m b g) ∙ in_place k h

  -- so the three first banks are made again,
  first_again : laid (λ bank. ram_page bank (ram_in m file)) (first_banks m (paging_in m file)) ≡ take 49152 (drop 27 file)
  unfolding banks_in_order
  first_again =
      let p : ℕ = paging_in m file in
      laid_cut 16384 (λ bank. ram_page bank (ram_in m file)) (first_banks m p) (drop 27 file)
      (λ k h.
      ap (λ (bank : ℕ). ram_page bank (ram_in m file)) (sym (get_or-append (first_banks m p) (remaining_banks m p) 0 k h))
      ∙ page_again k (rw length-append (omega arith))
      ∙ early_cut k file (omega (arith, first_three m p)))
      ∙ ap (λ (n : ℕ). take (16384 * n) (drop 27 file)) (first_three m p)

  -- and the remaining ones
  last_again : laid (λ bank. ram_page bank (ram_in m file)) (remaining_banks m (paging_in m file)) ≡ drop 49183 file
  unfolding banks_in_order
  last_again =
      let p : ℕ = paging_in m file in
      let both : length (banks_in_order m p) ≡ 3 + length (remaining_banks m p) = length-append (first_banks m p) (remaining_banks m p) ∙ omega (arith, first_three m p) in
      let long : length (drop 49183 file) ≤ 16384 * length (remaining_banks m p) = rw length-drop (omega (arith, due_is_banks m [] p, at_most_four m p)) in
      laid_cut 16384 (λ bank. ram_page bank (ram_in m file)) (remaining_banks m p) (drop 49183 file)
      (λ k h.
      let e : length (first_banks m p) + k ≡ 3 + k = omega (arith, first_three m p) in
      ap (λ (bank : ℕ). ram_page bank (ram_in m file)) (sym (get_or-append-add (first_banks m p) (remaining_banks m p) k 0))
      ∙ page_again (length (first_banks m p) + k) (omega (arith, both))
      ∙ ap (λ (j : ℕ). bank_at j file) e
      ∙ late_cut k file)
      ∙ take_all (16384 * length (remaining_banks m p)) (drop 49183 file) long

-- and what stands between: nothing on 48K, and on 128K PC, the 7FFD byte and the TR-DOS byte
between_again : (m : ZXMachine) (file : List ℕ) → length file ≡ due_size m (paging_in m file)
    → between m (registers_in m file) (paging_in m file) ++ drop 49183 file ≡ drop 49179 file
unfolding due_size registers_in
between_again Sinclair48K file due = drop_of_length-le file {i = 49183} (omega arith) ∙ sym (drop_of_length-le file {i = 49179} (omega arith))
between_again Sinclair128K file due =
    let long : 49183 ≤ length file = omega (arith, due_is_banks Sinclair128K [] (paging_in Sinclair128K file), three_banks Sinclair128K (paging_in Sinclair128K file)) in
    let header : length (take 27 file) ≡ 27 = length-take-le 27 file (omega arith) in
    let kept : (i : ℕ) → get_or (take 27 file ++ last_three Sinclair128K file) (27 + i) 0 ≡ get_or (last_three Sinclair128K file) i 0 =
    λ i. ap (λ (n : ℕ). get_or (take 27 file ++ last_three Sinclair128K file) (n + i) 0) (sym header) ∙ get_or-append-add (take 27 file) (last_three Sinclair128K file) i 0 in
    ap₂ ◌∷◌ (kept 0) (ap₂ ◌∷◌ (kept 1) (ap₂ ◌∷◌ refl (ap₂ ◌∷◌ (kept 2) refl)))
    ∙ sym (drop-cons file 49179 0 (omega arith)
    ∙ ap (λ (l : List ℕ). get_or file 49179 0 ∷ l) (drop-cons file 49180 0 (omega arith)
    ∙ ap (λ (l : List ℕ). get_or file 49180 0 ∷ l) (drop-cons file 49181 0 (omega arith)
    ∙ ap (λ (l : List ℕ). get_or file 49181 0 ∷ l) (drop-cons file 49182 0 (omega arith)))))

-- and the header, with the border in byte 26
header_again : (m : ZXMachine) (file : List ℕ) → length file ≡ due_size m (paging_in m file)
    → header_of (registers_in m file) (border_in file) ≡ take 26 file ++ (border_in file ∷ [])
unfolding registers_in
header_again m file due =
    let header : length (take 27 file) ≡ 27 = length-take-le 27 file (omega (arith, due_least m (paging_in m file))) in
    ap (λ (l : List ℕ). l ++ (border_in file ∷ [])) (take-append-le 26 (take 27 file) (last_three m file) (omega arith) ∙ take-take 26 27 file (lit≤ tt))

-- EXPORT AFTER IMPORT gives the file, but for bits 3 to 7 of byte 26
pub file_back : (m : ZXMachine) (file : List ℕ) → length file ≡ due_size m (paging_in m file) → copies_differ m file ≡ false
    → snapshot_file m (paging_in m file) (border_in file) (ram_in m file) (registers_in m file) ≡ take border_at file ++ (border_in file ∷ drop header_length file)
unfolding snapshot_file
file_back m file due agree =
    let f : ℕ → List ℕ = λ bank. ram_page bank (ram_in m file) in
    let p : ℕ = paging_in m file in
    regrouped (header_of (registers_in m file) (border_in file)) (between m (registers_in m file) p) f (first_banks m p) (remaining_banks m p)
    ∙ ap₂ ◌++◌ (header_again m file due)
    (ap₂ ◌++◌ (first_again m file due agree)
    (ap (λ (l : List ℕ). between m (registers_in m file) p ++ l) (last_again m file due agree) ∙ between_again m file due ∙ sym (drop-drop 49152 27 file))
    ∙ take-append-drop 49152 (drop 27 file))
    ∙ append_assoc (take 26 file) (border_in file ∷ []) (drop 27 file)

-- ---- THE TWO COPIES of a bank that stands twice: the paged bank's at the third place, and the one at the bank's first place, the first for bank 5 and
-- the second for bank 2
either_start : (t : Bool) (file : List ℕ) → bank_at (cond t 0 1) file ≡ take 16384 (drop (cond t (place_start 0) (place_start 1)) file)
either_start true file = refl
either_start false file = refl

-- lists that part at a byte are not the same
part_is_other : (a b : List ℕ) (i : ℕ) → (get_or a i 0 ≡ get_or b i 0 → ⊥) → not (same_bytes a b) ≡ true
part_is_other a b i other = by (same_bytes a b) refl where
  by : (t : Bool) → same_bytes a b ≡ t → not t ≡ true
  by true e = absurd (other (ap (λ (l : List ℕ). get_or l i 0) (same_is_equal a b e)))
  by false e = refl

-- the copy at the bank's first place
abbrev copy_in : ZXMachine → List ℕ → List ℕ
copy_in m file = bank_in m file (paged_bank (paging_in m file))

module _ (m : ZXMachine) (file : List ℕ) (due : length file ≡ due_size m (paging_in m file)) (twice : stands_twice m (paging_in m file) ≡ true) where
  copy_byte : (i : ℕ) → i < 16384 → get_or (copy_in m file) i 0 ≡ byte_at file (copy_start (paging_in m file) + i)
  copy_byte i h =
      let p : ℕ = paging_in m file in
      let there : copy_in m file ≡ take 16384 (drop (copy_start p) file) =
      ap (bank_in m file) (sym (third_paged m p twice)) ∙ ap (λ (j : ℕ). bank_at j file) (found_first m p twice) ∙ either_start (eqb (paged_bank p) 5) file in
      ap (λ (l : List ℕ). get_or l i 0) there ∙ get_or-take 16384 (drop (copy_start p) file) i 0 h ∙ get_or-drop (copy_start p) file i 0

  copy_long : length (copy_in m file) ≡ 16384
  copy_long =
      let p : ℕ = paging_in m file in
      let b : ℕ = get_or (banks_in_order m p) 2 0 in
      ap (λ (b : ℕ). length (bank_in m file b)) (sym (third_paged m p twice))
      ∙ place_long m file due (first_place b (banks_in_order m p)) (found_inside m p b (bank_exists m p 2 (three_banks m p)))

  -- where they part at a byte, the copies differ
  pub differ_at : (i : ℕ) → i < page_length → (byte_at file (copy_start (paging_in m file) + i) ≡ byte_at file (place_start 2 + i) → ⊥) → copies_differ m file ≡ true
  unfolding copies_differ
  differ_at i h other =
      and_both (stands_twice m (paging_in m file)) (not (same_bytes (copy_in m file) (bank_at 2 file))) twice
      (part_is_other (copy_in m file) (bank_at 2 file) i (λ e. other (sym (copy_byte i h) ∙ e ∙ bank_byte 2 i file h)))

  part_somewhere : same_bytes (copy_in m file) (bank_at 2 file) ≡ false
      → (i : ℕ) × (i < page_length) × (byte_at file (copy_start (paging_in m file) + i) ≡ byte_at file (place_start 2 + i) → ⊥)
  part_somewhere e =
      let third : length (bank_at 2 file) ≡ 16384 = place_long m file due 2 (three_banks m (paging_in m file)) in
      let r : Parted (copy_in m file) (bank_at 2 file) = parted (copy_in m file) (bank_at 2 file) (copy_long ∙ sym third) e in
      let h : r.0 < 16384 = omega (arith, r.1, copy_long) in
      (r.0, h, λ same. r.2 (copy_byte r.0 h ∙ same ∙ sym (bank_byte 2 r.0 file h)))

-- and where the copies differ, a bank stands twice and they part at some byte
pub differ_somewhere : (m : ZXMachine) (file : List ℕ) → length file ≡ due_size m (paging_in m file) → copies_differ m file ≡ true
    → (stands_twice m (paging_in m file) ≡ true)
    × ((i : ℕ) × (i < page_length) × (byte_at file (copy_start (paging_in m file) + i) ≡ byte_at file (place_start 2 + i) → ⊥))
unfolding copies_differ
differ_somewhere m file due e =
    let p : ℕ = paging_in m file in
    let same : Bool = same_bytes (copy_in m file) (bank_at 2 file) in
    let twice : stands_twice m p ≡ true = and_left (stands_twice m p) (not same) e in
    (twice, part_somewhere m file due twice (not-true same (and_right (stands_twice m p) (not same) e)))

-- A FILE TOO SHORT to hold the 7FFD byte is not of the size that is due
pub too_short : (file : List ℕ) → length file ≤ paging_byte_at → length file ≡ due_size Sinclair128K (paging_in Sinclair128K file) → ⊥
too_short file h e = omega (arith, due_is_banks Sinclair128K [] (paging_in Sinclair128K file), three_banks Sinclair128K (paging_in Sinclair128K file))

-- ---- "THEN RAM FROM 4000h": the three first banks are what the Z80 sees there
by_three : (P : ℕ → Type 0) → P 0 → P 1 → P 2 → (k : ℕ) → k < 3 → P k
by_three P a b c zero h = a
by_three P a b c (suc zero) h = b
by_three P a b c (suc (suc zero)) h = c
by_three P a b c (suc (suc (suc k))) h = absurd (omega arith)

-- the page of the Z80's second block and of each behind it
seen_page : (m : ZXMachine) (byte : ℕ) (rom ram : List ℕ) (k : ℕ) → k < 3 → page_part (page_at m byte (suc k)) rom ram ≡ ram_page (get_or (banks_in_order m byte) k 0) ram
unfolding banks_in_order
seen_page Sinclair48K byte rom ram k h =
    by_three (λ (k : ℕ). page_part (page_at Sinclair48K byte (suc k)) rom ram ≡ ram_page (get_or (banks_in_order Sinclair48K byte) k 0) ram) refl refl refl k h
seen_page Sinclair128K byte rom ram k h =
    by_three (λ (k : ℕ). page_part (page_at Sinclair128K byte (suc k)) rom ram ≡ ram_page (get_or (banks_in_order Sinclair128K byte) k 0) ram) refl refl refl k h

seen : (m : ZXMachine) (byte : ℕ) (rom ram file : List ℕ) → ((k : ℕ) → k < 3 → bank_at k file ≡ ram_page (get_or (banks_in_order m byte) k 0) ram)
    → (k : ℕ) → k < 49152 → get_or file (27 + k) 0 ≡ peeked m byte rom ram (16384 + k)
seen m byte rom ram file stands k h =
    let b : ℕ = k / 16384 in
    let i : ℕ = k % 16384 in
    let hb : b < 3 = omega arith in
    let hi : i < 16384 = omega arith in
    let e : 27 + k ≡ place_start b + i = omega (arith, early_start b hb) in
    let a : 16384 * suc b + i ≡ 16384 + k = omega arith in
    ap (λ (j : ℕ). get_or file j 0) e
    ∙ sym (bank_byte b i file hi)
    ∙ ap (λ (l : List ℕ). get_or l i 0) (stands b hb ∙ sym (seen_page m byte rom ram b hb))
    ∙ block_bytes m byte rom ram (suc b) i hi
    ∙ ap (λ (addr : ℕ). peeked m byte rom ram addr) a

-- in a file that is made,
pub from_4000h : (m : ZXMachine) (byte border : ℕ) (ram registers : List ℕ) → length ram ≡ (specs_of m).ram → length registers ≡ registers_length
    → (rom : List ℕ) (k : ℕ) → k < 49152 → get_or (snapshot_file m byte border ram registers) (header_length + k) 0 ≡ peeked m byte rom ram (16384 + k)
from_4000h m byte border ram registers n r rom k h =
    seen m byte rom ram (snapshot_file m byte border ram registers)
    (λ k g. file_place m byte border ram registers n r k (omega (arith, three_banks m byte))) k h

-- and in one that is read
pub read_from_4000h : (m : ZXMachine) (file : List ℕ) → length file ≡ due_size m (paging_in m file) → copies_differ m file ≡ false
    → (rom : List ℕ) (k : ℕ) → k < 49152 → get_or file (header_length + k) 0 ≡ peeked m (paging_in m file) rom (ram_in m file) (16384 + k)
read_from_4000h m file due agree rom k h =
    seen m (paging_in m file) rom (ram_in m file) file
    (λ k g. sym (page_again m file due agree k (omega (arith, three_banks m (paging_in m file))))) k h
