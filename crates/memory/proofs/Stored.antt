-- What a byte write and a page load leave in RAM, and that a part is what the byte read sees and where C finds it.
-- Assumes nothing.
use Prim.Native.Nat.{ℕ, zero, suc, ◌+◌, ◌-◌, ◌*◌, ◌/◌, ◌%◌, ◌≤◌, ◌<◌}
use mathlib.Core.Path.{◌≡◌, refl, ap, ap₂, sym, ◌∙◌}
use mathlib.Core.Logic.{◌⊎◌}
use mathlib.Core.List.{List, [], ◌∷◌, ◌++◌, append_assoc}
use native.Mathlib.Nat.{zero-add, suc-add}
use native.Mathlib.Omega.{arith}
use lib.ListN.{length, get_or, set, take, drop, length-set, length-drop, length-append, take-append-drop}
use lib.Seq.{sets-eq, length-take-le, get_or-set_same, get_or-set_other, get_or-take, get_or-drop, drop_at, drop-drop, take-nil, drop-append-le, drop-append-add, take-append-le, take_at}
use Rattle.laws.proofs.Stores.{sets_in, sets_out}
use Rattle.machine.specs.declared.ZXMachine.{ZXMachine}
use Rattle.machine.specs.Numbers.{specs_of}
use Rattle.memory.specs.declared.Page.{Page}
use Rattle.memory.specs.declared.Page.TheVariants as page
use Rattle.memory.specs.declared.Place.{Place}
use Rattle.memory.specs.declared.Place.TheVariants.{Rom, Ram}
use Rattle.memory.specs.Paging.{page_at}
use Rattle.memory.specs.Memory.{place_in, place_of, byte_in, peeked, poked_in, poked, ram_page, page_part, Holds, part_start, loaded}
use Rattle.memory.proofs.Places.{ram_within}

-- ---- byte write
poked_length : (p : Place) (ram : List ℕ) (value : ℕ) → length (poked_in p ram value) ≡ length ram
poked_length (Rom at) ram value = refl
poked_length (Ram at) ram value = length-set ram at value

poked_keeps : (p : Place) (ram : List ℕ) (value j : ℕ) → (p ≡ Ram j → ⊥) → get_or (poked_in p ram value) j 0 ≡ get_or ram j 0
poked_keeps (Rom at) ram value j f = refl
poked_keeps (Ram at) ram value j f = get_or-set_other ram at j value 0 (λ e. f (ap Ram (sym e)))

module _ (m : ZXMachine) (paging : ℕ) (ram : List ℕ) (addr value : ℕ) where
  -- a byte write keeps RAM's length
  pub length_poked : length (poked m paging ram addr value) ≡ length ram
  length_poked = poked_length (place_of m paging addr) ram value

  -- it changes no byte but the one at the address
  pub poked_only : (j : ℕ) → (place_of m paging addr ≡ Ram j → ⊥) → get_or (poked m paging ram addr value) j 0 ≡ get_or ram j 0
  poked_only j f = poked_keeps (place_of m paging addr) ram value j f

  -- a write to ROM vanishes
  pub poked_rom : (at : ℕ) → place_of m paging addr ≡ Rom at → poked m paging ram addr value ≡ ram
  poked_rom at e = rw e

  -- a write to RAM is one store
  pub poked_ram : (at : ℕ) → place_of m paging addr ≡ Ram at → poked m paging ram addr value ≡ set ram at value
  poked_ram at e = rw e

  -- and is read back at every address, under any later map, that has the same byte of RAM
  pub read_back : (rom : List ℕ) (at later there : ℕ) → length ram ≡ (specs_of m).ram → place_of m paging addr ≡ Ram at
      → place_of m later there ≡ Ram at → peeked m later rom (poked m paging ram addr value) there ≡ value
  read_back rom at later there n e f = rw (e, f) (get_or-set_same ram at value 0 (omega (arith, ram_within m paging addr at e)))

-- 16 KiB of a list that has them
part_long : (at : ℕ) (l : List ℕ) → at + 16384 ≤ length l → length (take 16384 (drop at l)) ≡ 16384
part_long at l h = length-take-le 16384 (drop at l) (rw length-drop (omega arith))

-- the first n + m without the first n
drop_take : (n m : ℕ) (l : List ℕ) → drop n (take (n + m) l) ≡ take m (drop n l)
drop_take zero m l = ap (λ (k : ℕ). take k l) (zero-add m)
drop_take (suc n) m [] = ap (drop (suc n)) (take-nil (suc n + m)) ∙ sym (take-nil m)
drop_take (suc n) m (x ∷ xs) = ap (λ (k : ℕ). drop (suc n) (take k (x ∷ xs))) (suc-add n m) ∙ drop_take n m xs

-- ---- bytes loaded from a page's first byte on: a whole page, or a screen file
module _ (p : ℕ) (bytes ram : List ℕ) (fits : 16384 * p + length bytes ≤ length ram) where
  -- as many bytes of RAM are cut out, and what was lent is put in their place
  pub loaded_cut : loaded p bytes ram ≡ take (16384 * p) ram ++ bytes ++ drop (16384 * p + length bytes) ram
  loaded_cut = sets-eq bytes ram (16384 * p) fits

  -- and of a whole page, the page
  pub page_cut : length bytes ≡ 16384 → loaded p bytes ram ≡ take (16384 * p) ram ++ bytes ++ drop (16384 * p + 16384) ram
  page_cut whole = loaded_cut ∙ ap (λ (n : ℕ). take (16384 * p) ram ++ bytes ++ drop (16384 * p + n) ram) whole

  -- byte i of the page is then byte i of what was lent
  pub loaded_in : (i : ℕ) → i < length bytes → get_or (loaded p bytes ram) (16384 * p + i) 0 ≡ get_or bytes i 0
  loaded_in i h = sets_in ram (16384 * p) bytes i h fits

  -- every other byte of RAM is as it was
  pub loaded_out : (j : ℕ) → (j < 16384 * p) ⊎ (16384 * p + length bytes ≤ j) → get_or (loaded p bytes ram) j 0 ≡ get_or ram j 0
  loaded_out j h = sets_out ram (16384 * p) bytes j h

  -- the page handed out after a load of a whole page is what was lent
  pub whole_page : length bytes ≡ 16384 → ram_page p (loaded p bytes ram) ≡ bytes
  whole_page whole =
      let behind : List ℕ = drop (16384 * p + length bytes) ram in
      rw (loaded_cut, append_assoc)
      (ap (λ (l : List ℕ). take 16384 l) (drop_at (take (16384 * p) ram) (bytes ++ behind) (16384 * p) (length-take-le (16384 * p) ram (omega arith)))
      ∙ take_at bytes behind 16384 whole)

-- LOADING THE FRONT OF A PAGE is loading the page whole, with what stood behind the front.
module _ (p : ℕ) (bytes ram : List ℕ) (fits : 16384 * p + 16384 ≤ length ram) (few : length bytes ≤ 16384) where
  abbrev at : ℕ
  at = 16384 * p

  abbrev n : ℕ
  n = length bytes

  abbrev whole : List ℕ
  whole = bytes ++ drop n (ram_page p ram)

  -- RAM from behind the front on: the rest of the page, and then what follows it
  abbrev rest : List ℕ
  rest = drop (at + n) ram

  page_rest : drop n (ram_page p ram) ≡ take (16384 - n) rest
  page_rest =
      let e : 16384 ≡ n + (16384 - n) = omega arith in
      ap (λ (k : ℕ). drop n (take k (drop at ram))) e ∙ drop_take n (16384 - n) (drop at ram) ∙ ap (take (16384 - n)) (drop-drop n at ram)

  page_behind : drop (at + 16384) ram ≡ drop (16384 - n) rest
  page_behind =
      let e : at + 16384 ≡ at + n + (16384 - n) = omega arith in
      ap (λ (k : ℕ). drop k ram) e ∙ sym (drop-drop (16384 - n) (at + n) ram)

  pub front_long : length whole ≡ 16384
  front_long = length-append bytes (drop n (ram_page p ram)) ∙ rw length-drop (omega (arith, part_long at ram fits))

  pub loaded_front : loaded p bytes ram ≡ loaded p whole ram
  loaded_front =
      let fits' : 16384 * p + length whole ≤ length ram = rw front_long fits in
      loaded_cut p bytes ram (omega arith)
      ∙ ap (λ (l : List ℕ). take at ram ++ bytes ++ l) (sym (take-append-drop (16384 - n) rest))
      ∙ sym (append_assoc (take at ram ++ bytes) (take (16384 - n) rest) (drop (16384 - n) rest))
      ∙ ap (λ (l : List ℕ). l ++ drop (16384 - n) rest) (append_assoc (take at ram) bytes (take (16384 - n) rest))
      ∙ ap₂ (λ (x y : List ℕ). take at ram ++ (bytes ++ x) ++ y) (sym page_rest) (sym page_behind)
      ∙ ap (λ (k : ℕ). take at ram ++ whole ++ drop (at + k) ram) (sym front_long)
      ∙ sym (loaded_cut p whole ram fits')

  -- the page handed out after it
  pub loaded_page : ram_page p (loaded p bytes ram) ≡ whole
  loaded_page = ap (ram_page p) loaded_front ∙ whole_page p whole ram (rw front_long fits) front_long

-- ---- parts
part_at : (at offset : ℕ) (l : List ℕ) → offset < 16384 → get_or (take 16384 (drop at l)) offset 0 ≡ get_or l (at + offset) 0
part_at at offset l h = get_or-take 16384 (drop at l) offset 0 h ∙ get_or-drop at l offset 0

-- a page that is handed out is 16 KiB
pub length_part : (p : Page) (rom ram : List ℕ) → Holds p (length rom) (length ram) → length (page_part p rom ram) ≡ 16384
length_part (page.Rom p) rom ram h = part_long (16384 * p) rom h
length_part (page.Ram p) rom ram h = part_long (16384 * p) ram h

part_byte : (p : Page) (rom ram : List ℕ) (offset : ℕ) → offset < 16384 → get_or (page_part p rom ram) offset 0 ≡ byte_in (place_in p offset) rom ram
part_byte (page.Rom p) rom ram offset h = part_at (16384 * p) offset rom h
part_byte (page.Ram p) rom ram offset h = part_at (16384 * p) offset ram h

-- the part at a block is what the byte read sees through that block
pub block_bytes : (m : ZXMachine) (paging : ℕ) (rom ram : List ℕ) (block offset : ℕ) → offset < 16384
    → get_or (page_part (page_at m paging block) rom ram) offset 0 ≡ peeked m paging rom ram (16384 * block + offset)
unfolding place_of
block_bytes m paging rom ram block offset h =
    let q : (16384 * block + offset) / 16384 ≡ block = omega arith in
    let r : (16384 * block + offset) % 16384 ≡ offset = omega arith in
    rw (q, r) (part_byte (page_at m paging block) rom ram offset h)

-- the number that C gets is where the part starts in ROM with RAM put behind it
pub part_found : (m : ZXMachine) (p : Page) (rom ram : List ℕ) → length rom ≡ (specs_of m).rom → Holds p (length rom) (length ram)
    → take 16384 (drop (part_start m p) (rom ++ ram)) ≡ page_part p rom ram
part_found m (page.Rom p) rom ram n h =
    let e : 16384 * p + 0 ≡ 16384 * p = omega arith in
    let long : 16384 ≤ length (drop (16384 * p) rom) = rw length-drop (omega arith) in
    rw (e, drop-append-le (16384 * p) rom ram (omega arith)) (take-append-le 16384 (drop (16384 * p) rom) ram long)
part_found m (page.Ram p) rom ram n h =
    let e : 16384 * p + 0 ≡ 16384 * p = omega arith in
    rw (e, ← n, drop-append-add rom ram (16384 * p))
