-- The Rust's memory is document 01's: bytes read and written, pages and the map. Its panics are refusal 7 and, of blocks, refusal 8.
-- Assumes nothing.
use mathlib.Core.Path.{◌≡◌, refl, sym, ap, ap₂, ◌∙◌, subst}
use mathlib.Core.Bool.{Bool, true, false, cond, not}
use mathlib.Core.List.{List, [], ◌∷◌, ◌++◌, map}
use Prim.Native.Nat.{ℕ, zero, suc, ◌+◌, ◌*◌, ◌/◌, ◌%◌}
use native.Mathlib.Omega.{arith}
use lib.Dec.{ltb, leb}
use lib.ListN.{length, get_or, set, take, drop, get_or-map}
use lib.Bits.{bit_and, and_mask}
use borrow.Author.Tests.{lt-ltb, le-ltb, leb-true, leb-false}
use Rattle.machine.specs.Numbers.{specs_of}
use Rattle.memory.specs.declared.Page as stored
use Rattle.memory.specs.declared.Page.TheVariants as page
use Rattle.memory.specs.Paging.{bit, page_at, page_exists, page_contended}
use Rattle.memory.specs.Memory.{place_in, place_of, byte_in, peeked, poked_in, poked, ram_page}
use Rattle.machine.specs.declared.ZXMachine as ours
use Rattle.machine.specs.declared.ZXMachine.TheVariants as our
use Rattle.rustzx.specs.Machine.{ZXMachine, Sinclair48K, Sinclair128K}
use Rattle.rustzx.specs.Panics.{done, panics, assert, Ends}
use Rattle.rustzx.specs.Memory.{Page, Rom, Ram, ZXMemory, get_page, read_in, read, write_in, write, get_bank_type, ram_page_data, load_page}
use Rattle.rustzx.specs.Controller.{page_is_contended, remapped}
use Rattle.rustzx.specs.Related.{our_machine, our_page, SameMemory}
use Rattle.rustzx.proofs.Timing.{bank_is}

-- a page, and whether it is contended
pub contended_is : (m : ZXMachine) (p : Page) → page_is_contended m p ≡ page_contended (our_machine m) (our_page p)
contended_is m (Rom p) = refl
contended_is m (Ram p) = bank_is m p

module _ (m : ours.ZXMachine) (rom ram : List ℕ) (paging : ℕ) (mem : ZXMemory) (same : SameMemory m rom ram paging mem) where
  -- the page at a block, and get_page
  pub block_page : (block : ℕ) → our_page (get_or mem.map block (Rom 0)) ≡ page_at m paging block
  block_page block = sym (get_or-map our_page mem.map block (Rom 0)) ∙ ap (λ (l : List stored.Page). get_or l block (page.Rom 0)) same.pages

  pub page_is : (addr : ℕ) → our_page (get_page mem addr) ≡ page_at m paging (addr / 16384)
  page_is addr = block_page (addr / 16384)

  -- read is the byte read
  read_in_lem : (p : Page) (offset : ℕ) → read_in mem p offset ≡ byte_in (place_in (our_page p) offset) rom ram
  read_in_lem (Rom p) offset = let e : p * 16384 + offset ≡ 16384 * p + offset = omega arith in ap₂ (λ (l : List ℕ) (k : ℕ). get_or l k 0) same.rom e
  read_in_lem (Ram p) offset = let e : p * 16384 + offset ≡ 16384 * p + offset = omega arith in ap₂ (λ (l : List ℕ) (k : ℕ). get_or l k 0) same.ram e

  pub read_is : (addr : ℕ) → read mem addr ≡ peeked m paging rom ram addr
  unfolding read place_of
  read_is addr = read_in_lem (get_page mem addr) (addr % 16384) ∙ ap (λ (p : stored.Page). byte_in (place_in p (addr % 16384)) rom ram) (page_is addr)

  -- write is the byte write; a write to ROM vanishes
  write_in_lem : (p : Page) (offset value : ℕ) → SameMemory m rom (poked_in (place_in (our_page p) offset) ram value) paging (write_in mem p offset value)
  write_in_lem (Rom p) offset value = same
  write_in_lem (Ram p) offset value =
      let e : p * 16384 + offset ≡ 16384 * p + offset = omega arith in
      record { rom = same.rom; ram = ap₂ (λ (l : List ℕ) (k : ℕ). set l k value) same.ram e; pages = same.pages }

  pub write_is : (addr value : ℕ) → SameMemory m rom (poked m paging ram addr value) paging (write mem addr value)
  unfolding write place_of
  write_is addr value =
      subst (λ (p : stored.Page). SameMemory m rom (poked_in (place_in p (addr % 16384)) ram value) paging (write_in mem (get_page mem addr) (addr % 16384) value)) (page_is addr)
      (write_in_lem (get_page mem addr) (addr % 16384) value)

-- get_bank_type panics exactly at a block above 3, which is refusal 8
pub bank_type_is : (mem : ZXMemory) (block : ℕ) → get_bank_type mem block ≡ cond (leb block 3) (done (get_or mem.map block (Rom 0))) panics
bank_type_is mem block = rw (below (leb block 3) refl) (by_test (leb block 3)) where
  below : (t : Bool) → leb block 3 ≡ t → ltb block 4 ≡ t
  below true e = let h = leb-true block 3 e in lt-ltb block 4 (omega arith)
  below false e = let h = leb-false block 3 e in le-ltb block 4 (omega arith)

  by_test : (t : Bool) → assert t (done (get_or mem.map block (Rom 0))) ≡ cond t (done (get_or mem.map block (Rom 0))) panics
  by_test true = refl
  by_test false = refl

-- ---- pages of RAM
-- the Rust's test that a page lies beyond RAM is the test of refusal 7
past_is : (m : ZXMachine) (n p : ℕ) (t : Bool) → n ≡ (specs_of (our_machine m)).ram → page_exists (our_machine m) p ≡ t → ltb n ((p + 1) * 16384) ≡ not t
past_is Sinclair48K n p true l e = let h = leb-true p 2 e in le-ltb n ((p + 1) * 16384) (omega arith)
past_is Sinclair48K n p false l e = let h = leb-false p 2 e in lt-ltb n ((p + 1) * 16384) (omega arith)
past_is Sinclair128K n p true l e = let h = leb-true p 7 e in le-ltb n ((p + 1) * 16384) (omega arith)
past_is Sinclair128K n p false l e = let h = leb-false p 7 e in lt-ltb n ((p + 1) * 16384) (omega arith)

turned : {A : Type 0} (t : Bool) (x y : A) → cond (not t) x y ≡ cond t y x
turned true x y = refl
turned false x y = refl

-- RAM with a page cut out and bytes put in its place: the page load, where they are a page's (memory, `page_cut`)
abbrev pub cut : ℕ → List ℕ → List ℕ → List ℕ
cut p bytes ram = take (16384 * p) ram ++ bytes ++ drop (16384 * p + 16384) ram

module _ (m : ZXMachine) (mem : ZXMemory) (long : length mem.ram ≡ (specs_of (our_machine m)).ram) where
  -- ram_page_data is the RAM page, and panics exactly where there is none
  pub page_data_is : (p : ℕ) → ram_page_data mem p ≡ cond (page_exists (our_machine m) p) (done (ram_page p mem.ram)) panics
  page_data_is p =
      let e : p * 16384 ≡ 16384 * p = omega arith in
      rw (past_is m (length mem.ram) p (page_exists (our_machine m) p) long refl, e) (turned (page_exists (our_machine m) p) _ _)

  -- a page's bytes copied over ram_page_data_mut take the page's place, and panic exactly where there is no page
  pub load_is : (p : ℕ) (bytes : List ℕ)
      → load_page mem p bytes
      ≡ cond (page_exists (our_machine m) p) (done (record { rom = mem.rom; ram = cut p bytes mem.ram; map = mem.map })) panics
  load_is p bytes =
      let e : p * 16384 ≡ 16384 * p = omega arith in
      rw (past_is m (length mem.ram) p (page_exists (our_machine m) p) long refl, e) (turned (page_exists (our_machine m) p) _ _)

-- ---- the 7FFD byte's two remaps, which never panic on 128K
rom_bit : (v : ℕ) → bit_and (v / 16) 1 ≡ bit 4 v
rom_bit v = and_mask (v / 16) 1

map_set : {A B : Type 0} (f : A → B) (l : List A) (i : ℕ) (y : A) → map f (set l i y) ≡ set (map f l) i (f y)
map_set f [] i y = refl
map_set f (x ∷ xs) zero y = refl
map_set f (x ∷ xs) (suc i) y = rw (map_set f xs i y)

pub remap_is : (rom ram : List ℕ) (paging v : ℕ) (mem : ZXMemory) → SameMemory our.Sinclair128K rom ram paging mem → length rom ≡ 32768 → length ram ≡ 131072
    → Ends (remapped v mem) (SameMemory our.Sinclair128K rom ram v)
remap_is rom ram paging v mem same lrom lram =
    let top : Page = Ram (v % 8) in
    let low : Page = Rom (bit 4 v) in
    let a = le-ltb (length mem.ram) ((v % 8 + 1) * 16384) (omega (arith, ap length same.ram)) in
    let b = le-ltb (length mem.rom) ((bit 4 v + 1) * 16384) (omega (arith, ap length same.rom)) in
    record {
      value = record { rom = mem.rom; ram = mem.ram; map = set (set mem.map 3 top) 0 low };
      ends = rw (and_mask v 3, a, rom_bit v, b);
      holds = record {
        rom = same.rom;
        ram = same.ram;
        pages = map_set our_page (set mem.map 3 top) 0 low
            ∙ ap (λ (l : List stored.Page). set l 0 (our_page low)) (map_set our_page mem.map 3 top ∙ ap (λ (l : List stored.Page). set l 3 (our_page top)) same.pages);
      };
    }
