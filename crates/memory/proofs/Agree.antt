-- Document 01's map, shown page, contended addresses and lock (specs/Paging, specs/Memory) agree with those of the public pages (specs/Pages)
-- at every address and every byte. They part nowhere; on which ports a byte reaches the latch is port decoding and stands elsewhere.
-- Assumes nothing.
use Prim.Native.Nat.{ℕ, ◌+◌, ◌-◌, ◌*◌, ◌/◌, ◌%◌, ◌≤◌, ◌<◌}
use mathlib.Core.Path.{◌≡◌, refl, ap, sym, ◌∙◌}
use mathlib.Core.Bool.{Bool, true, false, cond}
use mathlib.Core.List.{List, [], ◌∷◌}
use native.Mathlib.Omega.{arith}
use lib.Dec.{eqb}
use borrow.Author.Tests.{le-leb, lt-leb, eq-eqb, ne_eqb}
use Rattle.laws.proofs.Below.{same_bool}
use Rattle.laws.proofs.Cases.{split}
use Rattle.machine.specs.declared.ZXMachine.{ZXMachine}
use Rattle.machine.specs.declared.ZXMachine.TheVariants.{Sinclair48K, Sinclair128K}
use Rattle.machine.specs.Contended.{bank_contended}
use Rattle.memory.specs.declared.Paged.TheVariants.{Locked, Taken}
use Rattle.memory.specs.declared.Place.TheVariants.{Rom, Ram}
use Rattle.memory.specs.Paging.{bit, bit_set, page_at, shown_page, page_contended, addr_contended, write7ffd, paged_code, paging_after, paging_since}
use Rattle.memory.specs.Memory.{place_in, place_of}
use Rattle.memory.specs.Pages.{line, bank_at_c000, shown_bank, rom_at0000, page48, page128, page_place, held48, held_bank, page_held, Latch, reset, latch_write, latch_after}

-- ---- the port byte's single bits
bank_is : (byte : ℕ) → bank_at_c000 byte ≡ byte % 8
unfolding bank_at_c000 line
bank_is byte = omega arith

rom_is_lem : (byte : ℕ) → rom_at0000 byte ≡ bit 4 byte
unfolding rom_at0000 line
rom_is_lem byte = omega arith

line_3 : (byte : ℕ) → line 3 byte ≡ bit 3 byte
unfolding line
line_3 byte = omega arith

line_5 : (byte : ℕ) → line 5 byte ≡ bit 5 byte
unfolding line
line_5 byte = omega arith

-- ---- an address by its block: document 01's place and contention there
module _ (m : ZXMachine) (byte addr b : ℕ) (e : addr / 16384 ≡ b) where
  in_block : place_of m byte addr ≡ place_in (page_at m byte b) (addr - 16384 * b)
  unfolding place_of
  in_block = let o : addr % 16384 ≡ addr - 16384 * b = omega arith in rw (e, o)

  held_in_block : addr_contended m byte addr ≡ page_contended m (page_at m byte b)
  held_in_block = rw e

-- a property of an address, shown in each of the four ranges
ranges : (A : Type 0) (addr : ℕ) → addr < 65536 → (addr < 0x4000 → A) → (0x4000 ≤ addr → addr < 0x8000 → A) → (0x8000 ≤ addr → addr < 0xC000 → A) → (0xC000 ≤ addr → A) → A
ranges A addr h f g k l = split 0xC000 addr l (λ h₃. split 0x8000 addr (λ h₂. k h₂ h₃) (λ h₂. split 0x4000 addr (λ h₁. g h₁ h₂) f))

-- ---- the map
place_48 : (byte addr : ℕ) → addr < 65536 → page48 addr ≡ place_of Sinclair48K byte addr
unfolding page48
place_48 byte addr h =
    ranges (page48 addr ≡ place_of Sinclair48K byte addr) addr h
    (λ a. simp (le-leb addr 0x3FFF (omega arith)) (ap Rom (omega arith) ∙ sym (in_block Sinclair48K byte addr 0 (omega arith))))
    (λ a b. simp (lt-leb addr 0x3FFF (omega arith)) (ap Ram (omega arith) ∙ sym (in_block Sinclair48K byte addr 1 (omega arith))))
    (λ a b. simp (lt-leb addr 0x3FFF (omega arith)) (ap Ram (omega arith) ∙ sym (in_block Sinclair48K byte addr 2 (omega arith))))
    (λ a. simp (lt-leb addr 0x3FFF (omega arith)) (ap Ram (omega arith) ∙ sym (in_block Sinclair48K byte addr 3 (omega arith))))

-- what the 128K page says in each range
module _ (byte addr : ℕ) where
  low : addr < 0x4000 → page128 byte addr ≡ Rom (bit 4 byte * 16384 + addr)
  unfolding page128
  low h = simp (lt-leb 0xC000 addr (omega arith), lt-leb 0x8000 addr (omega arith), lt-leb 0x4000 addr h, rom_is_lem byte)

  screen : 0x4000 ≤ addr → addr < 0x8000 → page128 byte addr ≡ Ram (5 * 16384 + (addr - 0x4000))
  unfolding page128
  screen g h = simp (lt-leb 0xC000 addr (omega arith), lt-leb 0x8000 addr h, le-leb 0x4000 addr g)

  middle : 0x8000 ≤ addr → addr < 0xC000 → page128 byte addr ≡ Ram (2 * 16384 + (addr - 0x8000))
  unfolding page128
  middle g h = simp (lt-leb 0xC000 addr h, le-leb 0x8000 addr g)

  high : 0xC000 ≤ addr → page128 byte addr ≡ Ram (byte % 8 * 16384 + (addr - 0xC000))
  unfolding page128
  high g = simp (le-leb 0xC000 addr g, bank_is byte)

place_128 : (byte addr : ℕ) → addr < 65536 → page128 byte addr ≡ place_of Sinclair128K byte addr
place_128 byte addr h =
    ranges (page128 byte addr ≡ place_of Sinclair128K byte addr) addr h
    (λ a. low byte addr a ∙ (ap Rom (omega arith) ∙ sym (in_block Sinclair128K byte addr 0 (omega arith))))
    (λ a b. screen byte addr a b ∙ (ap Ram (omega arith) ∙ sym (in_block Sinclair128K byte addr 1 (omega arith))))
    (λ a b. middle byte addr a b ∙ (ap Ram (omega arith) ∙ sym (in_block Sinclair128K byte addr 2 (omega arith))))
    (λ a. high byte addr a ∙ (ap Ram (omega arith) ∙ sym (in_block Sinclair128K byte addr 3 (omega arith))))

-- at every address and every 7FFD byte the pages and document 01 name the same byte of ROM or RAM
pub agree_place : (m : ZXMachine) (byte addr : ℕ) → addr < 65536 → page_place m byte addr ≡ place_of m byte addr
agree_place Sinclair48K byte addr h = place_48 byte addr h
agree_place Sinclair128K byte addr h = place_128 byte addr h

-- the bank that the screen shows on the 128K
pub agree_shown : (byte : ℕ) → shown_bank byte ≡ shown_page Sinclair128K byte
unfolding shown_bank
agree_shown byte =
    split (bit 3 byte) 0
    (λ h. simp (line_3 byte, eq-eqb (bit 3 byte) 0 (omega arith), ne_eqb (bit 3 byte) 1 (λ e. omega arith)))
    (λ h. simp (line_3 byte, ne_eqb (bit 3 byte) 0 (λ e. omega arith), eq-eqb (bit 3 byte) 1 (omega arith)))

-- and where the pages have the display file, at 4000h, unless bit 3 shows the shadow screen: on both machines the shown page starts there
pub display_file : (m : ZXMachine) (byte : ℕ) → bit_set 3 byte ≡ false → place_of m byte 0x4000 ≡ Ram (16384 * shown_page m byte)
unfolding place_of
display_file Sinclair48K byte e = refl
display_file Sinclair128K byte e = rw e

-- ---- contended addresses
held_48 : (byte addr : ℕ) → addr < 65536 → held48 addr ≡ addr_contended Sinclair48K byte addr
unfolding held48
held_48 byte addr h =
    ranges (held48 addr ≡ addr_contended Sinclair48K byte addr) addr h
    (λ a. simp (lt-leb 0x4000 addr a) (sym (held_in_block Sinclair48K byte addr 0 (omega arith))))
    (λ a b. simp (le-leb 0x4000 addr a, le-leb addr 0x7FFF (omega arith)) (sym (held_in_block Sinclair48K byte addr 1 (omega arith))))
    (λ a b. simp (le-leb 0x4000 addr (omega arith), lt-leb addr 0x7FFF (omega arith)) (sym (held_in_block Sinclair48K byte addr 2 (omega arith))))
    (λ a. simp (le-leb 0x4000 addr (omega arith), lt-leb addr 0x7FFF (omega arith)) (sym (held_in_block Sinclair48K byte addr 3 (omega arith))))

-- of eight banks the odd ones are 1, 3, 5 and 7
odd_banks : (bank : ℕ) → bank < 8 → eqb (bank % 2) 1 ≡ bank_contended Sinclair128K bank
odd_banks bank h = same_bool (λ k. eqb (k % 2) 1) (λ k. bank_contended Sinclair128K k) 8 tt bank h

held_bank_lem : (bank offset : ℕ) → bank < 8 → offset < 16384 → held_bank (Ram (bank * 16384 + offset)) ≡ bank_contended Sinclair128K bank
unfolding held_bank
held_bank_lem bank offset h g = let e : (bank * 16384 + offset) / 16384 ≡ bank = omega arith in rw e (odd_banks bank h)

held_128 : (byte addr : ℕ) → addr < 65536 → held_bank (page128 byte addr) ≡ addr_contended Sinclair128K byte addr
unfolding held_bank
held_128 byte addr h =
    ranges (held_bank (page128 byte addr) ≡ addr_contended Sinclair128K byte addr) addr h
    (λ a. rw (low byte addr a) (sym (held_in_block Sinclair128K byte addr 0 (omega arith))))
    (λ a b. rw (screen byte addr a b) (held_bank_lem 5 (addr - 0x4000) (omega arith) (omega arith) ∙ sym (held_in_block Sinclair128K byte addr 1 (omega arith))))
    (λ a b. rw (middle byte addr a b) (held_bank_lem 2 (addr - 0x8000) (omega arith) (omega arith) ∙ sym (held_in_block Sinclair128K byte addr 2 (omega arith))))
    (λ a. rw (high byte addr a) (held_bank_lem (byte % 8) (addr - 0xC000) (omega arith) (omega arith) ∙ sym (held_in_block Sinclair128K byte addr 3 (omega arith))))

-- at every address and every 7FFD byte the pages and document 01 agree on whether the address is contended
pub agree_held : (m : ZXMachine) (byte addr : ℕ) → addr < 65536 → page_held m byte addr ≡ addr_contended m byte addr
agree_held Sinclair48K byte addr h = held_48 byte addr h
agree_held Sinclair128K byte addr h = held_128 byte addr h

-- ---- the lock. Document 01 holds one byte, whose bit 5 is the lock
abbrev pub latch_of : ℕ → Latch
latch_of held = record { byte = held; locked = bit_set 5 held }

latch_step : (held value : ℕ) → latch_write (latch_of held) value ≡ latch_of (paging_after (write7ffd Sinclair128K held value) held)
unfolding latch_write write7ffd
latch_step held value = by_lock (bit_set 5 held) refl where
  by_lock : (t : Bool) → bit_set 5 held ≡ t → latch_write (latch_of held) value ≡ latch_of (paging_after (write7ffd Sinclair128K held value) held)
  by_lock true e = rw (e, e)
  by_lock false e = rw (e, line_5 value)

latch_is : (held : ℕ) (values : List ℕ) → latch_after (latch_of held) values ≡ latch_of (paging_since Sinclair128K held values)
unfolding latch_after paging_since
latch_is held [] = refl
latch_is held (value ∷ values) =
    ap (λ (l : Latch). latch_after l values) (latch_step held value)
    ∙ latch_is (paging_after (write7ffd Sinclair128K held value) held) values

-- after a reset and any writes whatever the pages' latch holds document 01's byte, and is locked exactly where that byte has bit 5 set
pub agree_latch : (values : List ℕ) → latch_after reset values ≡ latch_of (paging_since Sinclair128K 0 values)
agree_latch values = latch_is 0 values

codes : (t : Bool) (value : ℕ) → paged_code (cond t Locked (Taken value)) ≡ cond t 6 5
codes true value = refl
codes false value = refl

-- and the next write is answered 6 where the pages' latch is locked, 5 where it is open
pub agree_code : (values : List ℕ) (value : ℕ)
    → paged_code (write7ffd Sinclair128K (paging_since Sinclair128K 0 values) value) ≡ cond (latch_after reset values).locked 6 5
unfolding write7ffd
agree_code values value = rw (agree_latch values) (codes (bit_set 5 (paging_since Sinclair128K 0 values)) value)
