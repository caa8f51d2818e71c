-- Memory and paging in the words of the public 48K and 128K reference pages: ranges of addresses, and the single bits D0 to D5 of the byte
-- on port 7FFDh, peeled off one after the other. Written apart from document 01's definitions; proofs/Agree.antt sets the two side by side.
-- Assumes nothing.
use Rattle.std.specs.Prelude.{ℕ, zero, suc, ◌+◌, ◌-◌, ◌*◌, ◌/◌, ◌%◌, Bool, false, cond, ◌&&◌, List, [], ◌∷◌, leb, eqb}
use Rattle.machine.specs.declared.ZXMachine.{ZXMachine}
use Rattle.machine.specs.declared.ZXMachine.TheVariants.{Sinclair48K, Sinclair128K}
use Rattle.memory.specs.declared.Place.{Place}
use Rattle.memory.specs.declared.Place.TheVariants.{Rom, Ram}

-- data line k of a byte on the bus: 0 or 1
unfoldable pub line : ℕ → ℕ → ℕ
line zero byte = byte % 2
line (suc k) byte = line k (byte / 2)

-- "Port 7FFDh: bits 0 to 2 the bank at C000h"
unfoldable pub bank_at_c000 : ℕ → ℕ
bank_at_c000 byte = line 0 byte + 2 * line 1 byte + 4 * line 2 byte

-- "bit 3 shows bank 7 (the shadow screen) instead of 5"
unfoldable pub shown_bank : ℕ → ℕ
shown_bank byte = cond (eqb (line 3 byte) 0) 5 7

-- "bit 4 the ROM"
unfoldable pub rom_at0000 : ℕ → ℕ
rom_at0000 byte = line 4 byte

-- the eight banks and the two ROMs are 16K each: a byte of one, among all
abbrev pub in_rom : ℕ → ℕ → Place
in_rom rom offset = Rom (rom * 16384 + offset)

abbrev pub in_bank : ℕ → ℕ → Place
in_bank bank offset = Ram (bank * 16384 + offset)

-- 48K: 16K of ROM at 0000h to 3FFFh, then 48K of RAM in order, 4000h to FFFFh
unfoldable pub page48 : ℕ → Place
page48 addr = cond (leb addr 0x3FFF) (Rom addr) (Ram (addr - 0x4000))

-- 128K: "ROM 0 or 1 at 0000h, bank 5 at 4000h, bank 2 at 8000h, the paged bank at C000h"
unfoldable pub page128 : ℕ → ℕ → Place
page128 byte addr =
    cond (leb 0xC000 addr) (in_bank (bank_at_c000 byte) (addr - 0xC000))
    (cond (leb 0x8000 addr) (in_bank 2 (addr - 0x8000))
    (cond (leb 0x4000 addr) (in_bank 5 (addr - 0x4000))
    (in_rom (rom_at0000 byte) addr)))

abbrev pub page_place : ZXMachine → ℕ → ℕ → Place
page_place Sinclair48K byte addr = page48 addr
page_place Sinclair128K byte addr = page128 byte addr

-- 48K: contended is 4000h to 7FFFh
unfoldable pub held48 : ℕ → Bool
held48 addr = leb 0x4000 addr && leb addr 0x7FFF

-- 128K: "RAM banks 1, 3, 5 and 7 are contended, wherever they are paged": those of the eight whose number is odd
unfoldable pub held_bank : Place → Bool
held_bank (Rom at) = false
held_bank (Ram at) = eqb (at / 16384 % 2) 1

abbrev pub page_held : ZXMachine → ℕ → ℕ → Bool
page_held Sinclair48K byte addr = held48 addr
page_held Sinclair128K byte addr = held_bank (page128 byte addr)

-- the 128K's paging latch: the byte that it holds, and whether it is locked, each of its own
pub record Latch : Type 0 where
  pub byte : ℕ
  pub locked : Bool

-- a reset opens the latch and clears it
abbrev pub reset : Latch
reset = record { byte = 0; locked = false }

-- a write to an open latch is taken, and "bit 5 locks paging"; a locked one does not see it
unfoldable pub latch_write : Latch → ℕ → Latch
latch_write l value = cond l.locked l (record { byte = value; locked = eqb (line 5 value) 1 })

-- "until reset": after any writes, the first of them first
unfoldable pub latch_after : Latch → List ℕ → Latch
latch_after l [] = l
latch_after l (value ∷ values) = latch_after (latch_write l value) values
