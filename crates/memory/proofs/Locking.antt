-- The 7FFD write: it remaps before it locks, the lock lasts, and document 01's table of cases has its row.
-- Assumes nothing.
use Prim.Native.Nat.{ℕ, ◌<◌, ◌/◌}
use mathlib.Core.Path.{◌≡◌, refl}
use mathlib.Core.Bool.{true, false}
use mathlib.Core.List.{List, [], ◌∷◌}
use Rattle.laws.proofs.Cases.{by_bool}
use Rattle.machine.specs.declared.ZXMachine.{ZXMachine}
use Rattle.machine.specs.declared.ZXMachine.TheVariants.{Sinclair48K, Sinclair128K}
use Rattle.memory.specs.declared.Page.TheVariants.{Ram}
use Rattle.memory.specs.declared.Paged.{Paged}
use Rattle.memory.specs.declared.Paged.TheVariants.{Locked, Taken}
use Rattle.memory.specs.Paging.{bit_set, page_at, write7ffd, paged_code, paging_after, paging_since}

-- "128K write of 27h, then 00h: the second answers 6", after a start, which holds byte 0
pub case_27h : paged_code (write7ffd Sinclair128K (paging_since Sinclair128K 0 (0x27 ∷ [])) 0x00) ≡ 6
unfolding write7ffd paging_since
case_27h = refl

-- the first of the two answers 5
pub case_27h_first : paged_code (write7ffd Sinclair128K 0 0x27) ≡ 5
unfolding write7ffd
case_27h_first = refl

-- the write of 27h locks and yet has remapped: page 7 is at C000h after it, and after the second write too
pub case_27h_remapped : page_at Sinclair128K (paging_since Sinclair128K 0 (0x27 ∷ [])) (0xC000 / 16384) ≡ Ram 7
unfolding write7ffd paging_since
case_27h_remapped = refl

pub case_27h_kept : page_at Sinclair128K (paging_since Sinclair128K 0 (0x27 ∷ 0x00 ∷ [])) (0xC000 / 16384) ≡ Ram 7
unfolding write7ffd paging_since
case_27h_kept = refl

-- an open latch takes every byte, one that sets bit 5 among them: the map is then that byte's map
pub taken : (held value : ℕ) → bit_set 5 held ≡ false → write7ffd Sinclair128K held value ≡ Taken value
unfolding write7ffd
taken held value e = rw e

-- a locked one takes none
pub refused : (held value : ℕ) → bit_set 5 held ≡ true → write7ffd Sinclair128K held value ≡ Locked
unfolding write7ffd
refused held value e = rw e

-- the 48K has no such port: nothing changes
pub absent : (held value : ℕ) → paging_after (write7ffd Sinclair48K held value) held ≡ held
unfolding write7ffd
absent held value = refl

-- one write to a locked latch, on either machine
locked_step : (m : ZXMachine) (held value : ℕ) → bit_set 5 held ≡ true → paging_after (write7ffd m held value) held ≡ held
locked_step Sinclair48K held value e = absent held value
locked_step Sinclair128K held value e = rw (refused held value e)

-- the lock lasts: whatever is written later, the held byte, and with it the whole map and the shown page, stays
pub lock_lasts : (m : ZXMachine) (held : ℕ) (values : List ℕ) → bit_set 5 held ≡ true → paging_since m held values ≡ held
unfolding paging_since
lock_lasts m held [] e = refl
lock_lasts m held (value ∷ values) e = rw (locked_step m held value e) (lock_lasts m held values e)

-- a held byte stays a byte
pub after_byte : (m : ZXMachine) (held value : ℕ) → held < 256 → value < 256 → paging_after (write7ffd m held value) held < 256
unfolding write7ffd
after_byte Sinclair48K held value h g = h
after_byte Sinclair128K held value h g = by_bool (λ (p : Paged). paging_after p held < 256) (bit_set 5 held) (λ e. h) (λ e. g)
