-- The blocks whose page is contended, as the code tests them, and single bits of the 7FFD byte as the code masks them.
-- Assumes nothing.
use Prim.Native.Nat.{ℕ, zero, suc, ◌+◌, ◌-◌, ◌*◌, ◌%◌, ◌^◌}
use mathlib.Core.Path.{◌≡◌, refl, ap, sym, ◌∙◌}
use mathlib.Core.Bool.{true, false, ◌&&◌, ◌||◌}
use native.Mathlib.Nat.{pow-suc}
use native.Mathlib.Numerals.{one-add}
use native.Mathlib.Omega.{arith}
use lib.Bits.{bit_and, and_high, and_mask}
use lib.Dec.{eqb}
use lib.Pow.{pow_pos}
use borrow.Author.Tests.{eq-eqb, ne_eqb}
use Rattle.laws.proofs.Cases.{split}
use Rattle.machine.specs.declared.ZXMachine.TheVariants.{Sinclair48K, Sinclair128K}
use Rattle.machine.specs.Contended.{bank_contended}
use Rattle.memory.specs.declared.Page.TheVariants.{Ram}
use Rattle.memory.specs.Paging.{bit, bit_set, page_at, page_contended}

-- ---- the blocks whose page is contended: block 1 on both machines, and block 3 of the 128K by its bank

pub contended_48 : (paging block : ℕ) → page_contended Sinclair48K (page_at Sinclair48K paging block) ≡ eqb block 1
contended_48 paging zero = refl
contended_48 paging (suc zero) = refl
contended_48 paging (suc (suc zero)) = refl
contended_48 paging (suc (suc (suc zero))) = refl
contended_48 paging (suc (suc (suc (suc block)))) = sym (ne_eqb (suc (suc (suc (suc block)))) 1 (λ e. omega arith))

pub contended_128 : (paging block : ℕ)
    → page_contended Sinclair128K (page_at Sinclair128K paging block) ≡ (eqb block 1 || (eqb block 3 && bank_contended Sinclair128K (paging % 8)))
contended_128 paging zero = refl
contended_128 paging (suc zero) = refl
contended_128 paging (suc (suc zero)) = refl
contended_128 paging (suc (suc (suc zero))) = refl
contended_128 paging (suc (suc (suc (suc block)))) =
    let n = suc (suc (suc (suc block))) in
    rw (ne_eqb n 1 (λ e. omega arith), ne_eqb n 3 (λ e. omega arith))

-- ---- a mask of one bit, whichever it is
mask_bit : (k byte : ℕ) → bit_and byte (2 ^ k) ≡ bit k byte * 2 ^ k
mask_bit k byte =
    let e : 2 ^ (1 + k) - 2 ^ k ≡ 2 ^ k = omega (arith, ap (λ (i : ℕ). 2 ^ i) (one-add k) ∙ pow-suc 2 k) in
    rw e at (and_high byte 1 k)

-- what it finds clear is clear
pub clear : (k byte : ℕ) → bit_and byte (2 ^ k) ≡ 0 → bit_set k byte ≡ false
clear k byte h = ne_eqb (bit k byte) 1 (λ e. omega (arith, rw e at (mask_bit k byte), pow_pos k))

-- and what it finds set is set
pub found : (k byte : ℕ) → (bit_and byte (2 ^ k) ≡ 0 → ⊥) → bit_set k byte ≡ true
found k byte h =
    eq-eqb (bit k byte) 1
    (split (bit k byte) 0 (λ l. let z : bit k byte ≡ 0 = omega arith in absurd (h (omega (arith, rw z at (mask_bit k byte))))) (λ l. omega arith))

-- the paged bank, as the code masks it
pub paged_bank_lem : (paging block : ℕ) → block ≡ 3 → Ram (bit_and paging 7) ≡ page_at Sinclair128K paging block
paged_bank_lem paging block e = rw e (ap Ram (and_mask paging 3))
