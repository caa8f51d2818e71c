-- THE ORDER OF THE BANKS in a file, for each 7FFD byte: how many stand there, that each is whole in RAM and in the file, where each is found, and which place
-- is found for each that stands there. The 7FFD byte says only which of eight banks is paged, so antt computes each of these at the eight.
-- Assumes nothing.
use Prim.Native.Nat.{ℕ, ◌+◌, ◌*◌, ◌≤◌, ◌<◌}
use mathlib.Core.Path.{◌≡◌, refl, ap, ◌∙◌}
use mathlib.Core.Bool.{Bool, true, false, cond, ◌&&◌, ◌||◌, false≢true}
use mathlib.Core.List.{List, [], ◌∷◌, ◌++◌}
use native.Mathlib.Omega.{arith}
use lib.Dec.{T, eqb, ltb, eqb→eq, ltb→lt}
use lib.ListN.{length, get_or, length-append}
use Rattle.laws.specs.Tests.{below, every}
use Rattle.laws.proofs.Below as numbers
use Rattle.laws.proofs.Every as entries
use Rattle.laws.proofs.Cases.{by_lt}
use Rattle.machine.specs.declared.ZXMachine.{ZXMachine}
use Rattle.machine.specs.declared.ZXMachine.TheVariants.{Sinclair48K, Sinclair128K}
use Rattle.machine.specs.Numbers.{specs_of}
use Rattle.snapshot.specs.File.{paged_bank, first_banks, all_banks, among, without, banks_in_order, place_start, stands_twice, due_size, first_place}
use Rattle.snapshot.specs.Kept.{between}

-- the order with bank p paged, and whether p stands twice in it
abbrev pub order : ℕ → List ℕ
order p = (5 ∷ 2 ∷ p ∷ []) ++ without (5 ∷ 2 ∷ p ∷ []) (all_banks Sinclair128K)

abbrev twice : ℕ → Bool
twice p = eqb p 5 || eqb p 2

-- a test that passes at the eight paged banks passes at that of each 7FFD byte
by_paged : (test : ℕ → Bool) → T (below test 8) → (byte : ℕ) → T (test (paged_bank byte))
by_paged test t byte = numbers.at test 8 t (paged_bank byte) (omega arith)

-- and so one that passes at every entry of the eight orders
by_place : (test : ℕ → ℕ → ℕ → Bool) → T (below (λ p. every (test p) 0 (order p)) 8) → (byte k : ℕ) → k < length (order (paged_bank byte))
    → T (test (paged_bank byte) k (get_or (order (paged_bank byte)) k 0))
by_place test t byte k h = entries.at (test (paged_bank byte)) (order (paged_bank byte)) (by_paged (λ p. every (test p) 0 (order p)) t byte) k h

-- and one that passes at the eight and each of the eight banks
by_bank : (test : ℕ → ℕ → Bool) → T (below (λ p. below (test p) 8) 8) → (byte b : ℕ) → b < 8 → T (test (paged_bank byte) b)
by_bank test t byte b h = numbers.at (test (paged_bank byte)) 8 (by_paged (λ p. below (test p) 8) t byte) b h

-- ---- how many
abbrev pub bank_count : ZXMachine → ℕ → ℕ
bank_count Sinclair48K byte = 3
bank_count Sinclair128K byte = cond (stands_twice Sinclair128K byte) 9 8

-- three banks on 48K; eight on 128K, and nine exactly where one stands twice
pub length_order : (m : ZXMachine) (byte : ℕ) → length (banks_in_order m byte) ≡ bank_count m byte
unfolding banks_in_order without among
length_order Sinclair48K byte = refl
length_order Sinclair128K byte = eqb→eq _ _ (by_paged (λ p. eqb (length (order p)) (cond (twice p) 9 8)) tt byte)

-- the size that is due is the header, the banks in their order, and what stands between them
pub due_is_banks : (m : ZXMachine) (registers : List ℕ) (byte : ℕ)
    → due_size m byte ≡ 27 + 16384 * length (banks_in_order m byte) + length (between m registers byte)
unfolding due_size
due_is_banks Sinclair48K registers byte = rw length_order
due_is_banks Sinclair128K registers byte = rw length_order (by (stands_twice Sinclair128K byte)) where
  by : (t : Bool) → cond t 147487 131103 ≡ 27 + 16384 * cond t 9 8 + 4
  by true = refl
  by false = refl

-- at least three banks stand there
pub first_three : (m : ZXMachine) (byte : ℕ) → length (first_banks m byte) ≡ 3
first_three Sinclair48K byte = refl
first_three Sinclair128K byte = refl

pub three_banks : (m : ZXMachine) (byte : ℕ) → 3 ≤ length (banks_in_order m byte)
unfolding banks_in_order
three_banks m byte = rw length-append (omega (arith, first_three m byte))

-- so the size that is due is never less than header and three banks
pub due_least : (m : ZXMachine) (byte : ℕ) → 49179 ≤ due_size m byte
due_least m byte = omega (arith, due_is_banks m [] byte, three_banks m byte)

-- the third is the paged one where one stands twice
pub third_paged : (m : ZXMachine) (byte : ℕ) → stands_twice m byte ≡ true → get_or (banks_in_order m byte) 2 0 ≡ paged_bank byte
unfolding banks_in_order
third_paged Sinclair48K byte e = absurd (false≢true e)
third_paged Sinclair128K byte e = refl

-- RAM is the machine's banks, with nothing left over
pub ram_is_banks : (m : ZXMachine) → 16384 * length (all_banks m) ≡ (specs_of m).ram
ram_is_banks Sinclair48K = refl
ram_is_banks Sinclair128K = refl

-- ---- each bank of the order
-- lies whole in a file of the size that is due
pub place_fits : (m : ZXMachine) (byte k : ℕ) → k < length (banks_in_order m byte) → place_start k + 16384 ≤ due_size m byte
unfolding due_size
place_fits Sinclair48K byte k h =
    by_lt (λ (n : ℕ). 27 + 16384 * k + n + 16384 ≤ 49179) k 3
    (λ g. omega arith)
    (λ g. omega (arith, length_order Sinclair48K byte))
place_fits Sinclair128K byte k h =
    by_lt (λ (n : ℕ). 27 + 16384 * k + n + 16384 ≤ due_size Sinclair128K byte) k 3
    (λ g. omega (arith, due_is_banks Sinclair128K [] byte))
    (λ g. omega (arith, due_is_banks Sinclair128K [] byte))

-- is one of the machine's,
pub bank_exists : (m : ZXMachine) (byte k : ℕ) → k < length (banks_in_order m byte) → get_or (banks_in_order m byte) k 0 < length (all_banks m)
unfolding banks_in_order without among
bank_exists Sinclair48K byte k h = ltb→lt _ _ (entries.at (λ k b. ltb b 3) (0 ∷ 1 ∷ 2 ∷ []) tt k h)
bank_exists Sinclair128K byte k h = ltb→lt _ _ (by_place (λ p k b. ltb b 8) tt byte k h)

-- so that it lies whole in RAM
pub bank_whole : (m : ZXMachine) (b : ℕ) → b < length (all_banks m) → 16384 * b + 16384 ≤ (specs_of m).ram
bank_whole Sinclair48K b h = omega arith
bank_whole Sinclair128K b h = omega arith

-- THE PLACE THAT IS FOUND for the bank at a place: the same, but for the third place where a bank stands twice. There it is the bank's first place, 0 for
-- bank 5 and 1 for bank 2.
abbrev pub place_found : ZXMachine → ℕ → ℕ → ℕ
place_found m byte k = cond (stands_twice m byte && eqb k 2) (cond (eqb (paged_bank byte) 5) 0 1) k

pub place_found_lem : (m : ZXMachine) (byte k : ℕ) → k < length (banks_in_order m byte)
    → first_place (get_or (banks_in_order m byte) k 0) (banks_in_order m byte) ≡ place_found m byte k
unfolding banks_in_order without among first_place
place_found_lem Sinclair48K byte k h = eqb→eq _ _ (entries.at (λ k b. eqb (first_place b (0 ∷ 1 ∷ 2 ∷ [])) k) (0 ∷ 1 ∷ 2 ∷ []) tt k h)
place_found_lem Sinclair128K byte k h =
    eqb→eq _ _ (by_place (λ p k b. eqb (first_place b (order p)) (cond (twice p && eqb k 2) (cond (eqb p 5) 0 1) k)) tt byte k h)

-- so the place itself, but for that one,
pub found_itself : (m : ZXMachine) (byte k : ℕ) → k < length (banks_in_order m byte) → (stands_twice m byte && eqb k 2) ≡ false
    → first_place (get_or (banks_in_order m byte) k 0) (banks_in_order m byte) ≡ k
found_itself m byte k h e = place_found_lem m byte k h ∙ ap (λ (t : Bool). cond t (cond (eqb (paged_bank byte) 5) 0 1) k) e

-- and for that one the first
pub found_first : (m : ZXMachine) (byte : ℕ) → stands_twice m byte ≡ true
    → first_place (get_or (banks_in_order m byte) 2 0) (banks_in_order m byte) ≡ cond (eqb (paged_bank byte) 5) 0 1
found_first m byte e = place_found_lem m byte 2 (three_banks m byte) ∙ ap (λ (t : Bool). cond (t && true) (cond (eqb (paged_bank byte) 5) 0 1) 2) e

-- ---- each bank of the machine
-- is found, inside the order,
pub found_inside : (m : ZXMachine) (byte b : ℕ) → b < length (all_banks m) → first_place b (banks_in_order m byte) < length (banks_in_order m byte)
unfolding banks_in_order without among first_place
found_inside Sinclair48K byte b h = ltb→lt _ _ (numbers.at (λ b. ltb (first_place b (0 ∷ 1 ∷ 2 ∷ [])) 3) 3 tt b h)
found_inside Sinclair128K byte b h = ltb→lt _ _ (by_bank (λ p b. ltb (first_place b (order p)) (length (order p))) tt byte b h)

-- and stands where it is found
pub found_there : (m : ZXMachine) (byte b : ℕ) → b < length (all_banks m) → get_or (banks_in_order m byte) (first_place b (banks_in_order m byte)) 0 ≡ b
unfolding banks_in_order without among first_place
found_there Sinclair48K byte b h = eqb→eq _ _ (numbers.at (λ b. eqb (get_or (0 ∷ 1 ∷ 2 ∷ []) (first_place b (0 ∷ 1 ∷ 2 ∷ [])) 0) b) 3 tt b h)
found_there Sinclair128K byte b h = eqb→eq _ _ (by_bank (λ p b. eqb (get_or (order p) (first_place b (order p)) 0) b) tt byte b h)

-- the banks of a machine in rising order are 0, 1, 2 and so on
pub bank_is_place : (m : ZXMachine) (b : ℕ) → b < length (all_banks m) → get_or (all_banks m) b 0 ≡ b
bank_is_place Sinclair48K b h = eqb→eq _ _ (numbers.at (λ b. eqb (get_or (all_banks Sinclair48K) b 0) b) 3 tt b h)
bank_is_place Sinclair128K b h = eqb→eq _ _ (numbers.at (λ b. eqb (get_or (all_banks Sinclair128K) b 0) b) 8 tt b h)
