-- A file's banks read into RAM, over plain values: each bank is found whole in the file, and RAM is filled from its front, bank after bank.
-- Assumes nothing.
use Prim.Native.Nat.{ℕ, ◌+◌, ◌-◌, ◌*◌, ◌≤◌, ◌<◌}
use mathlib.Core.Path.{◌≡◌, refl, ap, ap₂, ◌∙◌}
use mathlib.Core.Bool.{Bool, true, false, cond}
use mathlib.Core.List.{List, ◌++◌}
use native.Mathlib.Omega.{arith}
use lib.ListN.{length, get_or, take, drop, length-drop}
use lib.Seq.{sets, length-take-le, get_or-take}
use Rattle.machine.specs.declared.ZXMachine.{ZXMachine}
use Rattle.machine.specs.declared.ZXMachine.TheVariants.{Sinclair48K, Sinclair128K}
use Rattle.machine.specs.Numbers.{specs_of}
use Rattle.memory.specs.Paging.{last_page}
use Rattle.snapshot.specs.File.{all_banks, places_of_banks, place_start, bank_at, bank_in, banks_in_order, stands_twice, paging_in, due_size, laid, ram_in}
use Rattle.snapshot.proofs.Leaves.{place_at}
use Rattle.snapshot.proofs.Front.{Front, front_more, front_all}
use Rattle.snapshot.proofs.Laid.{laid_more, laid_same, length_laid}
use Rattle.snapshot.proofs.Order.{length_order, ram_is_banks, place_fits, found_inside, bank_is_place}

-- the first k banks of a file, each from the place that stands for it
unfoldable pub banks_to : List ℕ → List ℕ → ℕ → List ℕ
banks_to stand file k = laid (λ b. bank_at (get_or stand b 0) file) (take k (all_banks Sinclair128K))

bank_count_lem : (m : ZXMachine) → length (all_banks m) ≡ last_page m + 1
bank_count_lem Sinclair48K = refl
bank_count_lem Sinclair128K = refl

last_below : (m : ZXMachine) → last_page m < 8
last_below Sinclair48K = omega arith
last_below Sinclair128K = omega arith

-- there are nine places at most
pub few_places : (m : ZXMachine) (byte : ℕ) → length (banks_in_order m byte) ≤ 9
few_places Sinclair48K byte = omega (arith, length_order Sinclair48K byte)
few_places Sinclair128K byte = rw length_order (by (stands_twice Sinclair128K byte)) where
  by : (t : Bool) → cond t 9 8 ≤ 9
  by true = omega arith
  by false = omega arith

-- the banks of a machine are the first of the eight
first_banks_lem : (m : ZXMachine) → take (last_page m + 1) (all_banks Sinclair128K) ≡ all_banks m
first_banks_lem Sinclair48K = refl
first_banks_lem Sinclair128K = refl

ram_long_lem : (m : ZXMachine) → (specs_of m).ram ≡ 16384 * (last_page m + 1)
ram_long_lem m = omega (arith, ram_is_banks m, bank_count_lem m)

-- What is known while a machine's banks are read: the file is of the size that is due, and the places are those of its 7FFD byte.
module _ (m : ZXMachine) (byte last : ℕ) (file stand : List ℕ) (paging : byte ≡ paging_in m file) (is_last : last ≡ last_page m)
    (due : length file ≡ due_size m (paging_in m file)) (places : take (length (all_banks m)) stand ≡ places_of_banks m byte) where
  exists : (b : ℕ) → b ≤ last → b < length (all_banks m)
  exists b h = omega (arith, bank_count_lem m)

  inside : (b : ℕ) → b ≤ last → get_or stand b 0 < length (banks_in_order m byte)
  inside b h = rw (place_at m byte stand b places (exists b h)) (found_inside m byte b (exists b h))

  -- a bank's place is one of nine,
  pub place_below : (b : ℕ) → b ≤ last → get_or stand b 0 < 9
  place_below b h = omega (arith, inside b h, few_places m byte)

  -- and the bank stands there whole
  place_whole : (b : ℕ) → b ≤ last → place_start (get_or stand b 0) + 16384 ≤ length file
  place_whole b h = rw (due, ← paging) (place_fits m byte (get_or stand b 0) (inside b h))

  -- so that its end, counted from where it begins, lies in the file
  pub end_inside : (b at : ℕ) → b ≤ last → at ≡ place_start (get_or stand b 0) → at + 16384 ≤ length file
  end_inside b at h e = rw e (place_whole b h)

  bank_long : (b : ℕ) → b ≤ last → length (bank_at (get_or stand b 0) file) ≡ 16384
  bank_long b h = length-take-le 16384 (drop (place_start (get_or stand b 0)) file) (rw length-drop (omega (arith, place_whole b h)))

  banks_long : (k : ℕ) → k ≤ last + 1 → length (banks_to stand file k) ≡ 16384 * k
  unfolding banks_to
  banks_long k h =
      let few : k ≤ length (all_banks Sinclair128K) = omega (arith, last_below m) in
      let long : length (take k (all_banks Sinclair128K)) ≡ k = length-take-le k (all_banks Sinclair128K) few in
      length_laid 16384 (λ b. bank_at (get_or stand b 0) file) (take k (all_banks Sinclair128K)) (λ j g.
      let i : j < k = omega arith in
      rw (get_or-take k (all_banks Sinclair128K) j 0 i, bank_is_place Sinclair128K j (omega arith)) (bank_long j (omega arith)))
      ∙ ap (λ (n : ℕ). 16384 * n) long

  module _ (b at : ℕ) (ram₀ ram : List ℕ) (h : b ≤ last) (start : at ≡ place_start (get_or stand b 0)) (size : length ram₀ ≡ (specs_of m).ram) where
    cut : take (at + 16384 - at) (drop at file) ≡ bank_at (get_or stand b 0) file
    cut = let e : at + 16384 - at ≡ 16384 = omega arith in ap₂ (λ (n i : ℕ). take n (drop i file)) e start

    -- the bank in hand, as it is cut from the file, has room in RAM,
    pub bank_room : length ram ≡ length ram₀ → 16384 * b + length (take (at + 16384 - at) (drop at file)) ≤ length ram
    bank_room e = rw (cut, bank_long b h) (omega (arith, ram_long_lem m))

    -- and loaded it makes one bank more
    pub bank_more : (then : List ℕ) → Front ram₀ (banks_to stand file b) ram → then ≡ sets ram (16384 * b) (take (at + 16384 - at) (drop at file))
        → Front ram₀ (banks_to stand file (b + 1)) then
    unfolding banks_to
    bank_more then so_far load =
        let x = banks_to stand file b in
        let f : ℕ → List ℕ = λ (i : ℕ). bank_at (get_or stand i 0) file in
        let long : length x ≡ 16384 * b = banks_long b (omega arith) in
        let few : b < 8 = omega (arith, last_below m) in
        let more : banks_to stand file (b + 1) ≡ x ++ f b =
        laid_more f (all_banks Sinclair128K) b few ∙ ap (λ (i : ℕ). x ++ f i) (bank_is_place Sinclair128K b few) in
        rw more (front_more ram₀ x (f b) ram then (16384 * b) so_far long (omega (arith, bank_long b h, ram_long_lem m)) (rw cut at load))

  -- RAM AS IT IS AT THE END is what the file says
  pub all_read : (k : ℕ) (ram₀ ram : List ℕ) → k ≤ last + 1 → last < k → length ram₀ ≡ (specs_of m).ram
      → Front ram₀ (banks_to stand file k) ram → ram ≡ ram_in m file
  unfolding banks_to ram_in
  all_read k ram₀ ram h g size so_far =
      let e : k ≡ last_page m + 1 = omega arith in
      front_all ram₀ (banks_to stand file k) ram so_far (banks_long k h ∙ omega (arith, ram_long_lem m))
      ∙ ap (λ (bs : List ℕ). laid (λ b. bank_at (get_or stand b 0) file) bs) (ap (λ (n : ℕ). take n (all_banks Sinclair128K)) e ∙ first_banks_lem m)
      ∙ laid_same (λ b. bank_at (get_or stand b 0) file) (bank_in m file) (all_banks m) (λ j l.
      let i : get_or (all_banks m) j 0 < length (all_banks m) = rw (bank_is_place m j l) l in
      rw (place_at m byte stand (get_or (all_banks m) j 0) places i, paging))
