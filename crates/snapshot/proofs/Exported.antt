-- The file of a machine, written stage by stage, over plain values: header and border, the first three banks, and on 128K what stands between and the other
-- banks. Each stage stands right behind the one before it, and together they are as long as the file.
-- Assumes nothing.
use Prim.Native.Nat.{ℕ, ◌+◌, ◌*◌, ◌≤◌, ◌<◌}
use mathlib.Core.Path.{◌≡◌, refl, sym, ap, ◌∙◌}
use mathlib.Core.Bool.{Bool, true, false, cond}
use mathlib.Core.List.{List, [], ◌∷◌, ◌++◌, append-nil}
use native.Mathlib.Nat.{min-le_right}
use native.Mathlib.Omega.{arith}
use lib.ListN.{length, get_or, set, take, drop, length-append, length-set, length-take, length-drop}
use lib.Seq.{sets, length-sets, length-take-le, take-take, take_at, drop_at, take-add, get_or-take, get_or-drop}
use Rattle.machine.specs.declared.ZXMachine.{ZXMachine}
use Rattle.machine.specs.declared.ZXMachine.TheVariants.{Sinclair48K, Sinclair128K}
use Rattle.machine.specs.Numbers.{specs_of}
use Rattle.memory.specs.Memory.{ram_page}
use Rattle.snapshot.specs.File.{first_banks, remaining_banks, banks_in_order, without, among, stands_twice, due_size, laid}
use Rattle.snapshot.specs.Kept.{header_of, between, snapshot_file}
use Rattle.snapshot.specs.Written.{Writes}
use Rattle.snapshot.proofs.Order.{length_order, due_is_banks, first_three, three_banks, due_least, bank_exists, bank_whole}
use Rattle.snapshot.proofs.Front.{Front, front_more, front_all}
use Rattle.snapshot.proofs.Laid.{length_laid}
use Rattle.snapshot.proofs.Writing.{page_long}

-- ---- the order in two parts
-- three places and as many more as the code counts, one more where a bank stands twice
pub rest_counted : (m : ZXMachine) (byte rest : ℕ) (twice : Bool) → m ≡ Sinclair128K → twice ≡ stands_twice m byte → rest ≡ cond twice 6 5
    → 3 + rest ≡ length (banks_in_order m byte)
rest_counted m byte rest twice e t r = rw (r, t, length_order, e) (by (stands_twice Sinclair128K byte)) where
  by : (t : Bool) → 3 + cond t 6 5 ≡ cond t 9 8
  by true = refl
  by false = refl

-- nothing stands behind the first three banks on 48K
no_more : (m : ZXMachine) (byte : ℕ) (registers x : List ℕ) (page : ℕ → List ℕ) → m ≡ Sinclair48K
    → x ≡ x ++ between m registers byte ++ laid page (remaining_banks m byte)
unfolding without among laid
no_more m byte registers x page e = rw e (sym (append-nil (x ++ []) ∙ append-nil x))

-- WHAT IS LENT TO AN EXPORT, and the banks in their order
pub record Lent (m : ZXMachine) (byte : ℕ) (ram registers banks file : List ℕ) : Type 0 where
  pub order : take (length (banks_in_order m byte)) banks ≡ banks_in_order m byte
  pub ram_size : length ram ≡ (specs_of m).ram
  pub size : length registers ≡ 30
  pub due : length file ≡ due_size m byte

module _ {m : ZXMachine} {byte : ℕ} {ram registers banks file : List ℕ} (l : Lent m byte ram registers banks file) where
  abbrev page : ℕ → List ℕ
  page bank = ram_page bank ram

  due_long : length file ≡ 27 + 16384 * length (banks_in_order m byte) + length (between m registers byte)
  due_long = l.due ∙ due_is_banks m registers byte

  listed : length (banks_in_order m byte) ≤ length banks
  listed = omega (arith, ap length l.order, length-take (length (banks_in_order m byte)) banks, min-le_right (length (banks_in_order m byte)) (length banks))

  in_ram_lem : (k : ℕ) → k < length (banks_in_order m byte) → 16384 * get_or banks k 0 + 16384 ≤ length ram
  in_ram_lem k h =
      let e : get_or banks k 0 ≡ get_or (banks_in_order m byte) k 0 =
      sym (get_or-take (length (banks_in_order m byte)) banks k 0 h) ∙ ap (λ (xs : List ℕ). get_or xs k 0) l.order in
      rw (e, l.ram_size) (bank_whole m (get_or (banks_in_order m byte) k 0) (bank_exists m byte k h))

  -- banks at places of the order are there, whole in RAM
  part_long : (first count : ℕ) → first + count ≤ length (banks_in_order m byte) → length (take count (drop first banks)) ≡ count
  part_long first count h = length-take-le count (drop first banks) (rw length-drop (omega (arith, listed)))

  writes : (first count n at : ℕ) → first + count ≤ length (banks_in_order m byte) → at + 16384 * count ≤ n
      → Writes (take count (drop first banks)) (length ram) n at
  writes first count n at h room =
      let long = part_long first count h in
      record {
        in_ram = λ k g.
            let i : k < count = omega (arith, long) in
            rw (get_or-take count (drop first banks) k 0 i, get_or-drop first banks k 0) (in_ram_lem (first + k) (omega arith));
        room = rw long room;
      }

  are_first : take 3 (drop 0 banks) ≡ first_banks m byte
  unfolding banks_in_order
  are_first =
      sym (take-take 3 (length (banks_in_order m byte)) banks (three_banks m byte))
      ∙ ap (take 3) l.order
      ∙ take_at (first_banks m byte) (remaining_banks m byte) 3 (first_three m byte)

  are_rest : (rest : ℕ) → 3 + rest ≡ length (banks_in_order m byte) → take rest (drop 3 banks) ≡ remaining_banks m byte
  unfolding banks_in_order
  are_rest rest count =
      let both : first_banks m byte ++ take rest (drop 3 banks) ≡ first_banks m byte ++ remaining_banks m byte =
      ap (λ (xs : List ℕ). xs ++ take rest (drop 3 banks)) (sym are_first)
      ∙ sym (take-add 3 rest banks) ∙ ap (λ (n : ℕ). take n banks) count ∙ l.order in
      sym (drop_at (first_banks m byte) (take rest (drop 3 banks)) 3 (first_three m byte))
      ∙ ap (drop 3) both
      ∙ drop_at (first_banks m byte) (remaining_banks m byte) 3 (first_three m byte)

  laid_long : (first count : ℕ) → first + count ≤ length (banks_in_order m byte) → length (laid page (take count (drop first banks))) ≡ 16384 * count
  laid_long first count h =
      let w = writes first count (16384 * count) 0 h (omega arith) in
      length_laid 16384 page (take count (drop first banks)) (λ k g. page_long (get_or (take count (drop first banks)) k 0) ram (w.in_ram k g))
      ∙ ap (λ (n : ℕ). 16384 * n) (part_long first count h)

  least : 49179 ≤ length file
  least = rw l.due (due_least m byte)

  registers_long : length (take 26 registers) ≡ 26
  registers_long = length-take-le 26 registers (omega (arith, l.size))

  -- the registers' first 26 bytes have room,
  pub header_room : 0 + length (take 26 registers) ≤ length file
  header_room = omega (arith, registers_long, least)

  -- ---- header
  module _ (one : List ℕ) (put : one ≡ sets file 0 (take 26 registers)) where
    one_long : length one ≡ length file
    one_long = ap length put ∙ length-sets file 0 (take 26 registers)

    -- the border behind them,
    pub border_room : 26 < length one
    border_room = omega (arith, one_long, least)

    module _ (border : ℕ) where
      two_long : length (set one 26 border) ≡ length file
      two_long = length-set one 26 border ∙ one_long

      -- and the first three banks behind that
      pub first_writes : Writes (take 3 banks) (length ram) (length (set one 26 border)) 27
      first_writes = writes 0 3 (length (set one 26 border)) 27 (omega (arith, three_banks m byte)) (omega (arith, two_long, least))

      header_front : Front file (header_of registers border) (set one 26 border)
      header_front =
          let f : Front file (take 26 registers) one = front_more file [] (take 26 registers) file one 0 refl refl header_room put in
          front_more file (take 26 registers) (border ∷ []) one (set one 26 border) 26 f registers_long (omega (arith, least)) refl

      header_long : length (header_of registers border) ≡ 27
      header_long = length-append (take 26 registers) (border ∷ []) ∙ omega (arith, registers_long)

      -- ---- and the first three banks
      module _ (three : List ℕ) (first : three ≡ sets (set one 26 border) 27 (laid page (take 3 (drop 0 banks)))) where
        -- the file is as long as before
        pub three_long : length three ≡ length file
        three_long = ap length first ∙ length-sets (set one 26 border) 27 (laid page (take 3 (drop 0 banks))) ∙ two_long

        first_long : length (laid page (first_banks m byte)) ≡ 49152
        first_long = ap (λ (bs : List ℕ). length (laid page bs)) (sym are_first) ∙ laid_long 0 3 (omega (arith, three_banks m byte))

        abbrev front : List ℕ
        front = header_of registers border ++ laid page (first_banks m byte)

        front_long : length front ≡ 49179
        front_long = length-append (header_of registers border) (laid page (first_banks m byte)) ∙ omega (arith, header_long, first_long)

        three_front : Front file front three
        three_front =
            front_more file (header_of registers border) (laid page (first_banks m byte)) (set one 26 border) three 27 header_front header_long
            (omega (arith, first_long, least))
            (rw (← are_first) first)

        -- that is all on 48K
        pub file_48 : m ≡ Sinclair48K → three ≡ snapshot_file m byte border ram registers
        unfolding snapshot_file due_size
        file_48 e =
            let size : length file ≡ 49179 = rw e at l.due in
            front_all file front three three_front (omega (arith, front_long))
            ∙ no_more m byte registers front page e

        -- ---- on 128K what stands between, and the other banks
        module _ (e : m ≡ Sinclair128K) where
          four_bytes : length (between m registers byte) ≡ 4
          four_bytes = rw e

          -- what stands between has room,
          pub between_room : 49183 ≤ length three
          between_room = omega (arith, three_long, due_long, three_banks m byte, four_bytes)

          module _ (rest : ℕ) (four : List ℕ) (count : 3 + rest ≡ length (banks_in_order m byte))
              (behind : four ≡ sets three 49179 (between Sinclair128K registers byte)) where
            four_long : length four ≡ length file
            four_long = ap length behind ∙ length-sets three 49179 (between Sinclair128K registers byte) ∙ three_long

            -- and the other banks behind it
            pub rest_writes : Writes (take rest (drop 3 banks)) (length ram) (length four) 49183
            rest_writes = writes 3 rest (length four) 49183 (omega arith) (omega (arith, four_long, due_long, four_bytes))

            four_front : Front file (front ++ between m registers byte) four
            four_front =
                front_more file front (between m registers byte) three four 49179 three_front front_long
                (omega (arith, four_bytes, due_long, three_banks m byte))
                (rw e behind)

            module _ (five : List ℕ) (last : five ≡ sets four 49183 (laid page (take rest (drop 3 banks)))) where
              -- the file is as long as before
              pub five_long : length five ≡ length file
              five_long = ap length last ∙ length-sets four 49183 (laid page (take rest (drop 3 banks))) ∙ four_long

              -- and then that is all
              pub file_128 : five ≡ snapshot_file m byte border ram registers
              unfolding snapshot_file
              file_128 =
                  let x = front ++ between m registers byte in
                  let y = laid page (remaining_banks m byte) in
                  let x-long : length x ≡ 49183 = length-append front (between m registers byte) ∙ omega (arith, front_long, four_bytes) in
                  let y-long : length y ≡ 16384 * rest =
                  ap (λ (bs : List ℕ). length (laid page bs)) (sym (are_rest rest count)) ∙ laid_long 3 rest (omega arith) in
                  let f : Front file (x ++ y) five =
                  front_more file x y four five 49183 four_front x-long (omega (arith, due_long, four_bytes)) (rw (← are_rest rest count) last) in
                  front_all file (x ++ y) five f (length-append x y ∙ omega (arith, due_long, four_bytes))
