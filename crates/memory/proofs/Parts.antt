-- Bytes put into the middle of a slice, as the code lends the middle out; and the size of a ROM.
-- Assumes nothing.
use Prim.Native.Nat.{ℕ, ◌+◌, ◌-◌, ◌≤◌}
use mathlib.Core.Path.{◌≡◌, ap₂, sym, ◌∙◌}
use mathlib.Core.List.{List, ◌++◌, append-nil, append_assoc}
use native.Mathlib.Omega.{arith}
use lib.Dec.{lit≤}
use lib.ListN.{length, take, drop, drop_of_length-le}
use lib.Seq.{take-length, sets-eq}
use borrow.Rule.Slice.PartMut.{put_mid, Post-is}
use Rattle.machine.specs.declared.ZXMachine.{ZXMachine}
use Rattle.machine.specs.declared.ZXMachine.TheVariants.{Sinclair48K, Sinclair128K}
use Rattle.machine.specs.Numbers.{specs_of}
use Rattle.memory.specs.Memory.{stored}

-- no ROM is longer than 32 KiB
pub rom_small : (m : ZXMachine) → (specs_of m).rom ≤ 32768
rom_small Sinclair48K = lit≤ tt
rom_small Sinclair128K = lit≤ tt

-- what a copy over the lent part leaves in it is the source
copied : (src mid : List ℕ) → length mid ≤ length src → take (length src) src ++ drop (length src) mid ≡ src
copied src mid h = rw (take-length src, drop_of_length-le mid h) (append-nil src)

module _ (from : ℕ) (dst src ys : List ℕ) (fits : from + length src ≤ length dst) where
  abbrev to : ℕ
  to = from + length src

  pub put_is : ys ≡ src → put_mid from (to - from) dst ys ≡ stored from src dst
  put_is e =
      ap₂ (λ (y z : List ℕ). take from dst ++ (y ++ z)) e (Post-is from to dst (omega arith))
      ∙ sym (append_assoc (take from dst) src (drop to dst))
      ∙ sym (sets-eq src dst from fits)
