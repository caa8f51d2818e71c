-- The registers read from a file, over plain values: header and the last three bytes are inside a file of the size that is due, and fill what is lent.
-- Assumes nothing.
use Prim.Native.Nat.{ℕ, ◌≤◌, ◌<◌}
use mathlib.Core.Path.{◌≡◌, refl, ◌∙◌}
use mathlib.Core.Bool.{Bool, true, false, cond}
use mathlib.Core.List.{List, [], ◌++◌}
use native.Mathlib.Omega.{arith}
use lib.ListN.{length, take, length-append}
use lib.Seq.{sets, length-take-le}
use Rattle.machine.specs.declared.ZXMachine.{ZXMachine}
use Rattle.machine.specs.declared.ZXMachine.TheVariants.{Sinclair48K, Sinclair128K}
use Rattle.snapshot.specs.File.{due_size, stands_twice}
use Rattle.snapshot.specs.Kept.{registers_in, last_three}
use Rattle.snapshot.proofs.Order.{due_least}
use Rattle.snapshot.proofs.Front.{Front, front_more, front_all}

-- a file of the size that is due has the 131,103 bytes of the 128K form's shorter size,
pub inside_128 : (m : ZXMachine) (byte k n : ℕ) → m ≡ Sinclair128K → n ≡ due_size m byte → k < 131103 → k < n
unfolding due_size
inside_128 m byte k n e due h = rw (due, e) (by (stands_twice Sinclair128K byte)) where
  by : (t : Bool) → k < cond t 147487 131103
  by true = omega arith
  by false = omega arith

-- and on both machines a header
pub header_inside : (m : ZXMachine) (byte n : ℕ) → n ≡ due_size m byte → 27 ≤ n
header_inside m byte n due = omega (arith, due_least m byte)

three : (m : ZXMachine) (file : List ℕ) → length (last_three m file) ≡ 3
three Sinclair48K file = refl
three Sinclair128K file = refl

-- header and last three, stored one behind the other, are the registers of the file
pub registers_are : (k m : ZXMachine) (byte : ℕ) (file registers one two : List ℕ) → m ≡ k → length file ≡ due_size m byte → length registers ≡ 30
    → one ≡ sets registers 0 (take 27 file) → two ≡ sets one 27 (last_three k file) → two ≡ registers_in m file
unfolding registers_in
registers_are k m byte file registers one two e due size first second =
    let header : length (take 27 file) ≡ 27 = length-take-le 27 file (header_inside m byte (length file) due) in
    let long : length (last_three k file) ≡ 3 = three k file in
    let f : Front registers (take 27 file) one = front_more registers [] (take 27 file) registers one 0 refl refl (omega arith) first in
    let g : Front registers (take 27 file ++ last_three k file) two = front_more registers (take 27 file) (last_three k file) one two 27 f header (omega arith) second in
    rw e (front_all registers (take 27 file ++ last_three k file) two g (length-append (take 27 file) (last_three k file) ∙ omega arith))
