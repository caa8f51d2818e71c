-- The part of the RAM that is lent is the page, 16,384 bytes from `start`.
-- Assumes nothing.
use mathlib.Core.Path.{◌≡◌}
use Prim.Native.Nat.{◌+◌, ◌-◌}
use native.Mathlib.Omega.{arith}
use lib.ListN.{take, drop}
use Rattle.paint.proofs.paint_ram.Goals as goal

pub returns : goal.returns
returns c =
    let s = c.args in
    let e : s.start + 16384 - s.start ≡ 16384 = omega arith in
    let page : c.unwrap-page.result.now ≡ take (s.start + 16384 - s.start) (drop s.start s.ram.now) =
    (rw c.unwrap-page.ensures at c.try_into.ensures.1).same in
    rw (page, e) at c.paint_blocks.ensures
