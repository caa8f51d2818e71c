-- Eight bytes put back in their place are stores one after the other.
-- Assumes nothing.
use mathlib.Core.Path.{◌≡◌, ◌∙◌}
use Prim.Native.Nat.{◌+◌, ◌-◌, ◌*◌}
use native.Mathlib.Omega.{arith}
use Rattle.laws.proofs.Stores.{stored}
use Rattle.paint.specs.Paint.{block_at}
use Rattle.paint.proofs.Painting.{eight_pixels}
use Rattle.paint.proofs.paint_block.Goals as goal

pub returns : goal.returns
returns c =
    let s = c.args in
    let e : c.copy_from_slice.new.self ≡ block_at s.page.now s.flash s.k =
    c.copy_from_slice.ensures.after ∙ rw c.requires.1 at c.block.ensures in
    let n : 8 * s.k + 8 - 8 * s.k ≡ 8 = omega arith in
    rw n (stored (8 * s.k) 8 s.picture.now c.copy_from_slice.new.self (block_at s.page.now s.flash s.k) e (eight_pixels s.page.now s.flash s.k) (omega arith))
