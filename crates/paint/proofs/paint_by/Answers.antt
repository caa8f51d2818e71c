-- Assumes nothing.
use mathlib.Core.Path.{◌≡◌, sym, ◌∙◌}
use Prim.Native.Nat.{◌-◌}
use native.Mathlib.Omega.{arith}
use Rattle.paint.proofs.Painting.{paint_none, paint_more}
use Rattle.paint.proofs.paint_by.Goals as goal

pub loop-k-init : goal.loop-k-init
loop-k-init g c =
    let s = c.args in
    record { in_range = omega arith; painted = sym (paint_none s.page.now s.flash s.from s.from s.picture.now (omega arith)) }

pub loop-k-preserved : goal.loop-k-preserved
loop-k-preserved g c =
    let s = c.args in record {
      in_range = omega arith;
      painted =
          c.paint_block.ensures
          ∙ rw c.loop-k.invariant.painted (paint_more s.page.now s.flash s.from c.loop-k.k s.picture.now c.loop-k.auto.k);
    }

pub returns : goal.returns
returns g c =
    let e : c.loop-k.k - c.args.from ≡ c.args.to - c.args.from = omega arith in
    rw e at c.loop-k.invariant.painted
