-- The picture is the one at entry with the blocks from `from` to k painted; where there are none, k stays at `from`.
-- Assumes nothing.
use mathlib.Core.Path.{◌≡◌}
use Prim.Native.Nat.{◌-◌, ◌≤◌}
use Rattle.paint.specs.Paint.{paint}
use Rattle.paint.proofs.paint_by.Given as goal

abbrev pub invariant-loop-k : goal.invariant-loop-k
invariant-loop-k g l = record {
  in_range : l.k - l.from ≤ l.to - l.from;
  painted : l.picture ≡ paint l.page l.flash l.from (l.k - l.from) l.initial.picture;
}
