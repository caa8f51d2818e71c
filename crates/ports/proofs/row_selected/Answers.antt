use Prim.Native.Nat.{◌+◌, ◌/◌, ◌^◌}
use lib.Bits.{and_mask}
use Rattle.ports.specs.Keys.{selected}
use Rattle.ports.proofs.row_selected.Goals as goal

pub returns : goal.returns
unfolding selected
returns c = rw (and_mask (c.args.port / 2 ^ (8 + c.args.n)) 1)
