-- The middle of the slice is lent to the copy and comes back as the source: `put_is`.
use Rattle.memory.proofs.Parts.{put_is}
use Rattle.memory.proofs.put.Goals as goal

pub returns : goal.returns
returns c = put_is c.args.at c.args.dst.now c.args.src.now c.copy.new.dst c.requires c.copy.ensures
