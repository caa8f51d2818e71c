-- Every size that is due has a header.
use native.Mathlib.Omega.{arith}
use Rattle.snapshot.specs.File.{paging_in}
use Rattle.snapshot.proofs.Order.{due_least}
use Rattle.snapshot.proofs.Snapshot.bus.Goals as goal

pub bounds-self-26 : goal.bounds-self-26
bounds-self-26 c = let s = c.args.self.now in omega (arith, s.sized, due_least s.machine (paging_in s.machine s.file.now))
