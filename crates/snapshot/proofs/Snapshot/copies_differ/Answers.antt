-- The two parts are compared where a bank stands twice: `differ_is`.
use Rattle.snapshot.proofs.Leaves.{differ_is, differ_not}
use Rattle.snapshot.proofs.Snapshot.copies_differ.Goals as goal

pub returns-then-stands_twice : goal.returns-then-stands_twice
returns-then-stands_twice c =
    let s = c.args.self.now in
    let twice = rw c.map-map.ensures.0 at c.stands_twice.ensures in
    let at = rw c.map-map.ensures.0 at c.first_copy-at.ensures.0 in
    differ_is s.machine s.file.now _ _ _ _ c.map-map.ensures.1 twice c.if-stands_twice.true at c.same.ensures

pub returns-else-stands_twice : goal.returns-else-stands_twice
returns-else-stands_twice c =
    let s = c.args.self.now in
    differ_not s.machine s.file.now _ _ c.map-map.ensures.1 (rw c.map-map.ensures.0 at c.stands_twice.ensures) c.if-stands_twice.false
