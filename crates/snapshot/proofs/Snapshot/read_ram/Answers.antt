-- The loop's invariant: RAM is filled from its front with the banks read so far: `bank_more`, and at the end `all_read`.
use Prim.Native.Nat.{◌+◌}
use mathlib.Core.Path.{refl}
use native.Mathlib.Omega.{arith}
use borrow.Author.Rules.{rules}
use Rattle.snapshot.specs.File.{laid}
use Rattle.snapshot.proofs.Reading.{banks_to, place_below, end_inside, bank_room, bank_more, all_read}
use Rattle.snapshot.proofs.Snapshot.read_ram.Goals as goal

pub loop-bank-init : goal.loop-bank-init
unfolding banks_to laid
loop-bank-init c = (refl, refl)

pub place_start-at-requires : goal.place_start-at-requires
place_start-at-requires c =
    let s = c.args.self.now in
    rw c.from.ensures (place_below s.machine _ _ s.file.now _ c.map.ensures.1 c.last_page-last.ensures s.sized (rw c.map.ensures.0 at c.places-stand.ensures) c.loop-bank.bank (omega arith))

pub slice_bounds-load-end : goal.slice_bounds-load-end
slice_bounds-load-end c =
    let s = c.args.self.now in
    end_inside s.machine _ _ s.file.now _ c.map.ensures.1 c.last_page-last.ensures s.sized (rw c.map.ensures.0 at c.places-stand.ensures) c.loop-bank.bank _ (omega arith) (rw c.from.ensures at c.place_start-at.ensures)

pub load-requires : goal.load-requires
load-requires c =
    let s = c.args.self.now in
    bank_room s.machine _ _ s.file.now _ c.map.ensures.1 c.last_page-last.ensures s.sized (rw c.map.ensures.0 at c.places-stand.ensures) c.loop-bank.bank _
    c.args.ram.now _ (omega arith) (rw c.from.ensures at c.place_start-at.ensures) c.requires c.loop-bank.invariant.0

pub loop-bank-preserved : goal.loop-bank-preserved
loop-bank-preserved c =
    let s = c.args.self.now in
    let at = rw c.from.ensures at c.place_start-at.ensures in (
      search rules,
      bank_more s.machine _ _ s.file.now _ c.map.ensures.1 c.last_page-last.ensures s.sized (rw c.map.ensures.0 at c.places-stand.ensures) c.loop-bank.bank _
          c.args.ram.now _ (omega arith) at c.requires _ c.loop-bank.invariant.1 c.load.ensures,
    )

pub returns-2 : goal.returns-2
returns-2 c =
    let s = c.args.self.now in
    let at = rw c.from.ensures at c.place_start-at.ensures in
    all_read s.machine _ c.last_page-last.result s.file.now _ c.map.ensures.1 c.last_page-last.ensures s.sized (rw c.map.ensures.0 at c.places-stand.ensures)
    (c.loop-bank.bank + 1) c.args.ram.now _ (omega arith) (omega arith) c.requires
    (bank_more s.machine _ _ s.file.now _ c.map.ensures.1 c.last_page-last.ensures s.sized (rw c.map.ensures.0 at c.places-stand.ensures) c.loop-bank.bank _
    c.args.ram.now _ (omega arith) at c.requires _ c.loop-bank.invariant.1 c.load.ensures)
