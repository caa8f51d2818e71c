-- The loop's invariant: the banks written so far are one store: `bank_written`.
use mathlib.Core.Path.{refl}
use native.Mathlib.Omega.{arith}
use borrow.Author.Rules.{rules}
use Rattle.snapshot.specs.File.{laid}
use Rattle.snapshot.proofs.Writing.{page_long, bank_written}
use Rattle.snapshot.proofs.write_banks.Goals as goal

pub loop-k-init : goal.loop-k-init
unfolding laid
loop-k-init c = (refl, refl)

pub put-requires : goal.put-requires
put-requires c =
    let long = page_long _ _ (c.requires.in_ram c.loop-k.k (omega arith)) in
    rw (c.ram_page_data-page.ensures, c.from.ensures, long) (omega (arith, c.requires.room, c.loop-k.invariant.0))

pub loop-k-preserved : goal.loop-k-preserved
loop-k-preserved c =
    let s = c in
    let put = rw (c.ram_page_data-page.ensures, c.from.ensures) at c.put.ensures in
    (search rules, bank_written s.args.ram.now s.args.banks.now s.args.file.now _ _ s.args.at c.loop-k.k c.requires (omega arith) c.loop-k.invariant.1 put)
