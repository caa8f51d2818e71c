-- Two puts, one behind the other, fill what is lent: `registers_are`.
use native.Mathlib.Omega.{arith}
use borrow.Author.Rules.{rules}
use Rattle.machine.specs.declared.ZXMachine.TheVariants.{Sinclair48K, Sinclair128K}
use Rattle.snapshot.proofs.Registers.{inside_128, header_inside, registers_are}
use Rattle.snapshot.proofs.Snapshot.read_registers.Goals as goal

pub slice_bounds-put-end : goal.slice_bounds-put-end
slice_bounds-put-end c = search (header_inside, rules)

pub bounds-file-49179 : goal.bounds-file-49179
bounds-file-49179 c = inside_128 _ _ 49179 _ c.in-Sinclair128K.is c.args.self.now.sized (omega arith)

pub bounds-file : goal.bounds-file
bounds-file c = inside_128 _ _ 49180 _ c.in-Sinclair128K.is c.args.self.now.sized (omega arith)

pub bounds-file-49182 : goal.bounds-file-49182
bounds-file-49182 c = inside_128 _ _ 49182 _ c.in-Sinclair128K.is c.args.self.now.sized (omega arith)

pub returns-in-Sinclair48K : goal.returns-in-Sinclair48K
returns-in-Sinclair48K c = let s = c in registers_are Sinclair48K _ _ _ s.args.registers.now _ _ c.in-Sinclair48K.is s.args.self.now.sized s.requires c.put.ensures c.put-in-Sinclair48K.ensures

pub returns-in-Sinclair128K : goal.returns-in-Sinclair128K
returns-in-Sinclair128K c = let s = c in registers_are Sinclair128K _ _ _ s.args.registers.now _ _ c.in-Sinclair128K.is s.args.self.now.sized s.requires c.put.ensures c.put-in-Sinclair128K.ensures
