-- Stage by stage, each right behind the one before it: `file_48`, `file_128`.
use Prim.Native.Nat.{◌+◌}
use native.Mathlib.Nat.{add-sub_cancel_left}
use mathlib.Core.Path.{◌≡◌, sym, ap, ◌∙◌}
use mathlib.Core.Bool.{Bool, cond}
use lib.ListN.{length}
use Rattle.snapshot.specs.File.{banks_in_order}
use Rattle.snapshot.proofs.Exported.{Lent, rest_counted, header_room, border_room, first_writes, file_48, between_room, rest_writes, file_128}
use Rattle.snapshot.proofs.write_file.Goals as goal
use Rattle.snapshot.proofs.write_file.Goals.{then-stands_twice, else-stands_twice}

pub put-requires : goal.put-requires
put-requires c =
    let w : Lent c.args.map.machine c.args.map.paging c.args.ram.now c.args.registers.now c.in_order-banks.result c.args.file.now = record { order = c.in_order-banks.ensures; ram_size = c.requires.0; size = c.requires.1; due = c.requires.2 } in
    header_room w

pub bounds-file-26 : goal.bounds-file-26
bounds-file-26 c =
    let w : Lent c.args.map.machine c.args.map.paging c.args.ram.now c.args.registers.now c.in_order-banks.result c.args.file.now = record { order = c.in_order-banks.ensures; ram_size = c.requires.0; size = c.requires.1; due = c.requires.2 } in
    border_room w _ c.put.ensures

pub write_banks-requires : goal.write_banks-requires
write_banks-requires c =
    let w : Lent c.args.map.machine c.args.map.paging c.args.ram.now c.args.registers.now c.in_order-banks.result c.args.file.now = record { order = c.in_order-banks.ensures; ram_size = c.requires.0; size = c.requires.1; due = c.requires.2 } in
    first_writes w _ c.put.ensures _

pub put-requires-in-Sinclair128K : goal.put-requires-in-Sinclair128K
put-requires-in-Sinclair128K c =
    let w : Lent c.args.map.machine c.args.map.paging c.args.ram.now c.args.registers.now c.in_order-banks.result c.args.file.now = record { order = c.in_order-banks.ensures; ram_size = c.requires.0; size = c.requires.1; due = c.requires.2 } in
    between_room w _ c.put.ensures _ _ c.write_banks.ensures c.in-Sinclair128K.is

pub write_banks-requires-in-Sinclair128K : goal.write_banks-requires-in-Sinclair128K
write_banks-requires-in-Sinclair128K c =
    let w : Lent c.args.map.machine c.args.map.paging c.args.ram.now c.args.registers.now c.in_order-banks.result c.args.file.now = record { order = c.in_order-banks.ensures; ram_size = c.requires.0; size = c.requires.1; due = c.requires.2 } in
    let n : 3 + c.if-stands_twice.rest ≡ length (banks_in_order c.args.map.machine c.args.map.paging) = rest_counted _ _ _ c.stands_twice.result c.in-Sinclair128K.is c.stands_twice.ensures (elim c.if-stands_twice.branch [ then-stands_twice w ↦ w.rest-is ∙ sym (ap (λ (t : Bool). cond t 6 5) w.if-stands_twice.true) | else-stands_twice w ↦ w.rest-is ∙ sym (ap (λ (t : Bool). cond t 6 5) w.if-stands_twice.false) ]) in
    rw add-sub_cancel_left (rest_writes w _ c.put.ensures _ _ c.write_banks.ensures c.in-Sinclair128K.is _ _ n c.put-in-Sinclair128K.ensures)

pub returns-in-Sinclair48K : goal.returns-in-Sinclair48K
returns-in-Sinclair48K c =
    let w : Lent c.args.map.machine c.args.map.paging c.args.ram.now c.args.registers.now c.in_order-banks.result c.args.file.now = record { order = c.in_order-banks.ensures; ram_size = c.requires.0; size = c.requires.1; due = c.requires.2 } in
    file_48 w _ c.put.ensures _ _ c.write_banks.ensures c.in-Sinclair48K.is

pub returns-after-stands_twice : goal.returns-after-stands_twice
returns-after-stands_twice c =
    let w : Lent c.args.map.machine c.args.map.paging c.args.ram.now c.args.registers.now c.in_order-banks.result c.args.file.now = record { order = c.in_order-banks.ensures; ram_size = c.requires.0; size = c.requires.1; due = c.requires.2 } in
    let n : 3 + c.if-stands_twice.rest ≡ length (banks_in_order c.args.map.machine c.args.map.paging) = rest_counted _ _ _ c.stands_twice.result c.in-Sinclair128K.is c.stands_twice.ensures (elim c.if-stands_twice.branch [ then-stands_twice w ↦ w.rest-is ∙ sym (ap (λ (t : Bool). cond t 6 5) w.if-stands_twice.true) | else-stands_twice w ↦ w.rest-is ∙ sym (ap (λ (t : Bool). cond t 6 5) w.if-stands_twice.false) ]) in
    file_128 w _ c.put.ensures _ _ c.write_banks.ensures c.in-Sinclair128K.is _ _ n c.put-in-Sinclair128K.ensures _ (rw add-sub_cancel_left at c.write_banks-in-Sinclair128K.ensures)
