-- Refused: nothing is written. Accepted: the lengths were judged; RAM and registers are the file's, pictures and border zeros, and the record is the judged one's.
-- Assumes nothing.
use Rattle.contracts.specs.Timed.{lent}
use Rattle.ulb_sna.proofs.Opened.{import_refused, import_lengths, import_accepted}
use Rattle.ulb_sna.proofs.ulb_load_sna.Goals as goal

pub invariant_of-snapshot : goal.invariant_of-snapshot
invariant_of-snapshot c = let n = import_lengths (lent c.args.state.now c.args.ram.now c.args.a.now c.args.b.now c.args.border.now) c.args.file.now c.args.registers.now c.args.machine _ c.judge_load_sna.ensures _ c.in-Ok.is in record { sized = n.file_is }

pub read_ram-requires : goal.read_ram-requires
read_ram-requires c = let n = import_lengths (lent c.args.state.now c.args.ram.now c.args.a.now c.args.b.now c.args.border.now) c.args.file.now c.args.registers.now c.args.machine _ c.judge_load_sna.ensures _ c.in-Ok.is in n.ram_is

pub read_registers-requires : goal.read_registers-requires
read_registers-requires c = let n = import_lengths (lent c.args.state.now c.args.ram.now c.args.a.now c.args.b.now c.args.border.now) c.args.file.now c.args.registers.now c.args.machine _ c.judge_load_sna.ensures _ c.in-Ok.is in n.registers_is

pub encode-requires : goal.encode-requires
encode-requires c = let n = import_lengths (lent c.args.state.now c.args.ram.now c.args.a.now c.args.b.now c.args.border.now) c.args.file.now c.args.registers.now c.args.machine _ c.judge_load_sna.ensures _ c.in-Ok.is in n.state_is

pub returns-in-Err : goal.returns-in-Err
returns-in-Err c = import_refused (lent c.args.state.now c.args.ram.now c.args.a.now c.args.b.now c.args.border.now) c.args.file.now c.args.registers.now c.args.machine _ c.judge_load_sna.ensures _ _ c.in-Err.is c.from.ensures

pub returns-in-Ok : goal.returns-in-Ok
returns-in-Ok c = import_accepted (lent c.args.state.now c.args.ram.now c.args.a.now c.args.b.now c.args.border.now) c.args.file.now c.args.registers.now c.args.machine _ c.judge_load_sna.ensures _ c.in-Ok.is _ _ _ _ _ _ c.encode.ensures c.read_ram.ensures c.read_registers.ensures (c.fill.ensures.after (λ y h. h)) (c.fill-in-Ok.ensures.after (λ y h. h)) (c.fill-in-Ok-2.ensures.after (λ y h. h))
