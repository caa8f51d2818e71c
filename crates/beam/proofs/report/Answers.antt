-- The four ways out are the four laws of proofs/Reporting.antt.
-- Assumes nothing.
use native.Mathlib.Omega.{arith}
use Rattle.beam.proofs.Reporting.{long_full, long_done, short_full, short_done}
use Rattle.beam.proofs.report.Goals as goal

pub returns-then-out-lt7 : goal.returns-then-out-lt7
returns-then-out-lt7 c =
    let w = long_full c.args.question c.args.input.now c.args.out.now (omega arith) (omega arith) in
    record { value = w.0; out_after = w.1 }

pub returns-then-input-gt65536 : goal.returns-then-input-gt65536
returns-then-input-gt65536 c =
    let w = long_done c.args.question c.args.input.now _ (omega arith) (omega arith) _ _ c.put-end.ensures in
    record { value = w.0; out_after = w.1 }

pub returns-then-out-room : goal.returns-then-out-room
returns-then-out-room c =
    let w = short_full c.args.question c.args.input.now c.args.out.now (omega arith) (omega arith) in
    record { value = w.0; out_after = w.1 }

pub returns : goal.returns
returns c =
    let w =
    short_done c.args.question c.args.input.now c.args.out.now (omega arith) (omega arith) _ _ _ _ (rw c.title.ensures at c.put-at.ensures)
    c.put_lines-end.ensures in
    record { value = w.0; out_after = w.1 }
