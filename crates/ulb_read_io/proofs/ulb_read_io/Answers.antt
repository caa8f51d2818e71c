-- Refused: only the answer is written. Accepted: the record is sound and has room, so the bus can run the call; it ends with the record and the
-- answer of the turn that it reached.
-- Assumes nothing.
use native.Mathlib.Omega.{arith}
use Rattle.judgement.proofs.Accepted.{ready_port, accepted_bytes}
use Rattle.timed.proofs.Moved.{port_step, step_bytes}
use mathlib.Core.Path.{sym, ap, ◌∙◌}
use Rattle.ports.specs.Devices.{devices_of}
use Rattle.contracts.specs.Timed.{lent, read_io}
use Rattle.timed.proofs.Timing.{ready_io, timed_refused, timed_accepted}
use Rattle.ulb_read_io.proofs.ulb_read_io.Goals as goal

pub unwrap-requires : goal.unwrap-requires
unwrap-requires c =
    let g = c.args in
    c.try_into.ensures.0 (ready_port g.state.now _ g.devices.now _ _ _ _ _ (sym c.judge_port.ensures ∙ c.in-Ok.is)).devices_is

pub read_io-read-requires : goal.read_io-read-requires
read_io-read-requires c =
    let g = c.args in
    ready_io _ c.begun-begun.result g.ram.now g.a.now g.b.now g.border.now (c.begun-begun.ensures _ _ _ _) _ _ _
    (ready_port g.state.now _ g.devices.now _ _ _ _ _ (sym c.judge_port.ensures ∙ c.in-Ok.is))

pub finish_step-requires : goal.finish_step-requires
finish_step-requires c =
    let g = c.args in
    let r = ready_port g.state.now _ g.devices.now _ _ _ _ _ (sym c.judge_port.ensures ∙ c.in-Ok.is) in
    let bytes = accepted_bytes g.state.now _ (λ k. omega (arith, c.slice_known-1.given k)) r.on_record in (
      r.on_record.long,
      r.fit.answer_is,
      step_bytes _ c.begun-begun.result _ _ g.state.now g.ram.now g.a.now g.b.now g.border.now _ _ _ (c.begun-begun.ensures _ _ _ _) (port_step _ _ g.port 2 28 (ready_io _ c.begun-begun.result g.ram.now g.a.now g.b.now g.border.now (c.begun-begun.ensures _ _ _ _) _ _ _ r) c.read_io-read.ensures.0) bytes,
    )

pub returns-in-Err : goal.returns-in-Err
unfolding read_io
returns-in-Err c =
    let g = c.args in
    timed_refused _ _ c.judge_port.ensures _ _ (lent g.state.now g.ram.now g.a.now g.b.now g.border.now) g.answer.now _ _ _ c.in-Err.is c.refuse.ensures

pub returns-in-Ok : goal.returns-in-Ok
unfolding read_io
returns-in-Ok c =
    let g = c.args in
    let chunk = rw c.unwrap.ensures at c.try_into.ensures.1 in
    let e = c.devices_from-devices.ensures ∙ ap devices_of chunk.same in
    let io = c.read_io-read.ensures in
    timed_accepted _ _ c.judge_port.ensures _ _ (lent g.state.now g.ram.now g.a.now g.b.now g.border.now) g.answer.now _ _ _ _ _ _ _ _ _ _ c.in-Ok.is (c.begun-begun.ensures _ _ _ _) io.0 (rw e at io.1) c.finish_step.ensures
