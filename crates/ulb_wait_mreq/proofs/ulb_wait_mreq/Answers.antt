-- Refused: only the answer is written. Accepted: the record is sound and has room, so the bus can run the call; it ends with the record and the
-- answer of the turn that it reached.
-- Assumes nothing.
use native.Mathlib.Omega.{arith}
use Prim.Native.Nat.{◌+◌}
use Rattle.judgement.proofs.Accepted.{ready_wait, accepted_bytes}
use Rattle.timed.proofs.Moved.{address_step, step_bytes}
use mathlib.Core.Path.{refl, sym, ◌∙◌}
use Rattle.contracts.specs.Timed.{lent, wait_at}
use Rattle.timed.proofs.Timing.{ready_at, timed_refused, timed_accepted}
use Rattle.ulb_wait_mreq.proofs.ulb_wait_mreq.Goals as goal

pub wait_mreq-turn-requires : goal.wait_mreq-turn-requires
wait_mreq-turn-requires c =
    let g = c.args in
    ready_at _ c.begun-begun.result g.ram.now g.a.now g.b.now g.border.now (c.begun-begun.ensures _ _ _ _) _ _ _
    (ready_wait g.state.now _ _ _ _ _ _ _ (sym c.judge_wait.ensures ∙ c.in-Ok.is))

pub finish_step-requires : goal.finish_step-requires
finish_step-requires c =
    let g = c.args in
    let r = ready_wait g.state.now _ _ _ _ _ _ _ (sym c.judge_wait.ensures ∙ c.in-Ok.is) in
    let bytes = accepted_bytes g.state.now _ (λ k. omega (arith, c.slice_known-1.given k)) r.on_record in (
      r.on_record.long,
      r.fit.answer_is,
      step_bytes _ c.begun-begun.result _ _ g.state.now g.ram.now g.a.now g.b.now g.border.now _ _ _ (c.begun-begun.ensures _ _ _ _) (address_step _ _ g.addr g.clocks 2 (g.clocks + 6) (ready_at _ c.begun-begun.result g.ram.now g.a.now g.b.now g.border.now (c.begun-begun.ensures _ _ _ _) _ _ _ r) c.wait_mreq-turn.ensures) bytes,
    )

pub returns-in-Err : goal.returns-in-Err
unfolding wait_at
returns-in-Err c =
    let g = c.args in
    timed_refused _ _ c.judge_wait.ensures _ _ (lent g.state.now g.ram.now g.a.now g.b.now g.border.now) g.answer.now _ _ _ c.in-Err.is c.refuse.ensures

pub returns-in-Ok : goal.returns-in-Ok
unfolding wait_at
returns-in-Ok c =
    let g = c.args in
    timed_accepted _ _ c.judge_wait.ensures _ _ (lent g.state.now g.ram.now g.a.now g.b.now g.border.now) g.answer.now _ _ _ _ 0 _ _ _ _ _ c.in-Ok.is (c.begun-begun.ensures _ _ _ _) c.wait_mreq-turn.ensures refl c.finish_step.ensures
