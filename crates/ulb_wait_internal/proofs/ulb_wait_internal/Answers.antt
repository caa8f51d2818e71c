-- Refused: only the answer is written. Accepted: the record is sound and has room, so the bus can run the call; it ends with the record and the
-- answer of the turn that it reached.
-- Assumes nothing.
use native.Mathlib.Omega.{arith}
use Rattle.judgement.proofs.Accepted.{ready_wait, accepted_bytes}
use Rattle.timed.proofs.Moved.{plain_step, step_bytes}
use mathlib.Core.Path.{refl, sym, ◌∙◌}
use Rattle.contracts.specs.Timed.{lent, wait_internal}
use Rattle.timed.proofs.Timing.{ready_plain, timed_refused, timed_accepted}
use Rattle.ulb_wait_internal.proofs.ulb_wait_internal.Goals as goal

pub wait_internal-turn-requires : goal.wait_internal-turn-requires
wait_internal-turn-requires c =
    let g = c.args in
    ready_plain _ c.begun-begun.result g.ram.now g.a.now g.b.now g.border.now (c.begun-begun.ensures _ _ _ _) _ _ _
    (ready_wait g.state.now _ _ _ _ _ _ _ (sym c.judge_wait.ensures ∙ c.in-Ok.is))

pub finish_step-requires : goal.finish_step-requires
finish_step-requires c =
    let g = c.args in
    let r = ready_wait g.state.now _ _ _ _ _ _ _ (sym c.judge_wait.ensures ∙ c.in-Ok.is) in
    let bytes = accepted_bytes g.state.now _ (λ k. omega (arith, c.slice_known-1.given k)) r.on_record in (
      r.on_record.long,
      r.fit.answer_is,
      step_bytes _ c.begun-begun.result _ _ g.state.now g.ram.now g.a.now g.b.now g.border.now _ _ _ (c.begun-begun.ensures _ _ _ _) (plain_step _ _ g.clocks c.wait_internal-turn.ensures) bytes,
    )

pub returns-in-Err : goal.returns-in-Err
unfolding wait_internal
returns-in-Err c =
    let g = c.args in
    timed_refused _ _ c.judge_wait.ensures _ _ (lent g.state.now g.ram.now g.a.now g.b.now g.border.now) g.answer.now _ _ _ c.in-Err.is c.refuse.ensures

pub returns-in-Ok : goal.returns-in-Ok
unfolding wait_internal
returns-in-Ok c =
    let g = c.args in
    timed_accepted _ _ c.judge_wait.ensures _ _ (lent g.state.now g.ram.now g.a.now g.b.now g.border.now) g.answer.now _ _ _ _ 0 _ _ _ _ _ c.in-Ok.is (c.begun-begun.ensures _ _ _ _) c.wait_internal-turn.ensures refl c.finish_step.ensures
