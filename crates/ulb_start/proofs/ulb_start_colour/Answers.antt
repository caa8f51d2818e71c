-- Refused: nothing is written. Accepted: each slice is zeros as many as the start asks for, and the record is the judged one's.
-- Assumes nothing.
use mathlib.Core.Path.{sym, ◌∙◌}
use Rattle.judgement.proofs.Accepted.{ready_start}
use Rattle.contracts.specs.Timed.{lent}
use Rattle.ulb_start.proofs.Begun.{start_refused, start_accepted}
use Rattle.ulb_start.proofs.ulb_start_colour.Goals as goal

pub encode-requires : goal.encode-requires
encode-requires c =
    (ready_start _ _ _ _ _ _ _ _ (sym c.judge_start.ensures ∙ c.in-Ok.is)).fit.state_is

pub returns-in-Err : goal.returns-in-Err
returns-in-Err c =
    let g = c.args in
    start_refused (lent g.state.now g.ram.now g.a.now g.b.now g.border.now) _ _ _ c.judge_start.ensures _ _ c.in-Err.is c.from.ensures

pub returns-in-Ok : goal.returns-in-Ok
returns-in-Ok c =
    let g = c.args in
    start_accepted (lent g.state.now g.ram.now g.a.now g.b.now g.border.now) _ _ _ c.judge_start.ensures _ _ _ _ _ _ c.in-Ok.is
    c.encode.ensures
    (c.fill.ensures.after (λ y h. h))
    (c.fill-in-Ok.ensures.after (λ y h. h))
    (c.fill-in-Ok-2.ensures.after (λ y h. h)) (c.fill-in-Ok-3.ensures.after (λ y h. h))
