use mathlib.Core.Path.{◌∙◌}
use native.Mathlib.Omega.{arith}
use Rattle.bus.proofs.PortSteps.{last_small}
use Rattle.contention.proofs.CodeReady.{frame_small, ready_less}
use Rattle.steps.specs.Turned.{turn_of}
use Rattle.calls.proofs.CodePorts.{acted_ready, paging_turn, paging_code}
use Rattle.calls.proofs.write_paging.Goals as goal

pub last_clocks-last-requires : goal.last_clocks-last-requires
last_clocks-last-requires c =
    let g = c.args in
    let t = turn_of g.t g.ram.now g.a.now g.b.now g.border.now in
    let r = acted_ready t _ g.port g.value _ c.requires c.first_clocks-first.ensures c.stepped-before.ensures _ (c.write_7ffd-acted.ensures.0 g.ram.now _ _ _) in
    omega (arith, r.in_frame, frame_small c.write_7ffd-acted.result.turn.bus.machine)

pub stepped-turn-requires : goal.stepped-turn-requires
stepped-turn-requires c =
    let g = c.args in
    let t = turn_of g.t g.ram.now g.a.now g.b.now g.border.now in
    let r = acted_ready t _ g.port g.value _ c.requires c.first_clocks-first.ensures c.stepped-before.ensures _ (c.write_7ffd-acted.ensures.0 g.ram.now _ _ _) in
    ready_less _ 1 _ 1 21 r (omega arith) (grind (arith, last_small))

pub returns : goal.returns
returns c =
    let g = c.args in
    let t = turn_of g.t g.ram.now g.a.now g.b.now g.border.now in (
      paging_turn t _ g.port g.value _ c.requires c.first_clocks-first.ensures c.stepped-before.ensures _ (c.write_7ffd-acted.ensures.0 g.ram.now _ _ _) _ c.last_clocks-last.ensures _ c.stepped-turn.ensures,
      c.write_7ffd-acted.ensures.1 ∙ paging_code t _ g.port g.value _ c.requires c.first_clocks-first.ensures c.stepped-before.ensures,
    )
