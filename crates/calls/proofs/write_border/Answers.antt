use mathlib.Core.Path.{◌∙◌}
use native.Mathlib.Omega.{arith}
use Rattle.bus.proofs.PortSteps.{first_small, last_small}
use Rattle.contention.proofs.CodeReady.{ready_call, ready_inked}
use Rattle.steps.specs.Turned.{turn_of}
use Rattle.calls.proofs.write_border.Goals as goal

pub stepped-requires : goal.stepped-requires
stepped-requires c =
    let g = c.args in
    let t = turn_of g.t g.ram.now g.a.now g.b.now g.border.now in
    rw (c.set_border_color-inked.ensures g.ram.now g.a.now g.b.now)
    (ready_call _ _ (ready_inked t 2 28 _ g.color c.requires) (grind (arith, first_small, last_small)))

pub returns : goal.returns
returns c =
    let g = c.args in
    c.stepped.ensures
    ∙ rw (c.set_border_color-inked.ensures g.ram.now g.a.now g.b.now, c.last_clocks-last.ensures, c.first_clocks-first.ensures)
