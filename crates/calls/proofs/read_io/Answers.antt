use mathlib.Core.Path.{sym, ◌∙◌}
use Rattle.bus.specs.Turns.{ran}
use Rattle.bus.proofs.PortSteps.{read_step, read_value_lem}
use Rattle.steps.specs.Turned.{turn_of}
use Rattle.calls.proofs.read_io.Goals as goal

pub returns : goal.returns
unfolding ran
returns c =
    let g = c.args in
    let t = turn_of g.t g.ram.now g.a.now g.b.now g.border.now in
    let r = c.requires in (
      c.wait_internal-turn.ensures ∙ rw c.part_clocks-n.ensures (sym (read_step t r.in_frame r.in_place g.port)),
      c.read_value-value.ensures
          ∙ rw (c.read_port.ensures, c.part_clocks-n.ensures) (sym (read_value_lem t r.in_frame r.in_place g.devices g.port)),
    )
