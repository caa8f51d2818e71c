use Prim.Native.Nat.{◌%◌}
use mathlib.Core.Path.{refl, sym, ◌∙◌}
use Rattle.bus.specs.Calls.{acted_on, write_code}
use Rattle.bus.proofs.PortSteps.{quiet_step, border_step}
use Rattle.ports.specs.Hearers.{hearers_of}
use Rattle.calls.proofs.CodePorts.{Quiet, quiet_ops, quiet_same, paging_alone, first_paging}
use Rattle.steps.specs.Turned.{turn_of}
use Rattle.calls.proofs.write_io.Goals as goal

pub returns-in-Border : goal.returns-in-Border
unfolding write_code
returns-in-Border c =
    let g = c.args in
    let t = turn_of g.t g.ram.now g.a.now g.b.now g.border.now in
    rw (← c.write_port.ensures, c.in-Border.is)
    (c.write_border-turn.ensures ∙ sym (border_step t c.requires.in_frame c.requires.in_place g.port (g.value % 8)), refl)

pub returns-in-Paging : goal.returns-in-Paging
unfolding write_code
returns-in-Paging c =
    let g = c.args in
    let t = turn_of g.t g.ram.now g.a.now g.b.now g.border.now in
    rw (← c.write_port.ensures, c.in-Paging.is)
    (c.write_paging.ensures.0 ∙ paging_alone t g.port g.value, c.write_paging.ensures.1 ∙ rw (first_paging t g.port g.value c.requires))

pub returns-in_default : goal.returns-in_default
unfolding write_code
returns-in_default c =
    let g = c.args in
    let t = turn_of g.t g.ram.now g.a.now g.b.now g.border.now in
    let m = g.t.bus.machine in
    let w = c.write_port.result in
    let q : Quiet w = (c.in_default.not-Border, c.in_default.not-Paging) in
    rw (← c.write_port.ensures) (
      c.write_quietly-turn.ensures
          ∙ sym (quiet_step t c.requires.in_frame c.requires.in_place g.port (acted_on m (hearers_of w) g.value) (quiet_ops w q m g.value)),
      c.written_code.ensures ∙ quiet_same w q _,
    )
