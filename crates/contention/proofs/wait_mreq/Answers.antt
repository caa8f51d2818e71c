use mathlib.Core.Path.{sym, ◌∙◌}
use native.Mathlib.Omega.{arith}
use Rattle.steps.specs.Turned.{turn_of}
use Rattle.bus.specs.Turns.{ran}
use Rattle.bus.proofs.Merge.{address_merge}
use Rattle.bus.proofs.PortSteps.{first_small}
use Rattle.contention.proofs.CodeReady.{ready_less}
use Rattle.contention.proofs.wait_mreq.Goals as goal

pub wait_internal-requires : goal.wait_internal-requires
wait_internal-requires c =
    let g = c.args in
    let few = first_small g.t.bus.machine g.t.bus.paging g.addr g.t.bus.clock in
    ready_less _ 1 _ 2 _ c.requires (omega arith) (omega arith)

pub returns : goal.returns
unfolding ran
returns c =
    let g = c.args in
    let t = turn_of g.t g.ram.now g.a.now g.b.now g.border.now in
    c.wait_internal.ensures
    ∙ rw c.delay_at-held.ensures (sym (address_merge t g.addr g.n c.requires.in_frame c.requires.in_place))
