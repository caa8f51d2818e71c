use Rattle.calls.proofs.CodePorts.{repaged_by}
use mathlib.Core.Path.{◌∙◌, ap}
use Rattle.memory.specs.Paging.{paged_code}
use Rattle.calls.proofs.write_7ffd.Goals as goal

pub returns : goal.returns
returns c =
    let taken = rw c.from.ensures at c.write_7ffd-taken.ensures in
    let g = c.args in (
      λ ram a b border. rw (← taken, c.paging_after-paging.ensures) (repaged_by g.t _ ram a b border),
      c.code.ensures ∙ ap paged_code taken,
    )
