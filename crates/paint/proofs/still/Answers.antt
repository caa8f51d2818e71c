-- A whole painting is the page's blocks, whatever the picture held.
-- Assumes nothing.
use mathlib.Core.Path.{◌≡◌, ◌∙◌}
use Rattle.paint.proofs.Painting.{paint_whole}
use Rattle.paint.proofs.still.Goals as goal

pub returns : goal.returns
returns c =
    let page : c.unwrap.result.now ≡ c.args.page.now = (rw c.unwrap.ensures at c.try_into.ensures.1).same in
    rw page at c.paint_blocks.ensures.1 ∙ paint_whole c.args.page.now c.args.flash c.args.picture.now c.requires.1
