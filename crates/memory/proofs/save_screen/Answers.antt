-- The front of the page is copied over the whole file: `save_is`.
use Rattle.memory.proofs.Screens.{save_is}
use Rattle.memory.proofs.save_screen.Goals as goal

pub returns : goal.returns
returns c =
    let s = c in
    save_is s.args.page s.args.ram.now s.requires.1 s.args.file.now _ s.requires.0 (rw c.from-from.ensures at c.copy.ensures)
