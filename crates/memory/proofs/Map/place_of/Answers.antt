-- The page that `get_page` found, at the offset.
use Rattle.memory.specs.Memory.{place_of}
use Rattle.memory.proofs.Map.place_of.Goals as goal

pub returns-in-Rom : goal.returns-in-Rom
unfolding place_of
returns-in-Rom c = rw (← c.get_page.ensures, c.in-Rom.is, c.from.ensures, c.from-offset.ensures)

pub returns-in-Ram : goal.returns-in-Ram
unfolding place_of
returns-in-Ram c = rw (← c.get_page.ensures, c.in-Ram.is, c.from-in-Ram.ensures, c.from-offset.ensures)
