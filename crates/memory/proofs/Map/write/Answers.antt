-- The place that `place_of` found lies inside RAM: `ram_within`.
use native.Mathlib.Omega.{arith}
use mathlib.Core.Path.{sym, ◌∙◌}
use Rattle.memory.proofs.Places.{ram_within}
use Rattle.memory.proofs.Map.write.Goals as goal

pub bounds-ram-at : goal.bounds-ram-at
bounds-ram-at c = let m = c.args.self in omega (arith, ram_within m.machine m.paging c.args.addr _ (sym c.place_of.ensures ∙ c.in-Ram.is))
