-- The place that `place_of` found lies inside ROM or RAM: `rom_within`, `ram_within`.
use native.Mathlib.Omega.{arith}
use mathlib.Core.Path.{sym, ◌∙◌}
use Rattle.memory.proofs.Places.{rom_within, ram_within}
use Rattle.memory.proofs.Map.read.Goals as goal

pub bounds-rom-at : goal.bounds-rom-at
bounds-rom-at c = let m = c.args.self in omega (arith, rom_within m.machine m.paging c.args.addr _ (sym c.place_of.ensures ∙ c.in-Rom.is))

pub bounds-ram-at : goal.bounds-ram-at
bounds-ram-at c = let m = c.args.self in omega (arith, ram_within m.machine m.paging c.args.addr _ (sym c.place_of.ensures ∙ c.in-Ram.is))
