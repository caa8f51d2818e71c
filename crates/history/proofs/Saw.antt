-- What a frame without a change is, for Stills: every catch-up saw what one sees.
-- Assumes nothing.
use mathlib.Core.List.{List, [], ◌∷◌}
use mathlib.Core.Path.{◌≡◌}
use Rattle.history.specs.Log.{Sight}

-- every catch-up saw what this one sees
abbrev pub AllSaw : Sight → List Sight → Type 0
AllSaw g [] = Unit {0}
AllSaw g (s ∷ ss) = (s.ram ≡ g.ram) × (s.page ≡ g.page) × (s.flash ≡ g.flash) × AllSaw g ss
