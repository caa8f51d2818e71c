-- Where the start's colour shows (02, Q-3): until the first border write.
-- Assumes nothing.
use Rattle.std.specs.Prelude.{ℕ, ◌<◌, ◌≡◌, List, [], ◌∷◌}
use Rattle.history.specs.Log.{Ink, Frame}

-- frames in which nothing was written to the border
abbrev pub Unwritten : List Frame → Type 0
Unwritten [] = Unit {0}
Unwritten (f ∷ fs) = (f.inks ≡ []) × Unwritten fs

-- border writes that come, all of them, behind a pixel
abbrev pub AllBehind : ℕ → List Ink → Type 0
AllBehind pixel [] = Unit {0}
AllBehind pixel (i ∷ is) = (pixel < i.at) × AllBehind pixel is
