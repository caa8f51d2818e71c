-- THE START'S COLOUR SHOWS UNTIL THE FIRST BORDER WRITE (02, Q-3), in every frame that was completed before it, and in its own up to it.
-- Assumes nothing.
use Prim.Native.Nat.{ℕ, zero, suc, ◌<◌}
use mathlib.Core.List.{List, [], ◌∷◌}
use mathlib.Core.Path.{◌≡◌, refl, ap, ◌∙◌}
use native.Mathlib.Omega.{arith}
use borrow.Author.Tests.{lt-leb}
use lib.ListN.{length, get_or, drop}
use Rattle.machine.specs.declared.ZXMachine.{ZXMachine}
use Rattle.machine.specs.Limits.{border_length}
use Rattle.bus.specs.World.{World}
use Rattle.contracts.specs.Timed.{lent_by}
use Rattle.contracts.specs.Calls.{Made, Obeyed, NoSecondStart}
use Rattle.contracts.proofs.Ranges.{AllTyped}
use Rattle.history.specs.Log.{Ink, Frame, last_colour, border_colour, Chained}
use Rattle.history.specs.Fresh.{Fresh}
use Rattle.history.specs.Demand.{history}
use Rattle.history.specs.First.{Unwritten, AllBehind}
use Rattle.history.proofs.Demand3.{demand3}
use Rattle.history.proofs.Sentences.{no_frame, no_shot, each_frame}

-- a pixel that no write of its frame has reached has the colour that the frame began with
unreached : (pixel enter : ℕ) (is : List Ink) → AllBehind pixel is → border_colour pixel enter is ≡ enter
unfolding border_colour
unreached pixel enter [] h = refl
unreached pixel enter (i ∷ is) h = rw (lt-leb i.at pixel h.0) (unreached pixel enter is h.1)

-- behind frames without a write a frame begins with the first colour
begins_first : (first : ℕ) (f : Frame) (fs : List Frame) → Chained first f fs → Unwritten fs → f.enter ≡ first
begins_first first f [] c u = c
begins_first first f (g ∷ gs) c u = c.0 ∙ ap (last_colour g.enter) u.0 ∙ begins_first first g gs c.1 u.1

-- so does each frame of a list that has none behind it
each_begins : (first : ℕ) (f : Frame) (fs : List Frame) → Chained first f fs → (i : ℕ) → i < length fs → Unwritten (drop (suc i) fs) → (get_or fs i no_frame).enter ≡ first
each_begins first f [] c i h u = absurd (omega arith)
each_begins first f (g ∷ gs) c zero h u = begins_first first g gs c.1 u
each_begins first f (g ∷ gs) c (suc i) h u = each_begins first g gs c.1 i (omega arith) u

module _ (m : ZXMachine) (w : World) (fresh : Fresh m w) (cs : List Made) (obeyed : Obeyed cs (lent_by m w)) (typed : AllTyped cs) (again : NoSecondStart cs) where
  -- Completed frame i, 0 the newest, where the frames before it had no border write: a pixel of its border that no write has reached has the first colour.
  pub first_colour_shows : (i : ℕ) → i < length (history m w cs).log.done → Unwritten (drop (suc i) (history m w cs).log.done)
      → (pixel : ℕ) → pixel < border_length → AllBehind pixel (get_or (history m w cs).log.done i no_frame).inks
      → get_or (get_or (history m w cs).shots i no_shot).border pixel 0 ≡ w.edge.colour
  first_colour_shows i h u pixel p behind =
      let f = get_or (history m w cs).log.done i no_frame in
      (each_frame m w fresh cs obeyed typed again i h).border pixel p
      ∙ unreached pixel f.enter f.inks behind
      ∙ each_begins w.edge.colour (history m w cs).log.current (history m w cs).log.done (demand3 m w fresh cs obeyed typed again).colours i h u
