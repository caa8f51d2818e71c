-- A FRAME WITHOUT A CHANGE IS ITS STILL PICTURE: where every catch-up of a completed frame saw the same bytes, page and flash, however many they were,
-- the picture shown is the one that `ulb_still_picture` paints of a record and RAM that hold these.
-- Assumes nothing.
use Prim.Native.Nat.{ℕ, ◌+◌, ◌-◌}
use mathlib.Core.List.{List, [], ◌∷◌}
use mathlib.Core.Path.{◌≡◌, refl, ap, ◌∙◌}
use native.Mathlib.Omega.{arith}
use Rattle.machine.specs.declared.ZXMachine.{ZXMachine}
use Rattle.memory.specs.Memory.{ram_page}
use Rattle.paint.specs.Paint.{blocks}
use Rattle.paint.proofs.Painting.{blocks_add}
use Rattle.bus.specs.World.{World, bus_of}
use Rattle.bus.specs.Time.{Look, flash_on}
use Rattle.contracts.specs.Plain.{still_of}
use Rattle.history.specs.Log.{Sight, sight_at, Frame, last_at, drawn, Shot, Rising, Shows}
use Rattle.history.proofs.Saw.{AllSaw}
use Rattle.history.proofs.Seen.{seen_is_painted}

module _ (g : Sight) where
  abbrev seen : ℕ → ℕ → List ℕ
  seen from n = blocks (ram_page g.page g.ram) g.flash from n

  -- then what they draw, one behind the other, is what one would
  drawn_alike : (ss : List Sight) → Rising ss → AllSaw g ss → drawn ss ≡ seen 0 (last_at ss)
  unfolding drawn blocks
  drawn_alike [] r h = refl
  drawn_alike (s ∷ ss) r h =
      let from : 0 + last_at ss ≡ last_at ss = omega arith in
      let to : last_at ss + (s.at - last_at ss) ≡ s.at = omega (arith, r.0) in
      rw (h.0, h.1, h.2, drawn_alike ss r.1 h.3) (rw (from, to) at (blocks_add (ram_page g.page g.ram) g.flash 0 (last_at ss) (s.at - last_at ss)))

-- THE PICTURE OF SUCH A FRAME, where the machine w holds what its catch-ups saw, at whatever clock.
pub unchanged_frame : (m : ZXMachine) (w : World) (clock : ℕ) (shot : Shot) (f : Frame) → Shows shot f → AllSaw (sight_at m clock w.core) f.sights
    → shot.picture ≡ still_of (bus_of m w) w.core.ram (flash_on w.core.phase)
unchanged_frame m w clock shot f s h =
    s.picture ∙ drawn_alike (sight_at m clock w.core) f.sights s.rising h
    ∙ ap (seen (sight_at m clock w.core) 0) s.whole
    ∙ ap (λ (l : Look). blocks (ram_page l.page l.ram) l.flash 0 6144) (seen_is_painted m clock w.core)
