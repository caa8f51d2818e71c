-- No operation changes how long RAM, a picture or the border is: what is handed back has the length that was lent.
-- Assumes nothing.
use mathlib.Core.Path.{◌≡◌, refl, sym, ◌∙◌, subst}
use mathlib.Core.Bool.{Bool, true, false}
use mathlib.Core.List.{List, [], ◌∷◌}
use Prim.Native.Nat.{ℕ, ◌+◌, ◌-◌, ◌*◌}
use lib.ListN.{length, length-replicate}
use lib.Seq.{length-sets}
use Rattle.laws.proofs.Cases.{by_bool}
use Rattle.machine.specs.declared.ZXMachine.{ZXMachine}
use Rattle.machine.specs.declared.BorderPixel.{BorderPixel}
use Rattle.std.specs.Prelude.{Option, Some, None}
use Rattle.machine.specs.Numbers.{specs_of}
use Rattle.machine.specs.Limits.{picture_length, border_length}
use Rattle.machine.specs.Timing.{border_at}
use Rattle.record.specs.declared.Bus.{Bus}
use Rattle.record.specs.Record.{start_record}
use Rattle.paint.proofs.Painting.{length_paint}
use Rattle.border.specs.Edge.{Edge, inked, inked_at, finished}
use Rattle.border.proofs.Fills.{length_filled}
use Rattle.memory.specs.Memory.{ram_page}
use Rattle.bus.specs.World.{Core, Screen, World, clear_ram, clear_picture, clear_border, beginning, started, Sized}
use Rattle.bus.specs.Time.{Look, Silent, store, paged, unpass, lasts, Op, step, colour, silent, ram_left, closes, look_at, shows_a, paint_from, caught_up, in_core, in_screen, in_edge, does, world_after}
use Rattle.bus.specs.Turns.{fresh, Part, ran_by}
use Rattle.bus.proofs.Runs.{ran_world}

-- the lent memory of two worlds has the same lengths
pub record SameLengths (w w' : World) : Type 0 where
  pub ram : length w'.core.ram ≡ length w.core.ram
  pub a : length w'.screen.a ≡ length w.screen.a
  pub b : length w'.screen.b ≡ length w.screen.b
  pub pixels : length w'.edge.pixels ≡ length w.edge.pixels

ram_length : (o : Silent) (ram : List ℕ) → length (ram_left o ram) ≡ length ram
ram_length (store at bytes) ram = length-sets ram at bytes
ram_length (paged v) ram = refl
ram_length unpass ram = refl

painted_length : (l : Look) (from : ℕ) (picture : List ℕ) → length (paint_from l from picture) ≡ length picture
painted_length l from picture = length_paint (ram_page l.page l.ram) l.flash from (l.at - from) picture

-- either picture, painted or left alone
pictures : (l : Look) (t : Bool) (s : Screen)
    → (length (caught_up l t s).a ≡ length s.a) × (length (caught_up l t s).b ≡ length s.b)
unfolding caught_up
pictures l true s = (refl, painted_length l s.painted s.b)
pictures l false s = (painted_length l s.painted s.a, refl)

finished_length : (e : Edge) → length (finished e).pixels ≡ length e.pixels
unfolding finished
finished_length e =
    by_bool (λ (l : List ℕ). length l ≡ length e.pixels) e.blocked (λ f. refl) (λ f. length_filled (2 * e.pairs) 76800 e.colour e.pixels)

written_length : (place : Option BorderPixel) (k : ℕ) (e : Edge) → length (inked_at place k e).pixels ≡ length e.pixels
unfolding inked_at
written_length (Some p) k e = length_filled (2 * e.pairs) (320 * p.line + p.pixel) e.colour e.pixels
written_length None k e = length_filled (2 * e.pairs) 76800 e.colour e.pixels

inked_length : (place : Option BorderPixel) (k : ℕ) (e : Edge) → length (inked place k e).pixels ≡ length e.pixels
unfolding inked
inked_length place k e =
    by_bool (λ (x : Edge). length x.pixels ≡ length e.pixels) e.blocked (λ f. refl) (λ f. written_length place k e)

module _ (m : ZXMachine) where
  -- EVERY OPERATION KEEPS THE LENGTHS.
  pub lengths_kept : (o : Op) (w : World) → SameLengths w (does m o w)
  unfolding in_core in_screen in_edge
  lengths_kept (step h n) w =
      let t = closes m (lasts h n) w.core in
      let l = look_at m (w.core.clock + lasts h n) w.core in
      let p = pictures l (shows_a w.core.phase) w.screen in
      record {
        ram = by_bool (λ (c : Core). length c.ram ≡ length w.core.ram) t (λ e. refl) (λ e. refl);
        a = by_bool (λ (s : Screen). length s.a ≡ length w.screen.a) t (λ e. p.0) (λ e. p.0);
        b = by_bool (λ (s : Screen). length s.b ≡ length w.screen.b) t (λ e. p.1) (λ e. p.1);
        pixels = by_bool (λ (x : Edge). length x.pixels ≡ length w.edge.pixels) t (λ e. finished_length w.edge) (λ e. refl);
      }
  lengths_kept (colour k) w =
      record { ram = refl; a = refl; b = refl; pixels = inked_length (border_at (specs_of m) w.core.clock) k w.edge }
  lengths_kept (silent o) w = record { ram = ram_length o w.core.ram; a = refl; b = refl; pixels = refl }

  pub run_lengths : (os : List Op) (w : World) → SameLengths w (world_after m os w)
  unfolding world_after
  run_lengths [] w = record { ram = refl; a = refl; b = refl; pixels = refl }
  run_lengths (o ∷ os) w =
      let x = lengths_kept o w in
      let y = run_lengths os (does m o w) in
      record { ram = y.ram ∙ x.ram; a = y.a ∙ x.a; b = y.b ∙ x.b; pixels = y.pixels ∙ x.pixels }

  -- EVERY CALL KEEPS THE LENGTHS.
  pub call_lengths : (f : Part) (w : World) → SameLengths w (ran_by f (fresh m w)).world
  call_lengths f w = subst (SameLengths w) (sym (ran_world (f w.core) (fresh m w))) (run_lengths (f w.core) w)

-- Cleared pictures and border have the lengths that document 01 states, and so has a start's RAM.
pub beginning_sized : (m : ZXMachine) (bus : Bus) (ram : List ℕ) → length ram ≡ (specs_of m).ram → Sized m (beginning bus ram)
unfolding clear_picture clear_border
beginning_sized m bus ram long =
    record {
      ram = long;
      a = length-replicate {A = ℕ} picture_length 0;
      b = length-replicate {A = ℕ} picture_length 0;
      pixels = length-replicate {A = ℕ} border_length 0;
    }

pub started_sized : (m : ZXMachine) (first : ℕ) → Sized m (started m first)
unfolding clear_ram
started_sized m first = beginning_sized m (start_record m first) (clear_ram m) (length-replicate {A = ℕ} (specs_of m).ram 0)
