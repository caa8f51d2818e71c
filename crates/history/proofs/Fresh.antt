-- Any fresh world may begin a history, and a start leaves one, an import too.
-- Assumes nothing.
use Prim.Native.Nat.{ℕ, ◌*◌, ◌<◌}
use mathlib.Core.Bool.{Bool, true, false, cond}
use mathlib.Core.List.{List, []}
use mathlib.Core.Path.{◌≡◌, refl, sym, ◌∙◌, ap}
use native.Mathlib.Omega.{arith}
use lib.ListN.{length, get_or, drop, length-replicate, get_or-replicate}
use Rattle.machine.specs.declared.ZXMachine.{ZXMachine}
use Rattle.machine.specs.Numbers.{specs_of}
use Rattle.record.specs.Record.{machine_of, fresh_record}
use Rattle.record.specs.Sound.{Sound}
use Rattle.snapshot.specs.File.{paging_in, border_in, ram_in}
use Rattle.bus.specs.World.{World, clear_ram, clear_picture, clear_border, beginning, started, Sized}
use Rattle.bus.specs.Time.{shows_a}
use Rattle.bus.proofs.Kept.{started_sound}
use Rattle.bus.proofs.Lengths.{started_sized}
use Rattle.contracts.specs.Timed.{Lent, black}
use Rattle.contracts.specs.Calls.{Start, plain_start, colour_start, snapshot_start, asked_machine, started_world, started_by, start_again}
use Rattle.contracts.proofs.Ranges.{Typed}
use Rattle.contracts.proofs.Starts.{first_small, begun_sound, begun_sized}
use Rattle.history.specs.Log.{blank, drawn}
use Rattle.history.specs.Fresh.{Fresh}
use Rattle.history.specs.Demand.{painted_to}
use Rattle.history.proofs.Operations.{Inv}

-- what is cleared, by its length and its pixels
pub picture_size : length clear_picture ≡ 49152
unfolding clear_picture
picture_size = length-replicate {A = ℕ} 49152 0

pub border_size : length clear_border ≡ 76800
unfolding clear_border
border_size = length-replicate {A = ℕ} 76800 0

border_clear : (i : ℕ) → i < 76800 → get_or clear_border i 0 ≡ 0
unfolding clear_border
border_clear i h = get_or-replicate 76800 i 0 0 h

-- A HISTORY MAY BEGIN with any fresh world, and the colour that its beam has is the first.
module _ (m : ZXMachine) (w : World) (f : Fresh m w) where
  -- both pictures are clear, so either may be shown
  clear_either : (t : Bool) → cond t w.screen.a w.screen.b ≡ clear_picture
  clear_either true = f.a
  clear_either false = f.b

  clear_other : (t : Bool) → cond t w.screen.b w.screen.a ≡ clear_picture
  clear_other true = f.b
  clear_other false = f.a

  pub fresh_sized : Sized m w
  fresh_sized = record { ram = f.ram; a = ap length f.a ∙ picture_size; b = ap length f.b ∙ picture_size; pixels = ap length f.pixels ∙ border_size }

  pub fresh_kept : Inv m w.edge.colour 0 0 0 w (blank w.edge.colour) []
  unfolding drawn
  fresh_kept =
      record {
        time = record { frames = refl; inside = f.sound.clock; sum = omega (arith, f.clock) };
        pictures = record {
          at_last = f.painted;
          so_far = f.sound.painted;
          sum = omega (arith, f.painted);
          rising = tt;
          size = omega (arith, f.painted);
          hidden_is = clear_other (shows_a w.core.phase) ∙ sym (ap (λ (n : ℕ). drop (8 * n) clear_picture) f.painted);
          shown_is = clear_either (shows_a w.core.phase);
          newest_size = picture_size;
          older_size = picture_size;
        };
        border = record {
          size = ap length f.pixels ∙ border_size;
          colour_is = refl;
          end_if = f.sound.at_end;
          behind = f.sound.pairs;
          top = omega arith;
          filled_is = λ i h. absurd (nothing_painted i h);
          rest = λ i h g. ap (λ (xs : List ℕ). get_or xs i 0) f.pixels ∙ border_clear i g;
        };
        frames = tt;
        colours = refl;
      }
    where
      nothing_painted : (i : ℕ) → i < painted_to w.edge → ⊥
      nothing_painted i = rw (f.unblocked, f.pairs) (λ h. omega arith)

-- A world that begins with a fresh record and any RAM of its length is fresh: a start's, and an import's
beginning_fresh : (m : ZXMachine) (paging reported colour : ℕ) (ram : List ℕ) → Sound (fresh_record m paging reported colour) → length ram ≡ (specs_of m).ram
    → Fresh m (beginning (fresh_record m paging reported colour) ram)
beginning_fresh m paging reported colour ram sound long =
    record {
      sound = sound;
      ram = long;
      clock = refl;
      painted = refl;
      pairs = refl;
      unblocked = refl;
      a = refl;
      b = refl;
      pixels = refl;
    }

pub started_fresh : (m : ZXMachine) (colour : ℕ) → colour < 8 → Fresh m (started m colour)
started_fresh m colour h = beginning_fresh m 0 0 colour (clear_ram m) (started_sound m colour h) (started_sized m colour).ram

-- THE WORLD THAT A START LEAVES IS FRESH, whichever start it was: "An import is a start" (02, Q-4), whose RAM is the file's
pub start_fresh : (how : Start) (l : Lent) → Typed (start_again how) → (started_by how l).code ≡ 0 → Fresh (machine_of (asked_machine how)) (started_world how)
start_fresh (plain_start machine) l typed z = started_fresh (machine_of machine) black (first_small (plain_start machine) l z)
start_fresh (colour_start machine colour) l typed z = started_fresh (machine_of machine) colour (first_small (colour_start machine colour) l z)
start_fresh (snapshot_start machine file registers) l typed z =
    let m = machine_of machine in
    let how = snapshot_start machine file registers in
    beginning_fresh m (paging_in m file) (border_in file) (border_in file) (ram_in m file) (begun_sound how l typed z) (begun_sized how l z).ram
