-- The Rust's new controller, with the ROM that the host loads, and the world that a start with colour 7 leaves are related; and so are the controller
-- whose border was then given another colour, before any clock, and the world of the start with that colour.
-- Assumes nothing.
use mathlib.Core.Path.{◌≡◌, refl, sym, ap, ◌∙◌, subst}
use mathlib.Core.List.{List, map}
use Prim.Native.Nat.{ℕ, ◌+◌, ◌*◌, ◌/◌, ◌%◌, ◌<◌, ◌≤◌}
use native.Mathlib.Omega.{arith}
use lib.ListN.{length, get_or, drop, replicate, length-replicate, get_or-replicate}
use lib.Seq.{get_or-take, get_or-drop}
use Rattle.machine.specs.Numbers.{specs_of}
use Rattle.offsets.specs.Offset.{line_start, offset_of}
use Rattle.screen.specs.Colour.{attribute_of}
use Rattle.memory.specs.Paging.{memory_map, shown_page}
use Rattle.memory.specs.Memory.{ram_page}
use Rattle.bus.specs.World.{clear_ram, clear_picture, clear_border, started}
use Rattle.bus.proofs.Kept.{started_sound}
use Rattle.rustzx.specs.Panics.{each}
use Rattle.rustzx.specs.Machine.{ZXMachine, Sinclair48K, Sinclair128K}
use Rattle.rustzx.specs.Memory.{zeros, new_memory}
use Rattle.rustzx.specs.Screen as screen
use Rattle.rustzx.specs.Screen.{black_attribute, new_bank}
use Rattle.rustzx.specs.Colors.{ZXColor, Black, Blue, Red, Purple, Green, Cyan, Yellow, White, color_byte}
use Rattle.rustzx.specs.Border as border
use Rattle.rustzx.specs.Border.{set_border, next_border_pixel}
use Rattle.rustzx.specs.Controller.{ZXController, paged, first_bank, new, with_rom, set_border_color, set_beam}
use Rattle.rustzx.specs.Related.{our_machine, our_page, our_attribute, Mirrors, Mirrored, active_of, SameBorder, paging_open, Related}
use Rattle.rustzx.proofs.Steps.{sound_in_step}

zeros_clear : (m : ZXMachine) (n : ℕ) → n ≡ (specs_of (our_machine m)).ram → zeros n ≡ clear_ram (our_machine m)
unfolding zeros clear_ram
zeros_clear m n e = rw e

ram_long_lem : (m : ZXMachine) → length (clear_ram (our_machine m)) ≡ (specs_of (our_machine m)).ram
unfolding clear_ram
ram_long_lem m = length-replicate (specs_of (our_machine m)).ram 0

-- a byte of a clear page is 0
blank : (m : ZXMachine) (p j : ℕ) → j < 16384 → 16384 * p + 16384 ≤ (specs_of (our_machine m)).ram → get_or (ram_page p (clear_ram (our_machine m))) j 0 ≡ 0
unfolding clear_ram
blank m p j h f =
    get_or-take 16384 (drop (16384 * p) (replicate (specs_of (our_machine m)).ram 0)) j 0 h ∙ get_or-drop (16384 * p) (replicate (specs_of (our_machine m)).ram 0) j 0
    ∙ get_or-replicate (specs_of (our_machine m)).ram (16384 * p + j) 0 0 (omega arith)

offset_small : (k : ℕ) → k < 6144 → offset_of k < 16384
offset_small k h = by_parts (k / 32) (k % 32) (omega arith) (omega arith) where
  by_parts : (n col : ℕ) → n < 192 → col < 32 → line_start n + col < 16384
  by_parts n col a b = omega arith

blank_bank : (n k : ℕ) (page : List ℕ) → n ≡ 768 → k ≡ 6144 → ((j : ℕ) → j < 16384 → get_or page j 0 ≡ 0)
    → Mirrors (record { attributes = replicate n black_attribute; bitmap = replicate k 0 }) page
blank_bank n k page p q f =
    record {
      bitmap_long = length-replicate k 0 ∙ q;
      attributes_long = length-replicate n black_attribute ∙ p;
      bitmap = λ i h. get_or-replicate k i 0 0 (omega arith) ∙ sym (f (offset_of i) (offset_small i h));
      attributes = λ j h. ap our_attribute (get_or-replicate n j black_attribute black_attribute (omega arith)) ∙ ap attribute_of (sym (f (0x1800 + j) (omega arith)));
    }

new_mirrors : (m : ZXMachine) (p : ℕ) → 16384 * p + 16384 ≤ (specs_of (our_machine m)).ram → Mirrors new_bank (ram_page p (clear_ram (our_machine m)))
unfolding new_bank
new_mirrors m p f = blank_bank 768 6144 (ram_page p (clear_ram (our_machine m))) refl refl (λ j h. blank m p j h f)

same_pictures : screen.new_buffer ≡ clear_picture
unfolding screen.new_buffer clear_picture
same_pictures = refl

same_borders : border.new_buffer ≡ clear_border
unfolding border.new_buffer clear_border
same_borders = refl

-- the border of a controller that has just begun, whatever the colour of its beam
beam_set : (m : ZXMachine) (color : ZXColor) → SameBorder (set_beam color (new m)).border (started (our_machine m) (color_byte color)).edge
unfolding set_border next_border_pixel each
beam_set Sinclair48K color = record { pixels = same_borders; beam = refl; colour = refl; blocked = refl; unchanged = λ e. refl }
beam_set Sinclair128K color = record { pixels = same_borders; beam = refl; colour = refl; blocked = refl; unchanged = λ e. refl }

-- a colour's byte is below 8
byte_small : (color : ZXColor) → color_byte color < 8
byte_small Black = omega arith
byte_small Blue = omega arith
byte_small Red = omega arith
byte_small Purple = omega arith
byte_small Green = omega arith
byte_small Cyan = omega arith
byte_small Yellow = omega arith
byte_small White = omega arith

-- the start of either machine, from what only its own case decides
start_by : (m : ZXMachine) (color : ZXColor) (rom : List ℕ) → length rom ≡ (specs_of (our_machine m)).rom → (new_memory m).ram ≡ clear_ram (our_machine m) → map our_page (new_memory m).map ≡ memory_map (our_machine m) 0
    → 0 ≡ active_of m 0 → paged m ≡ paging_open m 0 → first_bank m ≡ shown_page (our_machine m) 0 → Mirrored m new_bank new_bank (clear_ram (our_machine m))
    → Related m rom (with_rom rom (set_beam color (new m))) (started (our_machine m) (color_byte color))
start_by m color rom long ram pages active enabled bank mirrored =
    record {
      machine = refl;
      memory = record { rom = refl; ram = ram; pages = pages };
      screen = record {
        position = refl;
        columns = omega arith;
        counter = refl;
        flash = refl;
        shown = same_pictures;
        hidden = same_pictures;
        active = active;
        mirrored = mirrored;
      };
      border = beam_set m color;
      reported = refl;
      clock = refl;
      passed = refl;
      enabled = enabled;
      bank = bank;
      port = refl;
      ram_long = ram_long_lem m;
      rom_long = long;
      in_step = sound_in_step (our_machine m) (started (our_machine m) (color_byte color)) (started_sound (our_machine m) (color_byte color) (byte_small color));
    }

-- A START WITH A COLOUR, on either machine.
pub beam_related : (m : ZXMachine) (color : ZXColor) (rom : List ℕ) → length rom ≡ (specs_of (our_machine m)).rom
    → Related m rom (with_rom rom (set_beam color (new m))) (started (our_machine m) (color_byte color))
beam_related Sinclair48K color rom long =
    start_by Sinclair48K color rom long (zeros_clear Sinclair48K 49152 refl) refl refl refl refl (new_mirrors Sinclair48K 0 (omega arith))
beam_related Sinclair128K color rom long =
    start_by Sinclair128K color rom long (zeros_clear Sinclair128K 131072 refl) refl refl refl refl
    (new_mirrors Sinclair128K 5 (omega arith), new_mirrors Sinclair128K 7 (omega arith))

-- The Rust's new controller is white: giving its beam that colour changes nothing.
pub white_is_new : (m : ZXMachine) → set_beam White (new m) ≡ new m
unfolding set_border next_border_pixel each
white_is_new Sinclair48K = refl
white_is_new Sinclair128K = refl

-- And one that is black is what its own set_border_color leaves, called before any clock.
pub black_is_set : (m : ZXMachine) → set_beam Black (new m) ≡ set_border_color 0 Black (new m)
black_is_set m = refl

-- START: "Equality with the Rust's start is claimed for the call with colour 7" (02, Q-3).
pub start_related : (m : ZXMachine) (rom : List ℕ) → length rom ≡ (specs_of (our_machine m)).rom → Related m rom (with_rom rom (new m)) (started (our_machine m) 7)
start_related m rom long =
    subst (λ (c : ZXController). Related m rom (with_rom rom c) (started (our_machine m) 7)) (white_is_new m) (beam_related m White rom long)
