-- Soundness is wider than what a history reaches, and so is demand 2's domain: every sound world is that of some state of the Rust. So an
-- accepted call on any sound record, not only on one that the bus wrote itself, answers and does what the Rust does from such a state.
-- Assumes nothing.
use mathlib.Core.Path.{◌≡◌, refl, sym, ◌∙◌}
use mathlib.Core.Bool.{true, false≢true}
use mathlib.Core.List.{List, [], ◌∷◌, map}
use Prim.Native.Nat.{ℕ, ◌*◌, ◌/◌, ◌%◌}
use native.Mathlib.Nat.{mod-eq_of_lt}
use native.Mathlib.Omega.{arith}
use lib.ListN.{length, replicate, length-replicate}
use Rattle.machine.specs.declared.ZXMachine as ours
use Rattle.machine.specs.declared.ZXMachine.TheVariants as our
use Rattle.machine.specs.Numbers.{specs_of}
use Rattle.screen.specs.Colour.{colour_of}
use Rattle.memory.specs.Paging.{bit, memory_map, shown_page}
use Rattle.memory.specs.Memory.{ram_page}
use Rattle.bus.specs.World.{World}
use Rattle.bus.specs.Time.{flash_on, shown_picture, hidden_picture}
use Rattle.bus.proofs.Kept.{SoundWorld}
use Rattle.rustzx.specs.Machine.{ZXMachine, Sinclair48K, Sinclair128K}
use Rattle.rustzx.specs.Memory.{Page, Rom, Ram}
use Rattle.rustzx.specs.Screen.{ZXScreen, black_attribute, new_bank}
use Rattle.rustzx.specs.Border.{ZXBorder}
use Rattle.rustzx.specs.Controller.{ZXController}
use Rattle.rustzx.specs.Related.{our_machine, our_page, Mirrors, Mirrored, active_of, paging_open, Related}
use Rattle.rustzx.proofs.Helpers.{rust_colour, colour_back}
use Rattle.rustzx.proofs.Banks.{put_all, all_mirrors}
use Rattle.rustzx.proofs.Steps.{sound_in_step}

-- the page that each bank mirrors; the second bank of a 48K mirrors none, and is left as new
abbrev first_page : ZXMachine → ℕ
first_page Sinclair48K = 0
first_page Sinclair128K = 5

abbrev pub screen_of : ZXMachine → World → ZXScreen
screen_of m w =
    record {
      last_blocks = record { lines = w.screen.painted / 32; columns = w.screen.painted % 32 };
      flash = flash_on w.core.phase;
      frame_counter = w.core.phase;
      buffer = shown_picture w.core w.screen;
      back_buffer = hidden_picture w.core w.screen;
      bank0 = put_all (ram_page (first_page m) w.core.ram) 16384 new_bank;
      bank1 = put_all (ram_page 7 w.core.ram) 16384 new_bank;
      active_bank = active_of m w.core.paging;
    }

abbrev pub border_of : World → ZXBorder
border_of w =
    record {
      buffer = w.edge.pixels;
      beam_last = record { line = 2 * w.edge.pairs / 320; pixel = 2 * w.edge.pairs % 320; color = rust_colour (colour_of w.edge.colour) };
      border_changed = true;
      beam_block = w.edge.blocked;
    }

-- the map of a machine with a 7FFD byte
abbrev map_of : ZXMachine → ℕ → List Page
map_of Sinclair48K paging = Rom 0 ∷ Ram 0 ∷ Ram 1 ∷ Ram 2 ∷ []
map_of Sinclair128K paging = Rom (bit 4 paging) ∷ Ram 5 ∷ Ram 2 ∷ Ram (paging % 8) ∷ []

map_is : (m : ZXMachine) (paging : ℕ) → map our_page (map_of m paging) ≡ memory_map (our_machine m) paging
map_is Sinclair48K paging = refl
map_is Sinclair128K paging = refl

-- a state of the Rust for a machine, a ROM and a world
abbrev pub rust_of : ZXMachine → List ℕ → World → ZXController
rust_of m rom w =
    record {
      machine = m;
      memory = record { rom = rom; ram = w.core.ram; map = map_of m w.core.paging };
      screen = screen_of m w;
      border = border_of w;
      border_color = rust_colour (colour_of w.core.reported);
      frame_clocks = w.core.clock;
      passed_frames = w.core.passed;
      paging_enabled = paging_open m w.core.paging;
      screen_bank = shown_page (our_machine m) w.core.paging;
      current_port7ffd = w.core.paging;
    }

blank_lengths : (n k : ℕ) → n ≡ 768 → k ≡ 6144 → (length (replicate n black_attribute) ≡ 768) × (length (replicate {A = ℕ} k 0) ≡ 6144)
blank_lengths n k p q = (length-replicate n black_attribute ∙ p, length-replicate k 0 ∙ q)

new_lengths : (length new_bank.attributes ≡ 768) × (length new_bank.bitmap ≡ 6144)
unfolding new_bank
new_lengths = blank_lengths 768 6144 refl refl

filled : (page : List ℕ) → Mirrors (put_all page 16384 new_bank) page
filled page = all_mirrors page new_bank new_lengths.1 new_lengths.0

banks : (m : ZXMachine) (w : World) → Mirrored m (screen_of m w).bank0 (screen_of m w).bank1 w.core.ram
banks Sinclair48K w = filled (ram_page 0 w.core.ram)
banks Sinclair128K w = (filled (ram_page 5 w.core.ram), filled (ram_page 7 w.core.ram))

-- Our machines are the Rust's two. This is the one statement that a further machine of ours, of which the Rust has no state, would end.
pub every_machine : (m : ours.ZXMachine) → (z : ZXMachine) × (our_machine z ≡ m)
every_machine our.Sinclair48K = (Sinclair48K, refl)
every_machine our.Sinclair128K = (Sinclair128K, refl)

-- EVERY SOUND WORLD IS THAT OF A STATE OF THE RUST.
pub every_state : (m : ZXMachine) (rom : List ℕ) (w : World) → SoundWorld (our_machine m) w → length w.core.ram ≡ (specs_of (our_machine m)).ram → length rom ≡ (specs_of (our_machine m)).rom
    → Related m rom (rust_of m rom w) w
every_state m rom w s ram_long_lem rom_long_lem =
    record {
      machine = refl;
      memory = record { rom = refl; ram = refl; pages = map_is m w.core.paging };
      screen = record {
        position = omega arith;
        columns = omega arith;
        counter = mod-eq_of_lt {n = w.core.phase} {m = 32} s.phase;
        flash = refl;
        shown = refl;
        hidden = refl;
        active = refl;
        mirrored = banks m w;
      };
      border = record {
        pixels = refl;
        beam = omega arith;
        colour = colour_back w.edge.colour s.colour;
        blocked = refl;
        unchanged = λ e. absurd (false≢true (sym e));
      };
      reported = colour_back w.core.reported s.reported;
      clock = refl;
      passed = refl;
      enabled = refl;
      bank = refl;
      port = refl;
      ram_long = ram_long_lem;
      rom_long = rom_long_lem;
      in_step = sound_in_step (our_machine m) w s;
    }
