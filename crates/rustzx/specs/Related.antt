-- When a state of the Rust and a world of document 01 are the same machine seen twice: the relation that every call keeps.
-- Assumes nothing.
use Rattle.std.specs.Prelude.{ℕ, ◌+◌, ◌*◌, ◌%◌, ◌<◌, ◌≤◌, ◌≡◌, Bool, true, false, cond, not, List, map, eqb, length, get_or, take, drop}
use Rattle.machine.specs.declared.ZXMachine as ours
use Rattle.machine.specs.declared.ZXMachine.TheVariants as machine
use Rattle.machine.specs.Numbers.{specs_of}
use Rattle.machine.specs.Timing.{block_position, frame_end}
use Rattle.offsets.specs.Offset.{offset_of}
use Rattle.screen.specs.declared.ZXColor as picture
use Rattle.screen.specs.declared.ZXColor.TheVariants as color
use Rattle.screen.specs.declared.ZXBrightness as bright
use Rattle.screen.specs.declared.ZXBrightness.TheVariants as brightness
use Rattle.screen.specs.declared.ZXAttribute as attribute
use Rattle.screen.specs.Colour.{attribute_of}
use Rattle.border.specs.Edge.{Edge}
use Rattle.memory.specs.declared.Page as stored
use Rattle.memory.specs.declared.Page.TheVariants as page
use Rattle.memory.specs.Paging.{bit_set, memory_map, shown_page}
use Rattle.memory.specs.Memory.{ram_page}
use Rattle.ports.specs.declared.Devices.{Devices}
use Rattle.ports.specs.declared.Device.{Device}
use Rattle.ports.specs.declared.Device.TheVariants.{Absent, Present}
use Rattle.ports.specs.declared.MousePorts.{MousePorts}
use Rattle.bus.specs.World.{Core, Screen, World}
use Rattle.bus.specs.Time.{flash_on, shown_picture, hidden_picture}
use Rattle.rustzx.specs.Panics.{Option, some, none}
use Rattle.rustzx.specs.Machine.{ZXMachine, Sinclair48K, Sinclair128K}
use Rattle.rustzx.specs.Colors.{ZXColor, Black, Blue, Red, Purple, Green, Cyan, Yellow, White, ZXBrightness, Normal, Bright, ZXAttribute, color_byte}
use Rattle.rustzx.specs.Memory.{Page, Rom, Ram, ZXMemory}
use Rattle.rustzx.specs.Screen.{ScreenBank, ZXScreen, black_attribute, block_index}
use Rattle.rustzx.specs.Border.{ZXBorder, screen_width}
use Rattle.rustzx.specs.Controller.{ZXController, Mouse, Attached}

-- the Rust's two machines among ours
abbrev pub our_machine : ZXMachine → ours.ZXMachine
our_machine Sinclair48K = machine.Sinclair48K
our_machine Sinclair128K = machine.Sinclair128K

-- and its pages
abbrev pub our_page : Page → stored.Page
our_page (Rom p) = page.Rom p
our_page (Ram p) = page.Ram p

-- and its colours
abbrev pub our_colour : ZXColor → picture.ZXColor
our_colour Black = color.Black
our_colour Blue = color.Blue
our_colour Red = color.Red
our_colour Purple = color.Purple
our_colour Green = color.Green
our_colour Cyan = color.Cyan
our_colour Yellow = color.Yellow
our_colour White = color.White

abbrev pub our_brightness : ZXBrightness → bright.ZXBrightness
our_brightness Normal = brightness.Normal
our_brightness Bright = brightness.Bright

abbrev pub our_attribute : ZXAttribute → attribute.ZXAttribute
our_attribute a = record { ink = our_colour a.ink; paper = our_colour a.paper; brightness = our_brightness a.brightness; flash = a.flash }

-- a call's devices, as the Rust finds them attached
abbrev pub byte_gives : Device ℕ → Option ℕ
byte_gives Absent = none
byte_gives (Present byte) = some byte

abbrev pub mouse_gives : Device MousePorts → Option Mouse
mouse_gives Absent = none
mouse_gives (Present ports) = some (record { buttons_port = ports.buttons; x_pos_port = ports.x; y_pos_port = ports.y })

abbrev pub attached_of : Devices → Attached
attached_of d =
    record {
      keyboard = take 8 d.rows;
      keyboard_extended = take 8 (drop 8 d.rows);
      keyboard_sinclair = take 8 (drop 16 d.rows);
      current_bit = eqb d.tape 1;
      io_extender = byte_gives d.extender;
      ay = byte_gives d.ay;
      kempston = byte_gives d.joystick;
      mouse = mouse_gives d.mouse;
    }

-- "RAM is the sole store of video bytes; the Rust's mirrored banks equal it": the bitmap in raster order, the attributes taken apart
pub record Mirrors (b : ScreenBank) (page : List ℕ) : Type 0 where
  pub bitmap_long : length b.bitmap ≡ 6144
  pub attributes_long : length b.attributes ≡ 768
  pub bitmap : (k : ℕ) → k < 6144 → get_or b.bitmap k 0 ≡ get_or page (offset_of k) 0
  pub attributes : (j : ℕ) → j < 768 → our_attribute (get_or b.attributes j black_attribute) ≡ attribute_of (get_or page (0x1800 + j) 0)

-- each bank that a machine uses, and its page
abbrev pub Mirrored : ZXMachine → ScreenBank → ScreenBank → List ℕ → Type 0
Mirrored Sinclair48K bank0 bank1 ram = Mirrors bank0 (ram_page 0 ram)
Mirrored Sinclair128K bank0 bank1 ram = Mirrors bank0 (ram_page 5 ram) × Mirrors bank1 (ram_page 7 ram)

-- the bank of the shown page
abbrev pub active_of : ZXMachine → ℕ → ℕ
active_of Sinclair48K paging = 0
active_of Sinclair128K paging = cond (bit_set 3 paging) 1 0

-- the screen: `last_blocks` is the painted count, the frame counter modulo 32 the phase, `buffer` the shown picture and `back_buffer` the hidden one
pub record SameScreen (m : ZXMachine) (s : ZXScreen) (c : Core) (w : Screen) : Type 0 where
  pub position : block_index s.last_blocks ≡ w.painted
  pub columns : s.last_blocks.columns ≤ 32
  pub counter : s.frame_counter % 32 ≡ c.phase
  pub flash : s.flash ≡ flash_on c.phase
  pub shown : s.buffer ≡ shown_picture c w
  pub hidden : s.back_buffer ≡ hidden_picture c w
  pub active : s.active_bank ≡ active_of m c.paging
  pub mirrored : Mirrored m s.bank0 s.bank1 c.ram

-- the border: the beam stands at twice the pairs; where `border_changed` is false it stands at 0
pub record SameBorder (b : ZXBorder) (e : Edge) : Type 0 where
  pub pixels : b.buffer ≡ e.pixels
  pub beam : b.beam_last.line * screen_width + b.beam_last.pixel ≡ 2 * e.pairs
  pub colour : color_byte b.beam_last.color ≡ e.colour
  pub blocked : b.beam_block ≡ e.blocked
  pub unchanged : b.border_changed ≡ false → e.pairs ≡ 0

-- the memory: the lent ROM, the RAM, and the map that the 7FFD byte decides
pub record SameMemory (m : ours.ZXMachine) (lentRom lentRam : List ℕ) (paging : ℕ) (mem : ZXMemory) : Type 0 where
  pub rom : mem.rom ≡ lentRom
  pub ram : mem.ram ≡ lentRam
  pub pages : map our_page mem.map ≡ memory_map m paging

-- paging is open on 128K until bit 5 of a 7FFD byte locks it
abbrev pub paging_open : ZXMachine → ℕ → Bool
paging_open Sinclair48K paging = false
paging_open Sinclair128K paging = not (bit_set 5 paging)

-- Of soundness (crate `record`, specs/Sound) these clauses are used, and no other: what is proved of related states holds wherever a world is sound.
pub record InStep (m : ours.ZXMachine) (w : World) : Type 0 where
  pub phase : w.core.phase < 32
  pub painted : w.screen.painted ≤ block_position (specs_of m) w.core.clock
  pub at_end : w.edge.blocked ≡ true → frame_end (specs_of m) w.core.clock ≡ true
  pub no_pairs : w.edge.blocked ≡ true → w.edge.pairs ≡ 0

pub record Related (m : ZXMachine) (rom : List ℕ) (c : ZXController) (w : World) : Type 0 where
  pub machine : c.machine ≡ m
  pub memory : SameMemory (our_machine m) rom w.core.ram w.core.paging c.memory
  pub screen : SameScreen m c.screen w.core w.screen
  pub border : SameBorder c.border w.edge
  pub reported : color_byte c.border_color ≡ w.core.reported
  pub clock : c.frame_clocks ≡ w.core.clock
  pub passed : c.passed_frames ≡ w.core.passed
  pub enabled : c.paging_enabled ≡ paging_open m w.core.paging
  pub bank : c.screen_bank ≡ shown_page (our_machine m) w.core.paging
  pub port : c.current_port7ffd ≡ w.core.paging
  pub ram_long : length w.core.ram ≡ (specs_of (our_machine m)).ram
  pub rom_long : length rom ≡ (specs_of (our_machine m)).rom
  pub in_step : InStep (our_machine m) w
