-- rustzx-core/src/zx/controller.rs, the bus part, with `sound` and `precise-border`; AY present or absent is the feature `ay`. Left behind:
-- mixer, tape, key tables, events, breakpoints. The devices reach it as bytes, as they reach us.
-- Assumes nothing.
use Rattle.std.specs.Prelude.{ℕ, ◌+◌, ◌-◌, ◌*◌, ◌/◌, ◌%◌, ◌^◌, Bool, true, false, cond, not, ◌&&◌, List, ltb, leb, eqb, get_or}
use Rattle.std.specs.Int.Bits.{bit_and, bit_xor}
use Rattle.rustzx.specs.Panics.{OrPanic, done, Option, some, none, on_done, each}
use Rattle.rustzx.specs.Machine.{ZXMachine, Sinclair48K, Sinclair128K, specs, contention_clocks, port_is_contended, bank_is_contended}
use Rattle.rustzx.specs.Addresses.{canvas_height, bitmap_line_addr}
use Rattle.rustzx.specs.Colors.{ZXColor, Black, from_bits}
use Rattle.rustzx.specs.Memory.{Page, Rom, Ram, ZXMemory, page_size, new_memory, get_page, read, write, remap, ram_page_data, load_page}
use Rattle.rustzx.specs.Screen as screen
use Rattle.rustzx.specs.Screen.{ZXScreen, new_screen, switch_bank, process_clocks, update}
use Rattle.rustzx.specs.Border as border
use Rattle.rustzx.specs.Border.{ZXBorder, new_border, set_border}

pub record ZXController : Type 0 where
  pub machine : ZXMachine
  pub memory : ZXMemory
  pub screen : ZXScreen
  pub border : ZXBorder
  pub border_color : ZXColor
  pub frame_clocks : ℕ
  pub passed_frames : ℕ
  pub paging_enabled : Bool
  pub screen_bank : ℕ
  pub current_port7ffd : ℕ

-- fn new
abbrev pub paged : ZXMachine → Bool
paged Sinclair48K = false
paged Sinclair128K = true

abbrev pub first_bank : ZXMachine → ℕ
first_bank Sinclair48K = 0
first_bank Sinclair128K = 5

abbrev pub new : ZXMachine → ZXController
new m =
    record {
      machine = m;
      memory = new_memory m;
      screen = new_screen;
      border = new_border;
      border_color = Black;
      frame_clocks = 0;
      passed_frames = 0;
      paging_enabled = paged m;
      screen_bank = first_bank m;
      current_port7ffd = 0;
    }

-- the ROM as the host loads it, by copies over rom_page_data_mut of each page (fn load_default_rom)
abbrev pub with_rom : List ℕ → ZXController → ZXController
with_rom rom c =
    record { machine = c.machine; memory = record { rom = rom; ram = c.memory.ram; map = c.memory.map }; screen = c.screen; border = c.border; border_color = c.border_color; frame_clocks = c.frame_clocks; passed_frames = c.passed_frames; paging_enabled = c.paging_enabled; screen_bank = c.screen_bank; current_port7ffd = c.current_port7ffd }

-- the controller with some of its fields changed
abbrev pub with_time : ZXScreen → ZXBorder → ℕ → ℕ → ZXController → ZXController
with_time s b clocks passed c =
    record { machine = c.machine; memory = c.memory; screen = s; border = b; border_color = c.border_color; frame_clocks = clocks; passed_frames = passed; paging_enabled = c.paging_enabled; screen_bank = c.screen_bank; current_port7ffd = c.current_port7ffd }

abbrev pub with_memory : ZXMemory → ZXScreen → ZXController → ZXController
with_memory mem s c =
    record { machine = c.machine; memory = mem; screen = s; border = c.border; border_color = c.border_color; frame_clocks = c.frame_clocks; passed_frames = c.passed_frames; paging_enabled = c.paging_enabled; screen_bank = c.screen_bank; current_port7ffd = c.current_port7ffd }

abbrev pub with_border : ZXBorder → ZXColor → ZXController → ZXController
with_border b color c =
    record { machine = c.machine; memory = c.memory; screen = c.screen; border = b; border_color = color; frame_clocks = c.frame_clocks; passed_frames = c.passed_frames; paging_enabled = c.paging_enabled; screen_bank = c.screen_bank; current_port7ffd = c.current_port7ffd }

abbrev pub with_paging : ZXMemory → ZXScreen → Bool → ℕ → ℕ → ZXController → ZXController
with_paging mem s enabled bank value c =
    record { machine = c.machine; memory = mem; screen = s; border = c.border; border_color = c.border_color; frame_clocks = c.frame_clocks; passed_frames = c.passed_frames; paging_enabled = enabled; screen_bank = bank; current_port7ffd = value }

-- fn floating_bus_value
abbrev pub floating_column : ℕ → ℕ
floating_column clocks = clocks / 8 * 2 + clocks % 8 / 2

abbrev pub fetch_floating : ZXController → ℕ → ℕ → OrPanic ℕ
fetch_floating c row clocks =
    cond (eqb (clocks % 2) 0)
    (on_done (bitmap_line_addr row) (λ addr. done (read c.memory (addr + floating_column clocks))))
    (done (read c.memory (0x5800 + (row / 8 * 32 + floating_column clocks))))

abbrev pub floating_at : ZXController → ℕ → ℕ → OrPanic ℕ
floating_at c row clocks =
    cond (ltb row canvas_height && ltb clocks ((specs c.machine).clocks.screen_row - 4) && eqb (bit_and clocks 0x04) 0) (fetch_floating c row clocks) (done 0xFF)

unfoldable pub floating_bus_value : ZXController → OrPanic ℕ
floating_bus_value c =
    let origin = (specs c.machine).clocks_first_pixel + 2 in
    let line = (specs c.machine).clocks.line in
    cond (ltb c.frame_clocks origin) (done 0xFF)
    (floating_at c ((c.frame_clocks - origin) / line) ((c.frame_clocks - origin) % line))

-- fn addr_is_contended
abbrev pub page_is_contended : ZXMachine → Page → Bool
page_is_contended m (Ram bank) = bank_is_contended m bank
page_is_contended m (Rom bank) = false

abbrev pub addr_is_contended : ZXController → ℕ → Bool
addr_is_contended c addr = page_is_contended c.machine (get_page c.memory addr)

-- fn wait_internal, and fn new_frame within it
abbrev pub new_frame : ZXController → ZXController
new_frame c =
    with_time (screen.new_frame c.screen) (border.new_frame c.border) (c.frame_clocks - (specs c.machine).clocks_frame) (c.passed_frames + 1) c

abbrev pub processed : ℕ → ZXController → ZXController
processed clk c =
    with_time (process_clocks c.machine (c.frame_clocks + clk) c.screen) c.border (c.frame_clocks + clk) c.passed_frames c

unfoldable pub wait_internal : ℕ → ZXController → ZXController
wait_internal clk c =
    cond (leb (specs c.machine).clocks_frame (c.frame_clocks + clk)) (new_frame (processed clk c)) (processed clk c)

-- fn do_contention, fn do_contention_and_wait
abbrev pub do_contention_and_wait : ℕ → ZXController → ZXController
do_contention_and_wait time c = wait_internal (contention_clocks c.machine c.frame_clocks + time) c

abbrev pub do_contention : ZXController → ZXController
do_contention c = wait_internal (contention_clocks c.machine c.frame_clocks) c

-- fn io_contention_first, fn io_contention_last
abbrev pub contended_first : ℕ → ZXController → ZXController
contended_first addr c = cond (addr_is_contended c addr) (do_contention c) c

unfoldable pub io_contention_first : ℕ → ZXController → ZXController
io_contention_first port c = wait_internal 1 (contended_first port c)

unfoldable pub io_contention_last : ℕ → ZXController → ZXController
io_contention_last port c =
    cond (port_is_contended c.machine port) (do_contention_and_wait 2 c)
    (cond (addr_is_contended c port)
    (do_contention (do_contention_and_wait 1 (do_contention_and_wait 1 c)))
    (wait_internal 2 c))

-- who a port write reached: the arm of write_io that ran, and of write_7ffd whether paging was enabled
pub data Reached : Type 0 where
  to_extender : Reached
  to_ay_select : Reached
  to_ay_write : Reached
  to_border : Reached
  to_paging : Bool → Reached
  to_nobody : Reached

-- a write leaves a state, and who was reached stands beside it
pub record Wrote : Type 0 where
  pub controller : ZXController
  pub reached : Reached

abbrev pub reaches : Reached → ZXController → Wrote
reaches who c = record { controller = c; reached = who }

-- fn write_7ffd
abbrev pub new_screen_bank : ℕ → ℕ
new_screen_bank val = cond (eqb (bit_and val 0x08) 0) 5 7

-- the remaps of the top 16K of RAM and of the ROM, each of which panics where there is no such page
abbrev pub remapped : ℕ → ZXMemory → OrPanic ZXMemory
remapped val mem = on_done (remap mem 3 (Ram (bit_and val 0x07))) (λ top. remap top 0 (Rom (bit_and (val / 16) 0x01)))

-- check paging allow bit
abbrev pub still_enabled : ℕ → Bool → Bool
still_enabled val enabled = cond (not (eqb (bit_and val 0x20) 0)) false enabled

unfoldable pub write7ffd : ℕ → ZXController → OrPanic Wrote
write7ffd val c =
    cond (not c.paging_enabled) (done (reaches (to_paging false) c))
    (on_done (remapped val c.memory) (λ mem.
    done (reaches (to_paging true) (with_paging mem (switch_bank c.machine (new_screen_bank val) c.screen) (still_enabled val c.paging_enabled) (new_screen_bank val) val c))))

-- fn set_border_color
abbrev pub set_border_color : ℕ → ZXColor → ZXController → ZXController
set_border_color clocks color c = with_border (set_border c.machine clocks color c.border) color c

-- border.set_border alone, at the controller's own clock: the beam has the colour, and what is reported stays
abbrev pub set_beam : ZXColor → ZXController → ZXController
set_beam color c = with_border (set_border c.machine c.frame_clocks color c.border) c.border_color c

-- fn read_internal, fn write_internal
abbrev pub read_internal : ℕ → ZXController → ℕ
read_internal addr c = read c.memory addr

abbrev pub updated : Page → ℕ → ℕ → ZXController → OrPanic ZXController
updated (Rom bank) addr value c = done (with_memory (write c.memory addr value) c.screen c)
updated (Ram bank) addr value c =
    on_done (update c.machine (addr % page_size) bank value c.screen) (λ s. done (with_memory (write c.memory addr value) s c))

unfoldable pub write_internal : ℕ → ℕ → ZXController → OrPanic ZXController
write_internal addr value c = updated (get_page (write c.memory addr value) addr) addr value c

-- fn wait_mreq, fn wait_no_mreq
unfoldable pub wait_mreq : ℕ → ℕ → ZXController → ZXController
wait_mreq addr clk c = wait_internal clk (contended_first addr c)

abbrev pub wait_no_mreq : ℕ → ℕ → ZXController → ZXController
wait_no_mreq addr clk c = wait_mreq addr clk c

-- what read_io finds attached: the three keyboards, the tape's current bit, and what may be there, by what it gives: an extender that extends the
-- port, an AY (the feature `ay`), a kempston, a mouse
pub record Mouse : Type 0 where
  pub buttons_port : ℕ
  pub x_pos_port : ℕ
  pub y_pos_port : ℕ

pub record Attached : Type 0 where
  pub keyboard : List ℕ
  pub keyboard_extended : List ℕ
  pub keyboard_sinclair : List ℕ
  pub current_bit : Bool
  pub io_extender : Option ℕ
  pub ay : Option ℕ
  pub kempston : Option ℕ
  pub mouse : Option Mouse

-- fn read_io: the row's bit of the port's high byte, ((h >> n) & 0x01) == 0
abbrev pub keyboard_byte : Attached → ℕ → ℕ
keyboard_byte a n = bit_and (bit_and (get_or a.keyboard n 0) (get_or a.keyboard_extended n 0)) (get_or a.keyboard_sinclair n 0)

abbrev pub row_read : Attached → ℕ → ℕ → ℕ → ℕ
row_read a h n tmp = cond (eqb (bit_and (h / 2 ^ n) 0x01) 0) (bit_and tmp (keyboard_byte a n)) tmp

abbrev pub ula_read : Attached → ℕ → ℕ
ula_read a port =
    let tmp = each 0 8 (row_read a (port / 256)) 0xFF in
    cond (not a.current_bit) (bit_xor tmp 0x40) tmp

-- kempston, read_ay_port, mouse, io_extender: in the Rust's order, from its end to its start
abbrev pub kempston_read : Option ℕ → ℕ → ZXController → OrPanic ℕ
kempston_read none port c = floating_bus_value c
kempston_read (some byte) port c = cond (eqb (bit_and port 0x00E0) 0) (done byte) (floating_bus_value c)

abbrev pub ay_read : Option ℕ → ZXController → OrPanic ℕ
ay_read none c = floating_bus_value c
ay_read (some byte) c = done byte

abbrev pub after_mouse : Attached → ℕ → ZXController → OrPanic ℕ
after_mouse a port c = cond (eqb (bit_and port 0xC002) 0xC000) (ay_read a.ay c) (kempston_read a.kempston port c)

abbrev pub mouse_read : Option Mouse → Attached → ℕ → ZXController → OrPanic ℕ
mouse_read none a port c = after_mouse a port c
mouse_read (some mouse) a port c =
    cond (eqb (bit_and port 0x0121) 0x0001) (done mouse.buttons_port)
    (cond (eqb (bit_and port 0x0521) 0x0101) (done mouse.x_pos_port)
    (cond (eqb (bit_and port 0x0521) 0x0501) (done mouse.y_pos_port) (after_mouse a port c)))

abbrev pub extender_read : Option ℕ → Attached → ℕ → ZXController → OrPanic ℕ
extender_read (some byte) a port c = done byte
extender_read none a port c = cond (eqb (bit_and port 0x0001) 0) (done (ula_read a port)) (mouse_read a.mouse a port c)

-- a call that answers a byte
pub record Answered : Type 0 where
  pub controller : ZXController
  pub value : ℕ

unfoldable pub read_io : Attached → ℕ → ZXController → OrPanic Answered
read_io a port c =
    let held = io_contention_last port (io_contention_first port c) in
    on_done (extender_read a.io_extender a port held) (λ value. done (record { controller = wait_internal 1 held; value = value }))

-- fn write_io
abbrev pub is128k : ZXMachine → Bool
is128k Sinclair48K = false
is128k Sinclair128K = true

abbrev pub port_write : ℕ → ℕ → ZXController → OrPanic Wrote
port_write port byte c =
    cond (eqb (bit_and port 0xC002) 0xC000) (done (reaches to_ay_select c))
    (cond (eqb (bit_and port 0xC002) 0x8000) (done (reaches to_ay_write c))
    (cond (eqb (bit_and port 0x0001) 0) (on_done (from_bits (bit_and byte 0x07)) (λ color. done (reaches to_border (set_border_color c.frame_clocks color c))))
    (cond (eqb (bit_and port 0x8002) 0 && is128k c.machine) (write7ffd byte c) (done (reaches to_nobody c)))))

abbrev pub extender_write : Option ℕ → ℕ → ℕ → ZXController → OrPanic Wrote
extender_write (some own) port byte c = done (reaches to_extender c)
extender_write none port byte c = port_write port byte c

unfoldable pub write_io : Attached → ℕ → ℕ → ZXController → OrPanic Wrote
write_io a port byte c =
    on_done (extender_write a.io_extender port byte (io_contention_first port c))
    (λ acted. done (reaches acted.reached (wait_internal 1 (io_contention_last port acted.controller))))

-- fn int_active
abbrev pub int_active : ZXController → Bool
int_active c = ltb (c.frame_clocks % (specs c.machine).clocks_frame) (specs c.machine).interrupt_length

-- fn frames_count, fn reset_frame_counter, fn read_7ffd
abbrev pub reset_frame_counter : ZXController → ZXController
reset_frame_counter c = with_time c.screen c.border c.frame_clocks 0 c

-- fn refresh_memory_dependent_devices: every byte of the video pages is updated
abbrev pub refresh_byte : ZXMachine → ℕ → List ℕ → ℕ → OrPanic ZXScreen → OrPanic ZXScreen
refresh_byte m bank bytes idx s = on_done s (λ s. update m idx bank (get_or bytes idx 0) s)

abbrev pub refresh_page : ZXMachine → ℕ → ZXMemory → OrPanic ZXScreen → OrPanic ZXScreen
refresh_page m bank mem s = on_done (ram_page_data mem bank) (λ bytes. each 0 16384 (refresh_byte m bank bytes) s)

abbrev pub refreshed : ZXMachine → ZXMemory → ZXScreen → OrPanic ZXScreen
refreshed Sinclair48K mem s = refresh_page Sinclair48K 0 mem (done s)
refreshed Sinclair128K mem s = refresh_page Sinclair128K 7 mem (refresh_page Sinclair128K 5 mem (done s))

-- a page load, and the refresh that follows it
unfoldable pub load_and_refresh : ℕ → List ℕ → ZXController → OrPanic ZXController
load_and_refresh page bytes c =
    on_done (load_page c.memory page bytes) (λ mem. on_done (refreshed c.machine mem c.screen) (λ s. done (with_memory mem s c)))
