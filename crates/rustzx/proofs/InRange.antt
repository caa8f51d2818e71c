-- In Rust a subtraction below 0 and an index past the end panic too. The definitions write them plainly, as `-`, `get_or` and `set`; here each that
-- no test right before it guards is shown to stay in range on related states, so that what is plain in the definitions never panics either.
-- Assumes nothing.
use mathlib.Core.Path.{◌≡◌, refl, sym, ap, ◌∙◌}
use mathlib.Core.List.{List}
use Prim.Native.Nat.{ℕ, ◌+◌, ◌-◌, ◌*◌, ◌/◌, ◌%◌, ◌^◌, ◌<◌, ◌≤◌}
use native.Mathlib.Omega.{arith}
use lib.Dec.{ltb, leb, lit<}
use lib.ListN.{length, length-map}
use Rattle.laws.proofs.Cases.{by_bool}
use Rattle.machine.specs.declared.BorderPixel.{BorderPixel}
use Rattle.std.specs.Prelude.{Option, Some, None}
use Rattle.machine.specs.Numbers.{specs_of}
use Rattle.machine.specs.Timing.{border_at}
use Rattle.machine.proofs.Bounds.{Within, border_within, position_small}
use Rattle.machine.proofs.Numbered.{regular}
use Rattle.machine.proofs.Rising.{blocks_mono}
use Rattle.screen.specs.Address.{line_of}
use Rattle.memory.specs.Paging.{bit_set, memory_map}
use Rattle.memory.specs.Memory.{Holds}
use Rattle.memory.proofs.Places.{map_holds}
use Rattle.offsets.specs.Offset.{line_start}
use Rattle.bus.specs.World.{World}
use Rattle.rustzx.specs.Machine.{ZXMachine, Sinclair48K, Sinclair128K, specs}
use Rattle.rustzx.specs.Memory.{Page, Rom, Ram, ZXMemory, page_size, get_page}
use Rattle.rustzx.specs.Screen.{from_clocks, passed_from, ZXScreen, block_index, active_bank_of, process_clocks, new_frame}
use Rattle.rustzx.specs.Border.{next_border_pixel, screen_width}
use Rattle.rustzx.specs.Controller.{ZXController, floating_column, wait_internal}
use Rattle.rustzx.specs.Related.{our_machine, our_page, active_of, Related}
use Rattle.rustzx.proofs.Timing.{blocks_are, next_of, border_is_lem}
use Rattle.rustzx.proofs.Screens.{active_mirrors}
use Rattle.rustzx.proofs.Pages.{page_is}

-- memory: the page's entry of the map, and the byte behind it
abbrev pub Inside : ZXMemory → Page → ℕ → Type 0
Inside mem (Rom p) offset = p * page_size + offset < length mem.rom
Inside mem (Ram p) offset = p * page_size + offset < length mem.ram

four : (m : ZXMachine) (paging : ℕ) → length (memory_map (our_machine m) paging) ≡ 4
four Sinclair48K paging = refl
four Sinclair128K paging = refl

held_inside : (mem : ZXMemory) (p : Page) (offset : ℕ) → offset < 16384 → Holds (our_page p) (length mem.rom) (length mem.ram) → Inside mem p offset
held_inside mem (Rom p) offset h k = omega arith
held_inside mem (Ram p) offset h k = omega arith

module _ (m : ZXMachine) (rom : List ℕ) (c : ZXController) (w : World) (r : Related m rom c w) where
  -- `self.map[addr / PAGE_SIZE]`, of an address of 16 bits
  pub map_in_range : (addr : ℕ) → addr < 65536 → addr / page_size < length c.memory.map
  map_in_range addr h =
      let e : length c.memory.map ≡ 4 = sym (length-map c.memory.map our_page) ∙ ap length r.memory.pages ∙ four m w.core.paging in
      omega arith

  -- `self.rom[..]` and `self.ram[..]` of read and write
  pub byte_in_range : (addr : ℕ) → Inside c.memory (get_page c.memory addr) (addr % page_size)
  byte_in_range addr =
      held_inside c.memory (get_page c.memory addr) (addr % 16384) (omega arith)
      (rw (page_is (our_machine m) rom w.core.ram w.core.paging c.memory r.memory addr, r.memory.rom, r.memory.ram, r.rom_long, r.ram_long)
      (map_holds (our_machine m) w.core.paging (addr / 16384)))

  -- passed_from: no difference goes below 0, whichever arm is taken, at any clock that wait_internal comes to
  pub passed_in_range : (n : ℕ)
      → (c.screen.last_blocks.columns ≤ 32)
      × ((from_clocks m (c.frame_clocks + n)).lines ≡ c.screen.last_blocks.lines → c.screen.last_blocks.columns ≤ (from_clocks m (c.frame_clocks + n)).columns)
  passed_in_range n =
      let t : ℕ = w.core.clock + n in
      let e = blocks_are m t in
      let up = blocks_mono (specs_of (our_machine m)) (regular (our_machine m)).wide w.core.clock t (omega arith) in
      let old = r.in_step.painted in
      let at = r.screen.position in
      (r.screen.columns, rw r.clock (λ same. omega (arith, e.lines, e.columns)))

  -- the loop over blocks stays in the 6,144 cells of the active bank's bitmap and the 768 of its attributes
  pub blocks_in_range : (n k : ℕ) → k < block_index (from_clocks m (c.frame_clocks + n))
      → (k < length (active_bank_of c.screen).bitmap) × (k / 256 * 32 + k % 32 < length (active_bank_of c.screen).attributes)
  blocks_in_range n k h =
      let mi = active_mirrors m c.screen w.core.paging w.core.ram r.screen.active r.screen.mirrored in
      let e = blocks_are m (c.frame_clocks + n) in
      let small = position_small (specs_of (our_machine m)) (c.frame_clocks + n) in
      let l : k < 6144 = omega (arith, e.lines, e.columns) in
      (rw mi.bitmap_long l, rw mi.attributes_long (omega arith))

  -- `self.banks[self.active_bank]`
  pub bank_in_range : c.screen.active_bank < 2
  bank_in_range = rw r.screen.active (below_two m) where
    below_two : (n : ZXMachine) → active_of n w.core.paging < 2
    below_two Sinclair48K = lit< tt
    below_two Sinclair128K = by_bool (λ (x : ℕ). x < 2) (bit_set 3 w.core.paging) (λ e. lit< tt) (λ e. lit< tt)

-- update: the cells that it stores to
pub bitmap_cell_in_range : (rel : ℕ) → rel ≤ 0x17FF → line_of rel * 32 + rel % 32 < 6144
bitmap_cell_in_range rel h = omega arith

pub attribute_cell_in_range : (rel : ℕ) → 0x1800 ≤ rel → rel ≤ 0x1AFF → (rel - 0x1800) / 32 * 32 + (rel - 0x1800) % 32 < 768
attribute_cell_in_range rel h k = omega arith

-- the border's fills end at or before the last of its 320 x 240 pixels
next_small : (place : Option BorderPixel) → Within place → (next_of place).line * screen_width + (next_of place).pixel ≤ 76800
next_small (Some p) i = omega (arith, i)
next_small None i = omega arith

pub fills_in_range : (m : ZXMachine) (t : ℕ) → (next_border_pixel m t).line * screen_width + (next_border_pixel m t).pixel ≤ 76800
fills_in_range m t = rw (border_is_lem m t) (next_small (border_at (specs_of (our_machine m)) t) (border_within (specs_of (our_machine m)) t))

-- the floating bus: the address that it reads fits 16 bits
pub floating_in_range : (row r : ℕ) → row < 192 → r < 124 → (0x4000 + line_start row + floating_column r < 65536) × (0x5800 + (row / 8 * 32 + floating_column r) < 65536)
floating_in_range row r h k = (omega arith, omega arith)

-- ---- frame_counter and passed_frames are usizes, and the definitions let them grow without end. Only new_frame raises them, by one each, so that they
-- rise together. passed_frames is 4,294,967,294 at most where a timed call is accepted, and one more after it, which 32 bits hold ..
process_counter : (m : ZXMachine) (t : ℕ) (s : ZXScreen) → (process_clocks m t s).frame_counter ≡ s.frame_counter
unfolding process_clocks
process_counter m t s =
    by_bool (λ (x : ZXScreen). x.frame_counter ≡ s.frame_counter) (ltb 0 (passed_from (from_clocks m t) s.last_blocks)) (λ e. refl) (λ e. refl)

pub counters_together : (n : ℕ) (c : ZXController)
    → (wait_internal n c).screen.frame_counter + c.passed_frames ≡ c.screen.frame_counter + (wait_internal n c).passed_frames
unfolding wait_internal new_frame
counters_together n c =
    let p = process_counter c.machine (c.frame_clocks + n) c.screen in
    by_bool (λ (x : ZXController). x.screen.frame_counter + c.passed_frames ≡ c.screen.frame_counter + x.passed_frames)
    (leb (specs c.machine).clocks_frame (c.frame_clocks + n)) (λ e. omega arith) (λ e. omega arith)

-- .. and frame_counter, which nothing sets back, counts the frames since the start. Where it starts again at 2^32 or 2^64, its value modulo 32, all that
-- the relation asks of it, is what it would have been.
pub counter_wraps : (n : ℕ) → (n % 2 ^ 32 % 32 ≡ n % 32) × (n % 2 ^ 64 % 32 ≡ n % 32)
counter_wraps n = (omega arith, omega arith)
