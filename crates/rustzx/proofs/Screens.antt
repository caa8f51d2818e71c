-- The Rust's screen keeps step with document 01's: a block drawn is a block painted, a catch-up a catch-up, a closing a closing.
-- Assumes nothing.
use mathlib.Core.Path.{◌≡◌, refl, sym, ap, ◌∙◌, subst}
use mathlib.Core.Bool.{Bool, true, false, cond, not}
use mathlib.Core.List.{List}
use Prim.Native.Nat.{ℕ, zero, suc, ◌+◌, ◌-◌, ◌*◌, ◌/◌, ◌%◌, ◌^◌, ◌<◌, ◌≤◌}
use native.Mathlib.Nat.{zero-add}
use native.Mathlib.Omega.{arith}
use lib.Dec.{eqb}
use lib.ListN.{get_or, set}
use lib.Seq.{sets}
use Rattle.laws.proofs.Below.{same_bool}
use Rattle.laws.proofs.Cases.{by_lt, by_eq}
use Rattle.laws.proofs.Stores.{eight}
use Rattle.machine.specs.Numbers.{specs_of}
use Rattle.machine.specs.Timing.{block_position}
use Rattle.machine.proofs.Bounds.{blocks_small, position_small}
use Rattle.offsets.specs.Offset.{offset_of}
use Rattle.screen.specs.declared.ZXColor as picture
use Rattle.screen.specs.declared.ZXAttribute as attribute
use Rattle.screen.specs.Colour as ours
use Rattle.screen.specs.Colour.{bit, attribute_of}
use Rattle.screen.specs.Pixel.{pixel_byte, pixel_of, block_of}
use Rattle.screen.specs.Address.{attribute_offset}
use Rattle.paint.specs.Paint.{block_at, paint}
use Rattle.screen.proofs.Attributes.{pixel_of_attribute}
use Rattle.paint.proofs.Painting.{paint_none}
use Rattle.memory.specs.Paging.{bit_set, shown_page}
use Rattle.memory.specs.Memory.{ram_page}
use Rattle.bus.specs.World.{Core, Screen}
use Rattle.bus.specs.Time.{Look, flash_on, look_at, paint_from, shows_a, hidden_picture, caught_up, rewound}
use Rattle.rustzx.specs.Machine.{ZXMachine, Sinclair48K, Sinclair128K}
use Rattle.rustzx.specs.Panics.{each}
use Rattle.rustzx.specs.Colors.{active_color}
use Rattle.rustzx.specs.Screen.{BlocksCount, from_clocks, passed_from, ScreenBank, ZXScreen, pixel_state, attr_of, active_bank_of, draw_pixel, draw_block, block_index, rendered, process_clocks, new_frame}
use Rattle.rustzx.specs.Related.{our_brightness, our_attribute, our_machine, Mirrors, Mirrored, active_of, SameScreen}
use Rattle.rustzx.proofs.Loops.{each_last, each_same}
use Rattle.rustzx.proofs.Timing.{blocks_are}
use Rattle.rustzx.proofs.Helpers.{bit_set_lem, pixel_byte_is, active_is}

-- ---- one pixel
-- ((bitmap << pixel) & 0x80) != 0 is bit 7 - pixel
state_bit : (bitmap i : ℕ) → i < 8 → bitmap * 2 ^ i % 256 / 128 % 2 ≡ bitmap / 2 ^ (7 - i) % 2
state_bit bitmap zero h = omega arith
state_bit bitmap (suc zero) h = omega arith
state_bit bitmap (suc (suc zero)) h = omega arith
state_bit bitmap (suc (suc (suc zero))) h = omega arith
state_bit bitmap (suc (suc (suc (suc zero)))) h = omega arith
state_bit bitmap (suc (suc (suc (suc (suc zero))))) h = omega arith
state_bit bitmap (suc (suc (suc (suc (suc (suc zero)))))) h = omega arith
state_bit bitmap (suc (suc (suc (suc (suc (suc (suc zero))))))) h = omega arith
state_bit bitmap (suc (suc (suc (suc (suc (suc (suc (suc i)))))))) h = absurd (omega arith)

pub state_is_lem : (bitmap i : ℕ) → i < 8 → pixel_state bitmap i ≡ bit (7 - i) bitmap
state_is_lem bitmap i h = bit_set_lem 7 (bitmap * 2 ^ i % 256) ∙ ap (λ (x : ℕ). eqb x 1) (state_bit bitmap i h)

module _ (bank : ScreenBank) (page : List ℕ) (flash : Bool) (r : Mirrors bank page) where
  module _ (k : ℕ) (h : k < 6144) where
    attr_is : our_attribute (attr_of bank k) ≡ attribute_of (get_or page (attribute_offset k) 0)
    attr_is =
        let e : 0x1800 + (k / 256 * 32 + k % 32) ≡ attribute_offset k = omega arith in
        r.attributes (k / 256 * 32 + k % 32) (omega arith) ∙ rw e

    -- one pixel of a block is stored at its place, by the pixel rule
    draw_pixel_lem : (i : ℕ) → i < 8 → (q : List ℕ)
        → draw_pixel bank flash k i q ≡ set q (8 * k + i) (pixel_of (get_or page (attribute_offset k) 0) (get_or page (offset_of k) 0) flash i)
    draw_pixel_lem i l q =
        let e : k / 32 * 256 + (k % 32 * 8 + i) ≡ 8 * k + i = omega arith in
        rw (e, r.bitmap k h, state_is_lem (get_or page (offset_of k) 0) i l)
        (ap (set q (8 * k + i))
        (pixel_byte_is (active_color (attr_of bank k) (bit (7 - i) (get_or page (offset_of k) 0)) flash) (attr_of bank k).brightness
        ∙ ap (λ (c : picture.ZXColor). pixel_byte c (our_brightness (attr_of bank k).brightness)) (active_is (attr_of bank k) (bit (7 - i) (get_or page (offset_of k) 0)) flash)
        ∙ ap (λ (a : attribute.ZXAttribute). pixel_byte (ours.active_color a (bit (7 - i) (get_or page (offset_of k) 0)) flash) a.brightness) attr_is
        ∙ sym (pixel_of_attribute (get_or page (attribute_offset k) 0) (get_or page (offset_of k) 0) flash i)))

    -- and a block is its eight pixels
    abbrev pixel : ℕ → List ℕ → List ℕ
    pixel i q = set q (8 * k + i) (pixel_of (get_or page (attribute_offset k) 0) (get_or page (offset_of k) 0) flash i)

    eight_stores : (q : List ℕ) → each 0 8 pixel q ≡ sets q (8 * k) (block_at page flash k)
    unfolding each block_of
    eight_stores q = let z : 8 * k + 0 ≡ 8 * k = omega arith in rw z (eight q (8 * k) _ _ _ _ _ _ _ _)

    draw_block_lem : (q : List ℕ) → draw_block bank flash k q ≡ sets q (8 * k) (block_at page flash k)
    draw_block_lem q =
        each_same 0 8 (draw_pixel bank flash k) pixel q (λ i x l. rw (zero-add i) (draw_pixel_lem i l x)) ∙ eight_stores q

  -- THE LOOP OVER BLOCKS IS PAINTING.
  pub draws : (from n : ℕ) (q : List ℕ) → from + n ≤ 6144 → each from n (draw_block bank flash) q ≡ paint page flash from n q
  unfolding paint each
  draws from zero q h = refl
  draws from (suc n) q h =
      each_last from n (draw_block bank flash) q
      ∙ draw_block_lem (from + n) (omega arith) (each from n (draw_block bank flash) q)
      ∙ ap (λ (l : List ℕ). sets l (8 * (from + n)) (block_at page flash (from + n))) (draws from n q (omega arith))

-- ---- a catch-up
-- passed_from counts no block exactly where the position has not moved, wherever it did not go back
none_passed : (now prev : BlocksCount) → prev.columns ≤ 32 → now.columns ≤ 32 → block_index prev ≤ block_index now → passed_from now prev ≡ 0
    → block_index now ≡ block_index prev
unfolding passed_from
none_passed now prev hp hn h =
    by_lt (λ (n : ℕ). n ≡ 0 → block_index now ≡ block_index prev) now.lines prev.lines (λ l e. absurd (omega arith))
    (λ l. by_eq (λ (n : ℕ). n ≡ 0 → block_index now ≡ block_index prev) now.lines prev.lines
    (λ q e. omega arith) (λ q e. omega arith))

-- a catch-up leaves the shown picture alone, and paints the hidden one
shown_kept : (l : Look) (t : Bool) (w : Screen) → cond t (caught_up l t w).a (caught_up l t w).b ≡ cond t w.a w.b
unfolding caught_up
shown_kept l true w = refl
shown_kept l false w = refl

hidden_painted : (l : Look) (t : Bool) (w : Screen) → cond t (caught_up l t w).b (caught_up l t w).a ≡ paint_from l w.painted (cond t w.b w.a)
unfolding caught_up
hidden_painted l true w = refl
hidden_painted l false w = refl

-- the active bank mirrors the shown page
mirrors_by : (t : Bool) (b0 b1 : ScreenBank) (ram : List ℕ) → Mirrors b0 (ram_page 5 ram) → Mirrors b1 (ram_page 7 ram)
    → Mirrors (cond (eqb (cond t 1 0) 0) b0 b1) (ram_page (cond t 7 5) ram)
mirrors_by true b0 b1 ram p q = q
mirrors_by false b0 b1 ram p q = p

pub active_mirrors : (m : ZXMachine) (s : ZXScreen) (paging : ℕ) (ram : List ℕ) → s.active_bank ≡ active_of m paging → Mirrored m s.bank0 s.bank1 ram
    → Mirrors (active_bank_of s) (ram_page (shown_page (our_machine m) paging) ram)
active_mirrors Sinclair48K s paging ram e r =
    subst (λ (n : ℕ). Mirrors (cond (eqb n 0) s.bank0 s.bank1) (ram_page 0 ram)) (sym e) r
active_mirrors Sinclair128K s paging ram e r =
    subst (λ (n : ℕ). Mirrors (cond (eqb n 0) s.bank0 s.bank1) (ram_page (shown_page (our_machine Sinclair128K) paging) ram)) (sym e)
    (mirrors_by (bit_set 3 paging) s.bank0 s.bank1 ram r.0 r.1)

module _ (m : ZXMachine) (clk : ℕ) where
  index_is : block_index (from_clocks m clk) ≡ block_position (specs_of (our_machine m)) clk
  index_is = let e = blocks_are m clk in omega (arith, e.lines, e.columns)

  columns_small : (from_clocks m clk).columns ≤ 32
  columns_small = omega (arith, (blocks_are m clk).columns, (blocks_small (specs_of (our_machine m)) clk).in_columns)

  module _ (s : ZXScreen) (c : Core) (w : Screen) (r : SameScreen m s c w) (h : w.painted ≤ block_position (specs_of (our_machine m)) clk) where
    abbrev look : Look
    look = look_at (our_machine m) clk c

    drawn_is : (from to : ℕ) (flash : Bool) (q p : List ℕ) → from ≡ w.painted → to ≡ look.at → flash ≡ look.flash → q ≡ p
        → each from (to - from) (draw_block (active_bank_of s) flash) q ≡ paint_from look w.painted p
    drawn_is from to flash q p e f g i =
        rw (e, f, g, i)
        (draws (active_bank_of s) (ram_page look.page look.ram) look.flash (active_mirrors m s c.paging c.ram r.active r.mirrored)
        w.painted (look.at - w.painted) p (omega (arith, position_small (specs_of (our_machine m)) clk)))

    moved : SameScreen m (rendered (from_clocks m clk) s) c (caught_up look (shows_a c.phase) w)
    unfolding caught_up
    moved =
        record {
          position = index_is;
          columns = columns_small;
          counter = r.counter;
          flash = r.flash;
          shown = r.shown ∙ sym (shown_kept look (shows_a c.phase) w);
          hidden =
              drawn_is (block_index s.last_blocks) (block_index (from_clocks m clk)) s.flash s.back_buffer (hidden_picture c w)
              r.position index_is r.flash r.hidden
              ∙ sym (hidden_painted look (shows_a c.phase) w);
          active = r.active;
          mirrored = r.mirrored;
        }

    stayed : passed_from (from_clocks m clk) s.last_blocks ≡ 0 → SameScreen m s c (caught_up look (shows_a c.phase) w)
    unfolding caught_up
    stayed e =
        let back : block_index s.last_blocks ≤ block_index (from_clocks m clk) = omega (arith, index_is, r.position) in
        let still : look.at ≡ w.painted =
        sym index_is ∙ none_passed (from_clocks m clk) s.last_blocks r.columns columns_small back e ∙ r.position in
        record {
          position = r.position ∙ sym still;
          columns = r.columns;
          counter = r.counter;
          flash = r.flash;
          shown = r.shown ∙ sym (shown_kept look (shows_a c.phase) w);
          hidden =
              r.hidden
              ∙ sym (hidden_painted look (shows_a c.phase) w
              ∙ paint_none (ram_page look.page look.ram) look.flash w.painted look.at (hidden_picture c w) (omega arith));
          active = r.active;
          mirrored = r.mirrored;
        }

    -- process_clocks is a catch-up.
    pub process_is : SameScreen m (process_clocks m clk s) c (caught_up look (shows_a c.phase) w)
    unfolding process_clocks
    process_is =
        by_lt (λ (x : ZXScreen). SameScreen m x c (caught_up look (shows_a c.phase) w)) 0 (passed_from (from_clocks m clk) s.last_blocks)
        (λ l. moved) (λ l. stayed (omega arith))

-- ---- the screen looks at phase, 7FFD byte and RAM of the core, and at nothing else
abbrev pub with_banks : ScreenBank → ScreenBank → ZXScreen → ZXScreen
with_banks x y s =
    record { last_blocks = s.last_blocks; flash = s.flash; frame_counter = s.frame_counter; buffer = s.buffer; back_buffer = s.back_buffer; bank0 = x; bank1 = y; active_bank = s.active_bank }

-- banks that mirror the core's RAM can take the place of a screen's own
pub banks_screen : (m : ZXMachine) (x y : ScreenBank) (s : ZXScreen) (c c' : Core) (w : Screen) → SameScreen m s c w
    → c'.phase ≡ c.phase → c'.paging ≡ c.paging → Mirrored m x y c'.ram → SameScreen m (with_banks x y s) c' w
banks_screen m x y s c c' w r p q mi =
    record {
      position = r.position;
      columns = r.columns;
      counter = r.counter ∙ sym p;
      flash = r.flash ∙ ap flash_on (sym p);
      shown = r.shown ∙ ap (λ (n : ℕ). cond (shows_a n) w.a w.b) (sym p);
      hidden = r.hidden ∙ ap (λ (n : ℕ). cond (shows_a n) w.b w.a) (sym p);
      active = r.active ∙ ap (active_of m) (sym q);
      mirrored = mi;
    }

pub same_core : (m : ZXMachine) (s : ZXScreen) (c c' : Core) (w : Screen) → SameScreen m s c w
    → c'.phase ≡ c.phase → c'.paging ≡ c.paging → c'.ram ≡ c.ram → SameScreen m s c' w
same_core m s c c' w r p q u =
    banks_screen m s.bank0 s.bank1 s c c' w r p q (subst (Mirrored m s.bank0 s.bank1) (sym u) r.mirrored)

-- ---- a closing
-- flash after n closings: switched at each multiple of 16, so on in phases 1 to 16
flash_next : (phase : ℕ) → phase < 32 → cond (eqb (phase % 16) 0) (not (flash_on phase)) (flash_on phase) ≡ flash_on ((phase + 1) % 32)
flash_next = same_bool (λ p. cond (eqb (p % 16) 0) (not (flash_on p)) (flash_on p)) (λ p. flash_on ((p + 1) % 32)) 32 tt

turn_next : (phase : ℕ) → phase < 32 → shows_a ((phase + 1) % 32) ≡ not (shows_a phase)
turn_next = same_bool (λ p. shows_a ((p + 1) % 32)) (λ p. not (shows_a p)) 32 tt

swapped : {A : Type 0} (t : Bool) (x y : A) → cond (not t) x y ≡ cond t y x
swapped true x y = refl
swapped false x y = refl

pub new_frame_screen : (m : ZXMachine) (s : ZXScreen) (c c' : Core) (w : Screen) → SameScreen m s c w → c.phase < 32
    → c'.phase ≡ (c.phase + 1) % 32 → c'.paging ≡ c.paging → c'.ram ≡ c.ram → SameScreen m (new_frame s) c' (rewound w)
unfolding new_frame
new_frame_screen m s c c' w r h p q u =
    let t : shows_a c'.phase ≡ not (shows_a c.phase) = ap shows_a p ∙ turn_next c.phase h in
    let n : s.frame_counter % 16 ≡ c.phase % 16 = omega (arith, r.counter) in
    record {
      position = refl;
      columns = omega arith;
      counter = omega (arith, r.counter, p);
      flash = rw (n, r.flash) (flash_next c.phase h ∙ ap flash_on (sym p));
      shown = r.hidden ∙ sym (ap (λ (b : Bool). cond b w.a w.b) t ∙ swapped (shows_a c.phase) w.a w.b);
      hidden = r.shown ∙ sym (ap (λ (b : Bool). cond b w.b w.a) t ∙ swapped (shows_a c.phase) w.b w.a);
      active = r.active ∙ ap (active_of m) (sym q);
      mirrored = subst (Mirrored m s.bank0 s.bank1) (sym u) r.mirrored;
    }
