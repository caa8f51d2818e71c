-- The Rust's timing is document 01's, at every clock: delay, block position, border position, contended ports and pages, interrupt.
-- Assumes nothing.
use mathlib.Core.Path.{◌≡◌, refl, sym, ap, ◌∙◌}
use mathlib.Core.Bool.{Bool, true, false, cond, ◌||◌}
use mathlib.Core.List.{List}
use Prim.Native.Nat.{ℕ, ◌+◌, ◌-◌, ◌*◌, ◌/◌, ◌%◌, ◌<◌}
use native.Mathlib.Nat.{mod-eq_of_lt}
use native.Mathlib.Omega.{arith}
use lib.Dec.{ltb, leb, eqb}
use lib.ListN.{get_or}
use lib.Bits.{and_mask}
use borrow.Author.Tests.{ltb-true, ltb-false, le-leb, lt-leb}
use Rattle.machine.specs.declared.BorderPixel.{BorderPixel}
use Rattle.std.specs.Prelude.{Option, Some, None}
use Rattle.machine.specs.declared.BlocksCount as ours
use Rattle.machine.specs.declared.ZXSpecs as table
use Rattle.machine.specs.Numbers.{specs_of}
use Rattle.machine.specs.Timing.{pattern, delay, blocks_capped, blocks_from, blocks_at, border_capped, border_from, pixel_at, border_at, interrupt}
use Rattle.machine.specs.Contended.{bank_contended, port_contended}
use Rattle.machine.proofs.Why.{number_is}
use Rattle.rustzx.specs.Machine.{ZXSpecs, ZXMachine, Sinclair48K, Sinclair128K, specs, contention_clocks, port_is_contended, bank_is_contended}
use Rattle.rustzx.specs.Screen.{BlocksCount, in_canvas, in_line, from_clocks}
use Rattle.rustzx.specs.Border.{Next, clocks_origin, in_height, in_width, next_border_pixel}
use Rattle.rustzx.specs.Related.{our_machine}
use Rattle.rustzx.proofs.Asked.{SameNumbers}

-- ---- the numbers
pub numbers : (m : ZXMachine) → SameNumbers (specs m) (specs_of (our_machine m))
numbers Sinclair48K = record { line = refl; frame = refl; contention = refl; read = refl; floating = refl; origin = refl; screen_lines = refl; screen_row = refl; delays = refl; pulse = refl }
numbers Sinclair128K = record { line = refl; frame = refl; contention = refl; read = refl; floating = refl; origin = refl; screen_lines = refl; screen_row = refl; delays = refl; pulse = refl }

pub frame_is : (m : ZXMachine) → (specs m).clocks_frame ≡ (specs_of (our_machine m)).frame
frame_is m = (numbers m).frame

-- ---- delay
or_cond : {A : Type 0} (a b : Bool) (x y : A) → cond (a || b) x y ≡ cond a x (cond b x y)
or_cond true b x y = refl
or_cond false b x y = refl

delay_by : (o : table.ZXSpecs) (t first lines line row : ℕ) (delays : List ℕ) → first ≡ o.contention → lines ≡ 192 → line ≡ o.line → row ≡ 128 → delays ≡ pattern
    → cond (ltb t first || leb (first + lines * line) t) 0 (cond (leb row ((t - first) % line)) 0 (get_or delays ((t - first) % line % 8) 0)) ≡ delay o t
delay_by o t first lines line row delays p q r s u =
    rw (p, q, r, s, u) (or_cond (ltb t o.contention) (leb (o.contention + 192 * o.line) t) 0 _) ∙ sym (number_is o t)

-- contention_clocks is the delay.
pub contention_is : (m : ZXMachine) (t : ℕ) → contention_clocks m t ≡ delay (specs_of (our_machine m)) t
unfolding contention_clocks
contention_is m t =
    let n = numbers m in
    delay_by (specs_of (our_machine m)) t ((specs m).clocks_first_pixel - 1) (specs m).lines.screen (specs m).clocks.line (specs m).clocks.screen_row (specs m).contention_pattern
    n.contention n.screen_lines n.line n.screen_row n.delays

-- ---- blocks
pub record SameBlocks (b : BlocksCount) (c : ours.BlocksCount) : Type 0 where
  pub lines : b.lines ≡ c.lines
  pub columns : b.columns ≡ c.columns

pick_blocks : (t : Bool) {x y : BlocksCount} {u v : ours.BlocksCount} → SameBlocks x u → SameBlocks y v → SameBlocks (cond t x y) (cond t u v)
pick_blocks true p q = p
pick_blocks false p q = q

in_canvas_lem : (line column : ℕ) → SameBlocks (in_canvas line column) (blocks_capped line column)
unfolding blocks_capped
in_canvas_lem line column = pick_blocks (leb 192 line) (record { lines = refl; columns = refl }) (record { lines = refl; columns = refl })

in_line_lem : (line column : ℕ) → SameBlocks (in_line line column) (blocks_from line column)
unfolding blocks_from
in_line_lem line column = pick_blocks (ltb 32 column) (in_canvas_lem (line + 1) 0) (in_canvas_lem line column)

blocks_by : (o : table.ZXSpecs) (t origin line : ℕ) → origin ≡ o.block → line ≡ o.line
    → SameBlocks (cond (ltb t origin) (record { lines = 0; columns = 0 }) (in_line ((t - origin) / line) ((t - origin) % line / 4 + 1))) (blocks_at o t)
unfolding blocks_at
blocks_by o t origin line p q =
    rw (p, q)
    (pick_blocks (ltb t o.block) (record { lines = refl; columns = refl }) (in_line_lem ((t - o.block) / o.line) ((t - o.block) % o.line / 4 + 1)))

-- BlocksCount::from_clocks counts the same lines and the same columns.
pub blocks_are : (m : ZXMachine) (t : ℕ) → SameBlocks (from_clocks m t) (blocks_at (specs_of (our_machine m)) t)
unfolding from_clocks
blocks_are m t = blocks_by (specs_of (our_machine m)) t (specs m).clocks_ula_read_origin (specs m).clocks.line (numbers m).read (numbers m).line

-- ---- border
-- a place of the border as the Rust answers it: the frame's end is (0, 0) with the flag set
abbrev pub next_of : Option BorderPixel → Next
next_of (Some p) = record { line = p.line; pixel = p.pixel; frame_end = false }
next_of None = record { line = 0; pixel = 0; frame_end = true }

pick_next : (t : Bool) {x y : Next} (u v : Option BorderPixel) → x ≡ next_of u → y ≡ next_of v → cond t x y ≡ next_of (cond t u v)
pick_next true u v p q = p
pick_next false u v p q = q

in_height_lem : (line pixel : ℕ) → in_height line pixel ≡ next_of (border_capped line pixel)
unfolding border_capped
in_height_lem line pixel = pick_next (leb 240 line) None (pixel_at line pixel) refl refl

-- "pixel - 2 because we added 2": for an even pixel of at least 2, pixel - 2 >= 320 is pixel > 320
width_test : (r : ℕ) (t : Bool) → ltb 320 (2 * (r + 1)) ≡ t → leb 320 ((r + 1) * 2 - 2) ≡ t
width_test r true e = let h = ltb-true 320 (2 * (r + 1)) e in le-leb 320 ((r + 1) * 2 - 2) (omega arith)
width_test r false e = let h = ltb-false 320 (2 * (r + 1)) e in lt-leb 320 ((r + 1) * 2 - 2) (omega arith)

in_width_lem : (line r : ℕ) → in_width line ((r + 1) * 2) ≡ next_of (border_from line (2 * (r + 1)))
unfolding border_from
in_width_lem line r =
    let e : (r + 1) * 2 ≡ 2 * (r + 1) = omega arith in
    rw (width_test r (ltb 320 (2 * (r + 1))) refl, e)
    (pick_next (ltb 320 (2 * (r + 1))) (border_capped (line + 1) 0) (border_capped line (2 * (r + 1))) (in_height_lem (line + 1) 0) (in_height_lem line (2 * (r + 1))))

border_by : (o : table.ZXSpecs) (t origin line : ℕ) → origin ≡ o.border → line ≡ o.line
    → cond (ltb t origin) (record { line = 0; pixel = 0; frame_end = false }) (in_width ((t - origin) / line) (((t - origin) % line + 1) * 2)) ≡ next_of (border_at o t)
unfolding border_at
border_by o t origin line p q =
    rw (p, q)
    (pick_next (ltb t o.border) (pixel_at 0 0) (border_from ((t - o.border) / o.line) (2 * ((t - o.border) % o.line + 1))) refl
    (in_width_lem ((t - o.border) / o.line) ((t - o.border) % o.line)))

-- next_border_pixel answers the place of the border.
pub border_is_lem : (m : ZXMachine) (t : ℕ) → next_border_pixel m t ≡ next_of (border_at (specs_of (our_machine m)) t)
unfolding next_border_pixel
border_is_lem m t = border_by (specs_of (our_machine m)) t (clocks_origin (specs m)) (specs m).clocks.line (numbers m).origin (numbers m).line

-- ---- contended ports and pages
pub port_is : (m : ZXMachine) (port : ℕ) → port_is_contended m port ≡ port_contended (our_machine m) port
port_is m port = ap (λ (x : ℕ). eqb x 0) (and_mask port 1)

or_false : (t : Bool) → t || false ≡ t
or_false true = refl
or_false false = refl

pub bank_is : (m : ZXMachine) (page : ℕ) → bank_is_contended m page ≡ bank_contended (our_machine m) page
bank_is Sinclair48K page = sym (or_false (eqb page 0))
bank_is Sinclair128K page = refl

-- ---- interrupt: at every clock of the frame
pub interrupt_is : (m : ZXMachine) (t : ℕ) → t < (specs_of (our_machine m)).frame
    → ltb (t % (specs m).clocks_frame) (specs m).interrupt_length ≡ interrupt t
interrupt_is m t h = rw ((numbers m).frame, (numbers m).pulse) (ap (λ (x : ℕ). ltb x 32) (mod-eq_of_lt {n = t} {m = (specs_of (our_machine m)).frame} h))
