-- The Rust's border keeps step with document 01's.
-- Assumes nothing.
use mathlib.Core.Path.{◌≡◌, refl, sym, ap, ◌∙◌}
use mathlib.Core.Bool.{Bool, true, false, cond, not, false≢true}
use mathlib.Core.List.{List}
use Prim.Native.Nat.{ℕ, zero, suc, ◌+◌, ◌-◌, ◌*◌}
use native.Mathlib.Omega.{arith}
use lib.ListN.{set, replicate}
use lib.Seq.{sets}
use Rattle.laws.proofs.Cases.{by_bool}
use Rattle.machine.specs.declared.BorderPixel.{BorderPixel}
use Rattle.std.specs.Prelude.{Option, Some, None}
use Rattle.machine.specs.Numbers.{specs_of}
use Rattle.machine.specs.Timing.{border_at, is_frame_end}
use Rattle.machine.proofs.Bounds.{Within, border_within}
use Rattle.border.specs.Edge.{Edge, filled, inked, inked_at, finished}
use Rattle.border.proofs.Fills.{filled_none}
use Rattle.rustzx.specs.Machine.{ZXMachine}
use Rattle.rustzx.specs.Panics.{each}
use Rattle.rustzx.specs.Colors.{ZXColor, color_byte}
use Rattle.rustzx.specs.Border.{BeamInfo, ZXBorder, screen_width, pixel_index, fill_to, reset, whole, new_frame, set_at, set_border}
use Rattle.rustzx.specs.Related.{our_machine, SameBorder}
use Rattle.rustzx.proofs.Timing.{next_of, border_is_lem}

-- ---- a fill
fill_run : (from n v : ℕ) (buffer : List ℕ) → each from n (λ p pixels. set pixels (pixel_index p) v) buffer ≡ sets buffer from (replicate n v)
unfolding each
fill_run from zero v buffer = refl
fill_run from (suc n) v buffer =
    let e : pixel_index from ≡ from = omega arith in
    rw e (fill_run (suc from) n v (set buffer from v))

-- where the beam stands
abbrev beam_at : BeamInfo → ℕ
beam_at b = b.line * screen_width + b.pixel

-- fill_to fills the pixels from the beam to a place, in the beam's colour.
pub fill_is : (line pixel : ℕ) (b : BeamInfo) (buffer : List ℕ)
    → fill_to line pixel b buffer ≡ filled (beam_at b) (line * screen_width + pixel) (color_byte b.color) buffer
unfolding filled
fill_is line pixel b buffer = fill_run (beam_at b) (line * screen_width + pixel - beam_at b) (color_byte b.color) buffer

filled_at : (from from' to v v' : ℕ) (px px' : List ℕ) → from ≡ from' → v ≡ v' → px ≡ px' → filled from to v px ≡ filled from' to v' px'
filled_at from from' to v v' px px' p q r = cc

-- ---- closing
-- what `if !border_changed` leaves: the beam where it stood, in its colour
whole_at : (b : ZXBorder) (pairs : ℕ) (t : Bool) → beam_at b.beam_last ≡ 2 * pairs → (t ≡ false → pairs ≡ 0)
    → beam_at (cond (not t) (reset b.beam_last) b.beam_last) ≡ 2 * pairs
whole_at b pairs true p f = p
whole_at b pairs false p f = rw (f refl)

whole_colour : (b : ZXBorder) (t : Bool) → (cond (not t) (reset b.beam_last) b.beam_last).color ≡ b.beam_last.color
whole_colour b true = refl
whole_colour b false = refl

closed_pixels : (t t' : Bool) {x y x' y' : List ℕ} → t ≡ t' → x ≡ x' → y ≡ y' → cond (not t) x y ≡ cond t' y' x'
closed_pixels true true e p q = q
closed_pixels true false e p q = absurd (false≢true (sym e))
closed_pixels false true e p q = absurd (false≢true e)
closed_pixels false false e p q = p

-- new_frame finishes the border.
pub new_frame_border : (b : ZXBorder) (e : Edge) → SameBorder b e → SameBorder (new_frame b) (finished e)
unfolding new_frame finished
new_frame_border b e r =
    record {
      pixels = closed_pixels b.beam_block e.blocked r.blocked
          (fill_is 239 320 (whole b) b.buffer
          ∙ filled_at (beam_at (whole b)) (2 * e.pairs) 76800 (color_byte (whole b).color) e.colour b.buffer e.pixels
          (whole_at b e.pairs b.border_changed r.beam r.unchanged)
          (ap color_byte (whole_colour b b.border_changed) ∙ r.colour) r.pixels)
          r.pixels;
      beam = refl;
      colour = ap color_byte (whole_colour b b.border_changed) ∙ r.colour;
      blocked = refl;
      unchanged = λ f. refl;
    }

-- BORDER_CHANGED CHANGES NO PIXEL: with the flag forced up, so that the Rust's `if !self.border_changed` never acts, a closing leaves the same
-- buffer, the same beam and the same flags.
abbrev pub forced : ZXBorder → ZXBorder
forced b = record { buffer = b.buffer; beam_last = b.beam_last; border_changed = true; beam_block = b.beam_block }

at_start_lem : (line pixel pairs : ℕ) → line * screen_width + pixel ≡ 2 * pairs → pairs ≡ 0 → (line ≡ 0) × (pixel ≡ 0)
at_start_lem line pixel pairs p q = (omega arith, omega arith)

whole_same : (b : ZXBorder) (pairs : ℕ) (t : Bool) → beam_at b.beam_last ≡ 2 * pairs → (t ≡ false → pairs ≡ 0)
    → cond (not t) (reset b.beam_last) b.beam_last ≡ b.beam_last
whole_same b pairs true p f = refl
whole_same b pairs false p f =
    let z = at_start_lem b.beam_last.line b.beam_last.pixel pairs p (f refl) in
    at_zero b.beam_last.line b.beam_last.pixel b.beam_last.color z.0 z.1 where
      at_zero : (line pixel : ℕ) (c : ZXColor) → line ≡ 0 → pixel ≡ 0
          → ◌≡◌ {A = BeamInfo} (record { line = 0; pixel = 0; color = c }) (record { line = line; pixel = pixel; color = c })
      at_zero line pixel c p q = rw (p, q)

pub flag_is_idle : (b : ZXBorder) (e : Edge) → SameBorder b e → new_frame b ≡ new_frame (forced b)
unfolding new_frame
flag_is_idle b e r =
    ap (λ (x : BeamInfo). record {
      buffer = cond (not b.beam_block) (fill_to 239 320 x b.buffer) b.buffer;
      beam_last = reset x;
      border_changed = false;
      beam_block = false;
    }) (whole_same b e.pairs b.border_changed r.beam r.unchanged)

-- ---- a border write
module _ (color : ZXColor) (k : ℕ) (b : ZXBorder) (e : Edge) (r : SameBorder b e) (ink : color_byte color ≡ k) where
  fill_to_lem : (line pixel to : ℕ) → line * screen_width + pixel ≡ to
      → fill_to line pixel b.beam_last b.buffer ≡ filled (2 * e.pairs) to e.colour e.pixels
  fill_to_lem line pixel to p =
      fill_is line pixel b.beam_last b.buffer
      ∙ rw p (filled_at (beam_at b.beam_last) (2 * e.pairs) to (color_byte b.beam_last.color) e.colour b.buffer e.pixels r.beam r.colour r.pixels)

  -- to (0, 0) there is nothing to fill
  fill_back : (px : List ℕ) → fill_to 0 0 b.beam_last px ≡ px
  fill_back px = fill_is 0 0 b.beam_last px ∙ filled_none (beam_at b.beam_last) 0 (color_byte b.beam_last.color) px (omega arith)

  write_open : (place : Option BorderPixel) → Within place → b.beam_block ≡ false → SameBorder (set_at (next_of place) color b) (inked_at place k e)
  unfolding inked_at
  write_open (Some p) i f =
      rw f
      (record {
        pixels = fill_to_lem p.line p.pixel (320 * p.line + p.pixel) (omega arith);
        beam = omega (arith, i);
        colour = ink;
        blocked = refl;
        unchanged = λ g. absurd (false≢true (sym g));
      })
  write_open None i f =
      rw f
      (record {
        pixels = fill_back (fill_to 239 320 b.beam_last b.buffer) ∙ fill_to_lem 239 320 76800 refl;
        beam = refl;
        colour = ink;
        blocked = refl;
        unchanged = λ g. absurd (false≢true (sym g));
      })

  -- where the beam is blocked, at frame end and with pairs 0, only the colour changes
  write_blocked : (place : Option BorderPixel) → is_frame_end place ≡ true → e.pairs ≡ 0 → b.beam_block ≡ true
      → SameBorder (set_at (next_of place) color b) (record { colour = k; blocked = e.blocked; pairs = e.pairs; pixels = e.pixels })
  write_blocked (Some p) end none f = absurd (false≢true end)
  write_blocked None end none f =
      rw f
      (record {
        pixels = r.pixels;
        beam = rw none;
        colour = ink;
        blocked = sym f ∙ r.blocked;
        unchanged = λ g. none;
      })

  by_block : (place : Option BorderPixel) → Within place → (e.blocked ≡ true → is_frame_end place ≡ true) → (e.blocked ≡ true → e.pairs ≡ 0)
      → SameBorder (set_at (next_of place) color b) (inked place k e)
  unfolding inked
  by_block place i end none =
      by_bool (SameBorder (set_at (next_of place) color b)) e.blocked
      (λ f. write_blocked place (end f) (none f) (r.blocked ∙ f)) (λ f. write_open place i (r.blocked ∙ f))

-- set_border is a border write: at every clock, on a beam that is blocked only at frame end and with pairs 0.
pub set_border_is : (m : ZXMachine) (clock k : ℕ) (color : ZXColor) (b : ZXBorder) (e : Edge) → SameBorder b e → color_byte color ≡ k
    → (e.blocked ≡ true → is_frame_end (border_at (specs_of (our_machine m)) clock) ≡ true) → (e.blocked ≡ true → e.pairs ≡ 0)
    → SameBorder (set_border m clock color b) (inked (border_at (specs_of (our_machine m)) clock) k e)
unfolding set_border
set_border_is m clock k color b e r ink end none =
    rw (border_is_lem m clock)
    (by_block color k b e r ink (border_at (specs_of (our_machine m)) clock) (border_within (specs_of (our_machine m)) clock) end none)
