-- The border: each pixel has the colour last written at or before it.
-- Assumes nothing.
use Prim.Native.Nat.{ℕ, ◌+◌, ◌*◌, ◌/◌, ◌%◌, ◌≤◌, ◌<◌}
use mathlib.Core.Bool.{Bool, true, false, cond}
use mathlib.Core.List.{List, [], ◌∷◌}
use mathlib.Core.Logic.{inl, inr}
use mathlib.Core.Path.{◌≡◌, refl, sym, ◌∙◌, ap, subst}
use native.Mathlib.Omega.{arith}
use native.Mathlib.Decide.{dec_lt}
use lib.ListN.{length, get_or}
use borrow.Author.Tests.{le-leb, lt-leb, leb-true}
use Rattle.machine.specs.declared.ZXMachine.{ZXMachine}
use Rattle.machine.specs.declared.BorderPixel.{BorderPixel}
use Rattle.std.specs.Prelude.{Option, Some, None}
use Rattle.machine.specs.Numbers.{specs_of}
use Rattle.machine.specs.Timing.{border_at, place_position, border_position, is_frame_end, frame_end}
use Rattle.machine.proofs.Numbered.{regular}
use Rattle.machine.proofs.Rising.{border_mono, border_small, border_even, end_is}
use Rattle.border.specs.Edge.{Edge, filled, inked_at, inked, finished}
use Rattle.border.proofs.Fills.{length_filled, filled_none, filled_out, filled_in}
use Rattle.bus.specs.World.{Core}
use Rattle.bus.specs.Time.{lasts, Op, step, tick, colour, silent, closes, in_core, in_edge}
use Rattle.bus.proofs.OneStep.{core_closed, core_goes, edge_closed, edge_goes}
use Rattle.history.specs.Log.{Log, Ink, pixels_come, noted, last_colour, border_colour, border_of}
use Rattle.history.specs.Demand.{painted_to}
use Rattle.history.proofs.Seen.{pixels_are}
use Rattle.history.proofs.Time.{log_closed, log_goes}

never : false ≡ true → ⊥
never e = let z : ◌≡◌ {A = ℕ} 0 1 = cc in omega arith

-- the position of the last write, 0 before the first
abbrev pub top_at : List Ink → ℕ
top_at [] = 0
top_at (w ∷ ws) = w.at

-- past the last write its colour holds
past_top : (i enter : ℕ) (ws : List Ink) → top_at ws ≤ i → border_colour i enter ws ≡ last_colour enter ws
unfolding border_colour
past_top i enter [] h = refl
past_top i enter (w ∷ ws) h = rw (le-leb w.at i h)

-- a write further on does not reach back
before_top : (i enter : ℕ) (w : Ink) (ws : List Ink) → i < w.at → border_colour i enter (w ∷ ws) ≡ border_colour i enter ws
unfolding border_colour
before_top i enter w ws h = rw (lt-leb w.at i h)

-- frame end stays frame end
end_later : (m : ZXMachine) (t t' : ℕ) → t ≤ t' → frame_end (specs_of m) t ≡ true → frame_end (specs_of m) t' ≡ true
end_later m t t' h e =
    let s = specs_of m in
    let w = (regular m).wide in
    let at : s.border + 239 * s.line + 160 ≤ t = leb-true (s.border + 239 * s.line + 160) t (sym (end_is s w t) ∙ e) in
    end_is s w t' ∙ le-leb (s.border + 239 * s.line + 160) t' (omega arith)

pub record Bordered (m : ZXMachine) (c : Core) (x : Edge) (l : Log) : Type 0 where
  pub size : length x.pixels ≡ 76800
  pub colour_is : x.colour ≡ last_colour l.current.enter l.current.inks
  pub end_if : x.blocked ≡ true → frame_end (specs_of m) c.clock ≡ true
  pub behind : 2 * x.pairs ≤ border_position (specs_of m) c.clock
  pub top : top_at l.current.inks ≤ painted_to x
  pub filled_is : (i : ℕ) → i < painted_to x → get_or x.pixels i 0 ≡ border_colour i l.current.enter l.current.inks
  pub rest : (i : ℕ) → painted_to x ≤ i → i < 76800 → get_or x.pixels i 0 ≡ border_of l.done i

-- filling on from where this frame's border stands
module _ (m : ZXMachine) (c : Core) (x : Edge) (l : Log) (p : Bordered m c x l) (to : ℕ) (h : painted_to x ≤ to) (top : to ≤ 76800) where
  on : List ℕ
  on = filled (painted_to x) to x.colour x.pixels

  on_filled : (i : ℕ) → i < to → get_or on i 0 ≡ border_colour i l.current.enter l.current.inks
  unfolding on
  on_filled i q =
      let inside : to ≤ length x.pixels = omega (arith, p.size) in
      elim (dec_lt i (painted_to x)) [
        | yes r ↦ filled_out (painted_to x) to x.colour x.pixels i (inl r) h ∙ p.filled_is i r
        | no r ↦
            let r' : painted_to x ≤ i = omega arith in
            let t : top_at l.current.inks ≤ i = omega (arith, p.top) in
            filled_in (painted_to x) to x.colour x.pixels i r' q inside
            ∙ p.colour_is ∙ sym (past_top i l.current.enter l.current.inks t)
      ]

  on_rest : (i : ℕ) → to ≤ i → i < 76800 → get_or on i 0 ≡ border_of l.done i
  unfolding on
  on_rest i q r = filled_out (painted_to x) to x.colour x.pixels i (inr q) h ∙ p.rest i (omega arith) r

  on_size : length on ≡ 76800
  unfolding on
  on_size = length_filled (painted_to x) to x.colour x.pixels ∙ p.size

within : (m : ZXMachine) (c : Core) (x : Edge) (l : Log) → Bordered m c x l → (b : Bool) → x.blocked ≡ b → painted_to x ≤ 76800
within m c x l p true e = rw e (omega arith)
within m c x l p false e = rw e (omega (arith, p.behind, border_small (specs_of m) c.clock))

-- what closing leaves, blocked or not, is the border filled on to its end
finished_is : (x : Edge) (b : Bool) → x.blocked ≡ b → (finished x).pixels ≡ filled (painted_to x) 76800 x.colour x.pixels
unfolding finished
finished_is x true e = rw e (sym (filled_none 76800 76800 x.colour x.pixels (omega arith)))
finished_is x false e = rw e

-- a border write, blocked and not
abbrev recoloured : ℕ → Edge → Edge
recoloured k x = record { colour = k; blocked = x.blocked; pairs = x.pairs; pixels = x.pixels }

inked_is : (b : Option BorderPixel) (k : ℕ) (x : Edge) (t : Bool) → x.blocked ≡ t → inked b k x ≡ cond t (recoloured k x) (inked_at b k x)
unfolding inked
inked_is b k x t e = ap (λ (z : Bool). cond z (recoloured k x) (inked_at b k x)) e

module _ (m : ZXMachine) where
  bordered_tick : (n : ℕ) (c : Core) (x : Edge) (l : Log) → (b : Bool) → closes m n c ≡ b → Bordered m c x l
      → Bordered m (in_core m (tick n) c) (in_edge m (tick n) c x) (noted m (tick n) c l)
  unfolding on finished
  bordered_tick n c x l true z p =
      let k = within m c x l p x.blocked refl in
      let e = finished_is x x.blocked refl in
      rw (core_closed m n c z, log_closed m n c l z, edge_closed m n c x z)
      (record {
        size = ap length e ∙ on_size m c x l p 76800 k (omega arith);
        colour_is = p.colour_is;
        end_if = λ e. absurd (never e);
        behind = omega arith;
        top = omega arith;
        filled_is = λ i h. absurd (omega arith);
        rest = λ i h r. ap (λ (xs : List ℕ). get_or xs i 0) e ∙ on_filled m c x l p 76800 k (omega arith) i r;
      })
  bordered_tick n c x l false z p =
      rw (core_goes m n c z, log_goes m n c l z, edge_goes m n c x z)
      (record {
        size = p.size;
        colour_is = p.colour_is;
        end_if = λ e. end_later m c.clock (c.clock + n) (omega arith) (p.end_if e);
        behind = omega (arith, p.behind, border_mono (specs_of m) (regular m).wide c.clock (c.clock + n) (omega arith));
        top = p.top;
        filled_is = p.filled_is;
        rest = p.rest;
      })

  -- a border write leaves an edge as it has to be
  Wrote : ℕ → Core → Log → Edge → Type 0
  Wrote k c l e = Bordered m (in_core m (colour k) c) e (noted m (colour k) c l)

  -- a border write, by its place and by whether the border is blocked already
  module _ (k : ℕ) (c : Core) (x : Edge) (l : Log) (p : Bordered m c x l) where
    -- the pixels are those filled on to the write's position
    wrote : (q : ℕ) → border_position (specs_of m) c.clock ≡ q → painted_to x ≤ q → (e : Edge) → e.colour ≡ k
        → (e.blocked ≡ true → frame_end (specs_of m) c.clock ≡ true) → 2 * e.pairs ≤ q → painted_to e ≡ q
        → e.pixels ≡ filled (painted_to x) q x.colour x.pixels → Wrote k c l e
    unfolding Wrote in_core noted on
    wrote q at h e ec eb ep et ex =
        let come = pixels_are m c.clock in
        let t : q ≤ 76800 = omega (arith, border_small (specs_of m) c.clock) in
        record {
          size = ap length ex ∙ on_size m c x l p q h t;
          colour_is = ec;
          end_if = eb;
          behind = omega arith;
          top = omega arith;
          filled_is = λ i j. let j' : i < q = omega arith in
              ap (λ (xs : List ℕ). get_or xs i 0) ex ∙ on_filled m c x l p q h t i j'
              ∙ sym (before_top i l.current.enter (record { at = pixels_come m c.clock; colour = k }) l.current.inks (omega arith));
          rest = λ i j g. let j' : q ≤ i = omega arith in ap (λ (xs : List ℕ). get_or xs i 0) ex ∙ on_rest m c x l p q h t i j' g;
        }

    half : (n : ℕ) → n % 2 ≡ 0 → 2 * (n / 2) ≡ n
    half n e = omega arith

    open_at : (b : Option BorderPixel) → border_at (specs_of m) c.clock ≡ b → x.blocked ≡ false → Wrote k c l (inked_at b k x)
    unfolding inked_at
    open_at (Some at) e z =
        let q : ℕ = 320 * at.line + at.pixel in
        let pos : border_position (specs_of m) c.clock ≡ q = ap place_position e in
        let even : q % 2 ≡ 0 = sym (ap (λ (n : ℕ). n % 2) pos) ∙ border_even (specs_of m) c.clock in
        let from : painted_to x ≡ 2 * x.pairs = rw z in
        wrote q pos (omega (arith, p.behind)) _ refl (λ y. absurd (never y)) (omega arith) (half q even)
        (ap (λ (n : ℕ). filled n q x.colour x.pixels) (sym from))
    open_at None e z =
        let pos : border_position (specs_of m) c.clock ≡ 76800 = ap place_position e in
        let from : painted_to x ≡ 2 * x.pairs = rw z in
        wrote 76800 pos (omega (arith, p.behind)) _ refl (λ y. ap is_frame_end e) (omega arith) refl
        (ap (λ (n : ℕ). filled n 76800 x.colour x.pixels) (sym from))

    end_place : (b : Option BorderPixel) → is_frame_end b ≡ true → place_position b ≡ 76800
    end_place (Some at) e = absurd (never e)
    end_place None e = refl

    inked_by : (b : Bool) → x.blocked ≡ b → Wrote k c l (inked (border_at (specs_of m) c.clock) k x)
    inked_by true z =
        let place = border_at (specs_of m) c.clock in
        let pos : border_position (specs_of m) c.clock ≡ 76800 = end_place place (p.end_if z) in
        let from : painted_to x ≡ 76800 = rw z in
        subst (Wrote k c l) (sym (inked_is place k x true z))
        (wrote 76800 pos (omega arith) (recoloured k x) refl p.end_if
        (omega (arith, p.behind)) from
        (sym (ap (λ (n : ℕ). filled n 76800 x.colour x.pixels) from ∙ filled_none 76800 76800 x.colour x.pixels (omega arith))))
    inked_by false z =
        let place = border_at (specs_of m) c.clock in
        subst (Wrote k c l) (sym (inked_is place k x false z)) (open_at place refl z)

  -- an operation that neither takes time nor writes the border
  resting : (c c' : Core) (x : Edge) (l : Log) → c'.clock ≡ c.clock → Bordered m c x l → Bordered m c' x l
  resting c c' x l t p =
      record { size = p.size; colour_is = p.colour_is; end_if = λ e. rw t (p.end_if e); behind = rw t p.behind; top = p.top; filled_is = p.filled_is; rest = p.rest }

  pub bordered : (o : Op) (c : Core) (x : Edge) (l : Log) → Bordered m c x l
      → Bordered m (in_core m o c) (in_edge m o c x) (noted m o c l)
  unfolding in_core in_edge noted Wrote
  bordered (step h n) c x l p = bordered_tick (lasts h n) c x l (closes m (lasts h n) c) refl p
  bordered (colour k) c x l p = inked_by k c x l p x.blocked refl
  bordered (silent o) c x l p = resting c _ x l refl p
