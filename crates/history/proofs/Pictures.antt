-- The pictures: what the catch-ups of the frames leave in A and B.
-- Assumes nothing.
use Prim.Native.Nat.{ℕ, ◌+◌, ◌-◌, ◌*◌, ◌%◌, ◌≤◌}
use mathlib.Core.Bool.{Bool, true, false, not, cond}
use mathlib.Core.List.{List, [], ◌∷◌, ◌++◌, append_assoc, append-nil}
use mathlib.Core.Path.{◌≡◌, refl, sym, ◌∙◌, ap}
use native.Mathlib.Omega.{arith}
use native.Mathlib.Decide.{ℕ_discrete}
use lib.Dec.{eqb}
use lib.ListN.{length, drop, length-append, length-drop, drop_of_length-le}
use lib.Seq.{take_at, drop-append-add, drop-drop}
use borrow.Author.Tests.{eq-eqb, ne_eqb}
use Rattle.machine.specs.declared.ZXMachine.{ZXMachine}
use Rattle.machine.specs.Numbers.{specs_of}
use Rattle.machine.specs.Timing.{block_position}
use Rattle.machine.proofs.Numbered.{regular}
use Rattle.machine.proofs.Bounds.{position_small}
use Rattle.machine.proofs.Rising.{blocks_mono, blocks_at_end}
use Rattle.paint.proofs.Painting.{paint_splice, length_blocks}
use Rattle.memory.specs.Memory.{ram_page}
use Rattle.bus.specs.World.{Core, Screen, World}
use Rattle.bus.specs.Time.{lasts, Op, step, tick, colour, silent, Look, paint_from, shows_a, shown_picture, hidden_picture, caught_up, closes, wrapped, in_core, rewound, in_screen}
use Rattle.bus.specs.Turns.{blocks_of}
use Rattle.bus.proofs.OneStep.{closes_at, goes_on_at, core_closed, core_goes}
use Rattle.history.specs.Log.{Log, Sight, sight_at, noted, drawn, drawn_by, last_at, newest, older, Rising}
use Rattle.history.proofs.Time.{log_closed, log_goes}
use Rattle.history.proofs.Seen.{look_of, come_is, screen_ends, screen_on}

-- painting behind what is drawn already: it grows, and the rest stays
pub paint_on : (e : Sight) (p : ℕ) (front old : List ℕ) → length front ≡ 8 * p → p ≤ e.at → 8 * e.at ≤ length old
    → paint_from (look_of e) p (front ++ drop (8 * p) old) ≡ (front ++ drawn_by e p) ++ drop (8 * e.at) old
paint_on e p front old size h room =
    let far : 8 * e.at ≡ length front + (8 * e.at - 8 * p) = omega arith in
    let near : 8 * p + (8 * e.at - 8 * p) ≡ 8 * e.at = omega arith in
    let to : p + (e.at - p) ≡ e.at = omega arith in
    let rest : drop (8 * e.at) (front ++ drop (8 * p) old) ≡ drop (8 * e.at) old =
    ap (λ (n : ℕ). drop n (front ++ drop (8 * p) old)) far
    ∙ drop-append-add front (drop (8 * p) old) (8 * e.at - 8 * p)
    ∙ drop-drop (8 * e.at - 8 * p) (8 * p) old
    ∙ ap (λ (n : ℕ). drop n old) near in
    let fits : 8 * (p + (e.at - p)) ≤ length (front ++ drop (8 * p) old) = rw (to, length-append, length-drop) (omega arith) in
    paint_splice (ram_page e.page e.ram) e.flash p (e.at - p) (front ++ drop (8 * p) old) fits
    ∙ rw (to, take_at front (drop (8 * p) old) (8 * p) size, rest) (sym (append_assoc front (drawn_by e p) (drop (8 * e.at) old)))

-- a catch-up paints the hidden picture and leaves the shown one
pub hidden_caught : (t : Bool) (e : Look) (s : Screen) → cond t (caught_up e t s).b (caught_up e t s).a ≡ paint_from e s.painted (cond t s.b s.a)
unfolding caught_up
hidden_caught true e s = refl
hidden_caught false e s = refl

pub shown_caught : (t : Bool) (e : Look) (s : Screen) → cond t (caught_up e t s).a (caught_up e t s).b ≡ cond t s.a s.b
unfolding caught_up
shown_caught true e s = refl
shown_caught false e s = refl

-- the parity of the phase turns when a frame closes
turns : (p : ℕ) → eqb ((p + 1) % 32 % 2) 0 ≡ not (eqb (p % 2) 0)
turns p =
    elim (ℕ_discrete (p % 2) 0) [
      | yes e ↦ rw (eq-eqb (p % 2) 0 e, ne_eqb ((p + 1) % 32 % 2) 0 (λ z. omega arith))
      | no f ↦ rw (ne_eqb (p % 2) 0 f, eq-eqb ((p + 1) % 32 % 2) 0 (omega arith))
    ]

cond_not : {A : Type 0} (t : Bool) (x y : A) → cond (not t) x y ≡ cond t y x
cond_not true x y = refl
cond_not false x y = refl

module _ (m : ZXMachine) (n : ℕ) (c : Core) (s : Screen) where
  pub shown_turned : shown_picture (wrapped m n c) s ≡ hidden_picture c s
  shown_turned = rw (turns c.phase) (cond_not (eqb (c.phase % 2) 0) s.a s.b)

  pub hidden_turned : hidden_picture (wrapped m n c) s ≡ shown_picture c s
  hidden_turned = rw (turns c.phase) (cond_not (eqb (c.phase % 2) 0) s.b s.a)

-- B blocks so far
pub record Painted (m : ZXMachine) (B : ℕ) (c : Core) (s : Screen) (l : Log) : Type 0 where
  pub at_last : s.painted ≡ last_at l.current.sights
  pub so_far : s.painted ≤ block_position (specs_of m) c.clock
  pub sum : B ≡ length l.done * 6144 + s.painted
  pub rising : Rising l.current.sights
  pub size : length (drawn l.current.sights) ≡ 8 * s.painted
  pub hidden_is : hidden_picture c s ≡ drawn l.current.sights ++ drop (8 * s.painted) (older l.done)
  pub shown_is : shown_picture c s ≡ newest l.done
  pub newest_size : length (newest l.done) ≡ 49152
  pub older_size : length (older l.done) ≡ 49152

-- one catch-up, before anything closes
module _ (m : ZXMachine) (e : Sight) (B : ℕ) (c : Core) (s : Screen) (l : Log) (p : Painted m B c s l) (later : s.painted ≤ e.at) (last : e.at ≤ 6144) where
  drawn_next : drawn (e ∷ l.current.sights) ≡ drawn l.current.sights ++ drawn_by e s.painted
  unfolding drawn
  drawn_next = ap (λ (q : ℕ). drawn l.current.sights ++ drawn_by e q) (sym p.at_last)

  drawn_size : length (drawn (e ∷ l.current.sights)) ≡ 8 * e.at
  drawn_size =
      rw (drawn_next, length-append (drawn l.current.sights) (drawn_by e s.painted), length_blocks (ram_page e.page e.ram) e.flash s.painted (e.at - s.painted))
      (omega (arith, later, p.size))

  hidden_next : hidden_picture c (caught_up (look_of e) (shows_a c.phase) s) ≡ drawn (e ∷ l.current.sights) ++ drop (8 * e.at) (older l.done)
  hidden_next =
      hidden_caught (shows_a c.phase) (look_of e) s
      ∙ ap (paint_from (look_of e) s.painted) p.hidden_is
      ∙ paint_on e s.painted (drawn l.current.sights) (older l.done) p.size later (omega (arith, p.older_size))
      ∙ ap (λ (x : List ℕ). x ++ drop (8 * e.at) (older l.done)) (sym drawn_next)

  shown_next : shown_picture c (caught_up (look_of e) (shows_a c.phase) s) ≡ newest l.done
  shown_next = shown_caught (shows_a c.phase) (look_of e) s ∙ p.shown_is

module _ (m : ZXMachine) where
  painted_tick : (n B : ℕ) (c : Core) (s : Screen) (l : Log) → (b : Bool) → closes m n c ≡ b → Painted m B c s l
      → Painted m (B + (block_position (specs_of m) (c.clock + n) - s.painted)) (in_core m (tick n) c) (in_screen m (tick n) c s) (noted m (tick n) c l)
  unfolding caught_up drawn
  painted_tick n B c s l true z p =
      let g = regular m in
      let k = closes_at m n c z in
      let e = sight_at m (c.clock + n) c in
      let at : e.at ≡ block_position (specs_of m) (c.clock + n) = come_is m (c.clock + n) in
      let later : s.painted ≤ e.at = omega (arith, p.so_far, blocks_mono (specs_of m) g.wide c.clock (c.clock + n) (omega arith)) in
      let last : e.at ≤ 6144 = omega (arith, position_small (specs_of m) (c.clock + n)) in
      let whole : e.at ≡ 6144 = at ∙ blocks_at_end (specs_of m) g (c.clock + n) (omega arith) in
      let size = drawn_size m e B c s l p later last in
      let full : drop (8 * e.at) (older l.done) ≡ [] = drop_of_length-le (older l.done) {i = 8 * e.at} (omega (arith, p.older_size)) in
      let caught : Screen = caught_up (look_of e) (shows_a c.phase) s in
      rw (core_closed m n c z, log_closed m n c l z, screen_ends m n c s z)
      (record {
        at_last = refl;
        so_far = omega arith;
        sum = omega arith;
        rising = tt;
        size = refl;
        hidden_is = hidden_turned m n c (rewound caught) ∙ shown_next m e B c s l p later last;
        shown_is =
            shown_turned m n c (rewound caught)
            ∙ hidden_next m e B c s l p later last
            ∙ ap (λ (x : List ℕ). drawn (e ∷ l.current.sights) ++ x) full
            ∙ append-nil (drawn (e ∷ l.current.sights));
        newest_size = omega arith;
        older_size = p.newest_size;
      })
  painted_tick n B c s l false z p =
      let g = regular m in
      let k = goes_on_at m n c z in
      let e = sight_at m (c.clock + n) c in
      let at : e.at ≡ block_position (specs_of m) (c.clock + n) = come_is m (c.clock + n) in
      let later : s.painted ≤ e.at = omega (arith, p.so_far, blocks_mono (specs_of m) g.wide c.clock (c.clock + n) (omega arith)) in
      let last : e.at ≤ 6144 = omega (arith, position_small (specs_of m) (c.clock + n)) in
      rw (core_goes m n c z, log_goes m n c l z, screen_on m n c s z)
      (record {
        at_last = refl;
        so_far = omega arith;
        sum = omega arith;
        rising = (omega (arith, p.at_last), p.rising);
        size = drawn_size m e B c s l p later last;
        hidden_is = hidden_next m e B c s l p later last;
        shown_is = shown_next m e B c s l p later last;
        newest_size = p.newest_size;
        older_size = p.older_size;
      })

  -- an operation that takes no time draws nothing
  resting : (B : ℕ) (c c' : Core) (s : Screen) (l l' : Log) → c'.clock ≡ c.clock → c'.phase ≡ c.phase → l'.current.sights ≡ l.current.sights
      → l'.done ≡ l.done → Painted m B c s l → Painted m (B + 0) c' s l'
  resting B c c' s l l' t f k d p =
      record {
        at_last = rw k p.at_last;
        so_far = rw t p.so_far;
        sum = rw d (omega (arith, p.sum));
        rising = rw k p.rising;
        size = rw k p.size;
        hidden_is = rw (k, d, f) p.hidden_is;
        shown_is = rw (d, f) p.shown_is;
        newest_size = rw d p.newest_size;
        older_size = rw d p.older_size;
      }

  pub painted_kept : (o : Op) (B : ℕ) (w : World) (l : Log) → Painted m B w.core w.screen l
      → Painted m (B + blocks_of m o w) (in_core m o w.core) (in_screen m o w.core w.screen) (noted m o w.core l)
  unfolding blocks_of in_core in_screen noted
  painted_kept (step k n) B w l p = painted_tick (lasts k n) B w.core w.screen l (closes m (lasts k n) w.core) refl p
  painted_kept (colour k) B w l p = resting B w.core _ w.screen l _ refl refl refl refl p
  painted_kept (silent o) B w l p = resting B w.core _ w.screen l _ refl refl refl refl p
