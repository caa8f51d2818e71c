-- A position is reached exactly when the clock of its last block, or of its last pixel pair, has come, over any regular numbers.
-- That clock is a sum with no division by the line, so whether a position is reached is asked without working out the position.
-- Assumes nothing.
use mathlib.Core.Path.{◌≡◌, refl, sym, ◌∙◌}
use Prim.Native.Nat.{ℕ, zero, suc, ◌+◌, ◌-◌, ◌*◌, ◌/◌, ◌%◌, ◌<◌, ◌≤◌, ◌^◌}
use native.Mathlib.Nat.{suc-mul, mul-suc, mul-le-mul_right, div-lt_iff_lt-mul, div-add-mod, mod-lt, mul-one}
use native.Mathlib.Omega.{arith}
use borrow.Author.Tests.{le-leb, lt-leb}
use lib.Dec.{leb}
use Rattle.laws.proofs.Cases.{split}
use Rattle.machine.specs.declared.ZXSpecs.{ZXSpecs}
use Rattle.machine.specs.Numbers.{Regular}
use Rattle.machine.specs.Timing.{block_position, border_position}
use Rattle.machine.specs.Pages.{ticks, passed}
use Rattle.machine.specs.Paces.{Paced, come}
use Rattle.machine.proofs.Agree.{ticks_before, ticks_all, passed_before, blocks_are, pairs_are}

-- two tests that pass together and fail together
alike : (x y u v : ℕ) → (u ≤ v → x ≤ y) → (v < u → y < x) → leb x y ≡ leb u v
alike x y u v f g = split u v (λ h. le-leb x y (f h) ∙ sym (le-leb u v h)) (λ h. lt-leb x y (g h) ∙ sym (lt-leb u v h))

-- ---- of the moments of a line, moment b has come from its clock on, and not before
ticks_come : (n step start t b : ℕ) → b < n → start + b * step ≤ t → b < ticks n step start t
unfolding ticks
ticks_come zero step start t b h l = let z : ⊥ = omega arith in absurd z
ticks_come (suc n) step start t zero h l = simp (le-leb start t (omega arith)) (omega arith)
ticks_come (suc n) step start t (suc b) h l =
    let i = ticks_come n step (start + step) t b (omega arith) (omega (arith, suc-mul b step)) in
    simp (le-leb start t (omega arith)) (omega arith)

ticks_due : (n step start t b : ℕ) → t < start + b * step → ticks n step start t ≤ b
unfolding ticks
ticks_due zero step start t b l = omega arith
ticks_due (suc n) step start t zero l = omega (arith, ticks_before (suc n) step start t (omega arith))
ticks_due (suc n) step start t (suc b) l =
    let i = ticks_due n step (start + step) t b (omega (arith, suc-mul b step)) in
    split start t (λ h. simp (le-leb start t h) (omega arith)) (λ h. simp (lt-leb start t h) (omega arith))

ticks_few : (n step start t : ℕ) → ticks n step start t ≤ n
unfolding ticks
ticks_few zero step start t = omega arith
ticks_few (suc n) step start t =
    let i = ticks_few n step (start + step) t in
    split start t (λ h. simp (le-leb start t h) (omega arith)) (λ h. simp (lt-leb start t h) (omega arith))

passed_few : (k n step line start t : ℕ) → passed k n step line start t ≤ k * n
unfolding passed
passed_few zero n step line start t = omega arith
passed_few (suc k) n step line start t = omega (arith, suc-mul k n, ticks_few n step start t, passed_few k n step line (start + line) t)

-- ---- the same of moment b of line a
passed_come : (k n step line start t a b : ℕ) → 0 < step → n * step ≤ line → a < k → b < n → start + a * line + b * step ≤ t
    → n * a + b < passed k n step line start t
unfolding passed
passed_come zero n step line start t a b p w h g l = let z : ⊥ = omega arith in absurd z
passed_come (suc k) n step line start t zero b p w h g l = omega (arith, ticks_come n step start t b g (omega arith))
passed_come (suc k) n step line start t (suc a) b p w h g l =
    omega (arith, mul-suc n a, ticks_all n step line start t p w (omega (arith, suc-mul a line)), passed_come k n step line (start + line) t a b p w (omega arith) g (omega (arith, suc-mul a line)))

passed_due : (k n step line start t a b : ℕ) → n * step ≤ line → b < n → t < start + a * line + b * step
    → passed k n step line start t ≤ n * a + b
unfolding passed
passed_due zero n step line start t a b w g l = omega arith
passed_due (suc k) n step line start t zero b w g l =
    let m : b ≤ n = omega arith in
    omega (arith, ticks_due n step start t b (omega arith), passed_before k n step line (start + line) t (omega (arith, mul-le-mul_right step m)))
passed_due (suc k) n step line start t (suc a) b w g l =
    omega (arith, mul-suc n a, ticks_few n step start t, passed_due k n step line (start + line) t a b w g (omega (arith, suc-mul a line)))

-- Of moments at one pace: they are no more than all, moment p, counted from 1, has come when its clock has, and that clock fits.
module _ (n step total line start : ℕ) (w : Paced n step total line start) where
  pub moments_few : (t : ℕ) → come n step total line start t ≤ total
  moments_few t = omega (arith, w.full, passed_few (total / n) n step line start t)

  module _ (p : ℕ) (h : 1 ≤ p) (l : p ≤ total) where
    in_lines : (p - 1) / n < total / n
    in_lines = (div-lt_iff_lt-mul {k = n} {x = p - 1} {y = total / n} w.some).1 (omega (arith, w.full))

    in_line : (p - 1) % n < n
    in_line = mod-lt (p - 1) {m = n} w.some

    pub moment_reached : (t : ℕ) → leb p (come n step total line start t) ≡ leb (start + (p - 1) / n * line + (p - 1) % n * step) t
    moment_reached t =
        let k = total / n in
        let a = (p - 1) / n in
        let b = (p - 1) % n in
        let e : n * a + b ≡ p - 1 = div-add-mod (p - 1) n in
        alike p (passed k n step line start t) (start + a * line + b * step) t
        (λ g. omega (arith, e, passed_come k n step line start t a b w.apart w.room in_lines in_line g))
        (λ g. omega (arith, e, passed_due k n step line start t a b w.room in_line g))

    pub due_fits : start + (p - 1) / n * line + (p - 1) % n * step < 2 ^ 32
    due_fits =
        omega (
          arith,
          w.room,
          w.short,
          suc-mul ((p - 1) / n) line,
          mul-le-mul_right line in_lines,
          suc-mul ((p - 1) % n) step,
          mul-le-mul_right step in_line,
        )

module _ (s : ZXSpecs) (w : Regular s) where
  pub blocks_paced : Paced 32 4 6144 s.line s.block
  blocks_paced =
      record {
        some = omega arith;
        apart = omega arith;
        room = omega (arith, w.wide);
        full = refl;
        short = omega (arith, w.narrow, w.blocks_in_frame, w.short);
      }

  pub pairs_paced : Paced 160 1 38400 s.line s.border
  pairs_paced =
      record {
        some = omega arith;
        apart = omega arith;
        room = omega (arith, w.wide);
        full = refl;
        short = omega (arith, w.narrow, w.border_in_frame, w.short);
      }

  -- the clock of a position is within a frame, and so of 17 bits
  pub block_due_fits : (p : ℕ) → p ≤ 6144 → s.block + (p - 1) / 32 * s.line + (p - 1) % 32 * 4 < 2 ^ 17
  block_due_fits p l =
      let a : (p - 1) / 32 ≤ 191 = omega arith in
      omega (arith, w.blocks_in_frame, w.short, mul-le-mul_right s.line a)

  pub pair_due_fits : (p : ℕ) → p ≤ 38400 → s.border + (p - 1) / 160 * s.line + (p - 1) % 160 < 2 ^ 17
  pair_due_fits p l =
      let a : (p - 1) / 160 ≤ 239 = omega arith in
      omega (arith, w.border_in_frame, w.short, mul-le-mul_right s.line a)

  pub blocks_come : (t : ℕ) → come 32 4 6144 s.line s.block t ≡ block_position s t
  blocks_come t = blocks_are s t w.wide

  pub pairs_come : (t : ℕ) → come 160 1 38400 s.line s.border t ≡ border_position s t / 2
  pairs_come t = omega (arith, pairs_are s t w.wide)

  module _ (t p : ℕ) (h : 1 ≤ p) where
    -- block p, counted from 1, has come when its clock has
    pub block_reached : p ≤ 6144 → leb p (block_position s t) ≡ leb (s.block + (p - 1) / 32 * s.line + (p - 1) % 32 * 4) t
    block_reached l = rw (← blocks_come t) (moment_reached 32 4 6144 s.line s.block blocks_paced p h l t)

    -- pixel pair p, counted from 1, has come when its clock has
    pub pairs_reached : p ≤ 38400 → leb p (border_position s t / 2) ≡ leb (s.border + (p - 1) / 160 * s.line + (p - 1) % 160) t
    pairs_reached l = let m = moment_reached 160 1 38400 s.line s.border pairs_paced p h l t in rw (← pairs_come t) (simp mul-one at m)
