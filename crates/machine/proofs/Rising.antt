-- Both positions never fall as the clock rises, and both are at their end at the frame's last clock, over any regular numbers.
-- Assumes nothing.
use mathlib.Core.Path.{◌≡◌, refl, ap, sym, ◌∙◌}
use mathlib.Core.Bool.{true}
use Prim.Native.Nat.{ℕ, zero, suc, ◌+◌, ◌-◌, ◌*◌, ◌/◌, ◌%◌, ◌<◌, ◌≤◌}
use native.Mathlib.Nat.{mul-le-mul_left, div-add-mod, mod-lt, mul-add}
use native.Mathlib.Omega.{arith}
use borrow.Author.Tests.{lt-ltb, le-ltb, le-leb, lt-leb}
use lib.Dec.{leb}
use Rattle.laws.proofs.Cases.{split}
use Rattle.machine.specs.declared.ZXSpecs.{ZXSpecs}
use Rattle.machine.specs.declared.BorderPixel.{BorderPixel}
use Rattle.std.specs.Prelude.{Option, Some, None}
use Rattle.machine.specs.Numbers.{Regular}
use Rattle.machine.specs.Timing.{blocks_capped, blocks_from, blocks_at, block_position, border_capped, border_from, border_at, border_position, pixel_at, place_position, is_frame_end, frame_end}
use Rattle.machine.specs.Pages.{ticks, passed}
use Rattle.machine.proofs.Agree.{blocks_are, pairs_are}
use Rattle.machine.proofs.Bounds.{Within, border_within}

-- ---- positions never fall as the clock moves on
ticks_mono : (n step start t t' : ℕ) → t ≤ t' → ticks n step start t ≤ ticks n step start t'
unfolding ticks
ticks_mono zero step start t t' h = omega arith
ticks_mono (suc n) step start t t' h =
    let i = ticks_mono n step (start + step) t t' h in
    split start t
    (λ l. simp (le-leb start t l, le-leb start t' (omega arith)) (omega arith))
    (λ l. simp (lt-leb start t l) (omega arith))

passed_mono : (k n step line start t t' : ℕ) → t ≤ t' → passed k n step line start t ≤ passed k n step line start t'
unfolding passed
passed_mono zero n step line start t t' h = omega arith
passed_mono (suc k) n step line start t t' h = omega (arith, ticks_mono n step start t t' h, passed_mono k n step line (start + line) t t' h)

module _ (s : ZXSpecs) (w : 160 ≤ s.line) (t t' : ℕ) (h : t ≤ t') where
  pub blocks_mono : block_position s t ≤ block_position s t'
  blocks_mono = omega (arith, blocks_are s t w, blocks_are s t' w, passed_mono 192 32 4 s.line s.block t t' h)

  pub border_mono : border_position s t ≤ border_position s t'
  border_mono = omega (arith, pairs_are s t w, pairs_are s t' w, passed_mono 240 160 1 s.line s.border t t' h)

-- ---- the frame's end comes 160 clocks into the last line of the border
pub end_is : (s : ZXSpecs) → 160 ≤ s.line → (t : ℕ) → frame_end s t ≡ leb (s.border + 239 * s.line + 160) t
unfolding border_at border_from border_capped
end_is s w t =
    let l = s.line in
    let c = t - s.border in
    let q = c / l in
    let r = c % l in
    let d : l * q + r ≡ c = div-add-mod c l in
    let m : r < l = mod-lt c {m = l} (omega arith) in
    split s.border t
    (λ h. split (2 * (r + 1)) 320
    (λ h₁. split 240 q
    (λ h₂. simp (le-ltb t s.border h, le-ltb 320 (2 * (r + 1)) h₁, le-leb 240 q h₂, le-leb (s.border + 239 * l + 160) t (omega (arith, mul-le-mul_left l h₂))))
    (λ h₂. simp (le-ltb t s.border h, le-ltb 320 (2 * (r + 1)) h₁, lt-leb 240 q h₂, lt-leb (s.border + 239 * l + 160) t (let g : q ≤ 239 = omega arith in omega (arith, mul-le-mul_left l g)))))
    (λ h₁. split 240 (q + 1)
    (λ h₂. simp (le-ltb t s.border h, lt-ltb 320 (2 * (r + 1)) h₁, le-leb 240 (q + 1) h₂, le-leb (s.border + 239 * l + 160) t (let g : 239 ≤ q = omega arith in omega (arith, mul-le-mul_left l g))))
    (λ h₂. simp (le-ltb t s.border h, lt-ltb 320 (2 * (r + 1)) h₁, lt-leb 240 (q + 1) h₂, lt-leb (s.border + 239 * l + 160) t (let g : q + 1 ≤ 239 = omega arith in omega (arith, mul-le-mul_left l g, mul-add l q 1))))))
    (λ h. simp (lt-ltb t s.border h, lt-leb (s.border + 239 * l + 160) t (omega arith)))

-- the last block comes 124 clocks into the last line of the picture, and the position stays there
pub last_block : (s : ZXSpecs) → 160 ≤ s.line → (t : ℕ) → s.block + 191 * s.line + 124 ≤ t → block_position s t ≡ 6144
unfolding blocks_at blocks_from blocks_capped
last_block s w t h =
    let l = s.line in
    let c = t - s.block in
    let q = c / l in
    let r = c % l in
    let x = r / 4 + 1 in
    let d : l * q + r ≡ c = div-add-mod c l in
    let m : r < l = mod-lt c {m = l} (omega arith) in
    let b : s.block ≤ t = omega arith in
    let f : 191 ≤ q = split 191 q (λ g. g) (λ g. let i : q ≤ 190 = omega arith in let z : ⊥ = omega (arith, mul-le-mul_left l i) in absurd z) in
    split 192 q
    (λ g. split x 32
    (λ k. simp (le-ltb t s.block b, le-ltb 32 x k, le-leb 192 q g))
    (λ k. simp (le-ltb t s.block b, lt-ltb 32 x k, le-leb 192 (q + 1) (omega arith))))
    (λ g. let e : q ≡ 191 = omega arith in
    let n : l * 191 + r ≡ c = ap (λ (y : ℕ). l * y + r) (sym e) ∙ d in
    split x 32
    (λ k. simp (le-ltb t s.block b, le-ltb 32 x k, lt-leb 192 q g) (omega arith))
    (λ k. simp (le-ltb t s.block b, lt-ltb 32 x k, le-leb 192 (q + 1) (omega arith))))

end_position : (p : Option BorderPixel) → is_frame_end p ≡ true → place_position p ≡ 76800
end_position (Some q) e = cc
end_position None e = refl

-- at the frame's last clock, and past it, all 6,144 blocks have come and the border is at its end
module _ (s : ZXSpecs) (g : Regular s) (t : ℕ) (h : s.frame ≤ t + 1) where
  pub blocks_at_end : block_position s t ≡ 6144
  blocks_at_end = last_block s g.wide t (omega (arith, g.blocks_in_frame))

  pub border_at_end : frame_end s t ≡ true
  border_at_end = end_is s g.wide t ∙ le-leb (s.border + 239 * s.line + 160) t (omega (arith, g.border_in_frame))

  pub border_position_at_end : border_position s t ≡ 76800
  border_position_at_end = end_position (border_at s t) border_at_end

is_end : (p : Option BorderPixel) → is_frame_end p ≡ true → p ≡ None
is_end (Some q) e = cc
is_end None e = refl

-- there the border's place is frame end
pub border_end : (s : ZXSpecs) → Regular s → (t : ℕ) → s.frame ≤ t + 1 → border_at s t ≡ None
border_end s g t h = is_end (border_at s t) (border_at_end s g t h)

-- before the first block no block has come, and before the first border pixel none
pub position_before : (s : ZXSpecs) (t : ℕ) → t < s.block → block_position s t ≡ 0
unfolding blocks_at
position_before s t h = rw (lt-ltb t s.block h)

pub border_before : (s : ZXSpecs) (t : ℕ) → t < s.border → border_at s t ≡ pixel_at 0 0
unfolding border_at
border_before s t h = rw (lt-ltb t s.border h)

-- no border position is over 76,800, and each is even
pub border_small : (s : ZXSpecs) (t : ℕ) → border_position s t ≤ 76800
border_small s t = of_place (border_at s t) (border_within s t) where
  of_place : (p : Option BorderPixel) → Within p → place_position p ≤ 76800
  of_place (Some q) w = omega (arith, w.0, w.1)
  of_place None w = omega arith

pub border_even : (s : ZXSpecs) (t : ℕ) → border_position s t % 2 ≡ 0
border_even s t = of_place (border_at s t) (border_within s t) where
  of_place : (p : Option BorderPixel) → Within p → place_position p % 2 ≡ 0
  of_place (Some q) w = omega (arith, w.2)
  of_place None w = refl
