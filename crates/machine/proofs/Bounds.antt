-- How large the readings of a clock can be, over any machine's numbers.
-- Assumes nothing.
use mathlib.Core.Path.{◌≡◌, refl, sym, subst}
use Prim.Native.Nat.{ℕ, ◌+◌, ◌-◌, ◌*◌, ◌/◌, ◌%◌, ◌<◌, ◌≤◌}
use native.Mathlib.Omega.{arith}
use Rattle.laws.proofs.Cases.{by_lt, by_le}
use Rattle.machine.specs.declared.ZXSpecs.{ZXSpecs}
use Rattle.machine.specs.declared.BlocksCount.{BlocksCount}
use Rattle.machine.specs.declared.BorderPixel.{BorderPixel}
use Rattle.std.specs.Prelude.{Option, Some, None}
use Rattle.machine.specs.Timing.{delay, blocks_capped, blocks_from, blocks_at, block_position, border_capped, border_from, border_at}
use Rattle.machine.proofs.Pattern.{worked_out}
use Rattle.machine.proofs.Why.{number_is}

-- no delay is over 6
pub delay_small : (s : ZXSpecs) (t : ℕ) → delay s t ≤ 6
delay_small s t =
    let x = (t - s.contention) % s.line in
    rw (number_is s t, worked_out x)
    (by_lt Few t s.contention (λ h. omega arith)
    (λ h. by_le Few (s.contention + 192 * s.line) t (λ h₁. omega arith) (λ h₁. by_le Few 128 x (λ h₂. omega arith) (λ h₂. omega arith)))) where
      Few : ℕ → Type 0
      Few d = d ≤ 6

-- a block count has at most 192 lines, at most 32 columns, and no column behind line 192
pub record Small (b : BlocksCount) : Type 0 where
  pub in_lines : b.lines ≤ 192
  pub in_columns : b.columns ≤ 32
  pub in_all : 32 * b.lines + b.columns ≤ 6144

in_small : (line column : ℕ) → column ≤ 32 → Small (blocks_capped line column)
unfolding blocks_capped
in_small line column h =
    by_le Small 192 line
    (λ l. record { in_lines = omega arith; in_columns = omega arith; in_all = omega arith })
    (λ l. record { in_lines = omega arith; in_columns = h; in_all = omega arith })

from_small : (line column : ℕ) → Small (blocks_from line column)
unfolding blocks_from
from_small line column = by_lt Small 32 column (λ h. in_small (line + 1) 0 (omega arith)) (λ h. in_small line column h)

pub blocks_small : (s : ZXSpecs) (t : ℕ) → Small (blocks_at s t)
unfolding blocks_at
blocks_small s t =
    by_lt Small t s.block (λ h. record { in_lines = omega arith; in_columns = omega arith; in_all = omega arith })
    (λ h. from_small ((t - s.block) / s.line) ((t - s.block) % s.line / 4 + 1))

-- no block position is over 6,144
pub position_small : (s : ZXSpecs) (t : ℕ) → block_position s t ≤ 6144
position_small s t = (blocks_small s t).in_all

-- a place of the border that is not frame end is one of 240 lines and at most pixel 320, and its pixel is even
abbrev pub Within : Option BorderPixel → Type 0
Within (Some p) = (p.line < 240) × (p.pixel ≤ 320) × (p.pixel % 2 ≡ 0)
Within None = Unit {0}

in_within : (line pixel : ℕ) → pixel ≤ 320 → pixel % 2 ≡ 0 → Within (border_capped line pixel)
unfolding border_capped
in_within line pixel h e = by_le Within 240 line (λ l. tt) (λ l. (l, h, e))

from_within : (line pixel : ℕ) → pixel % 2 ≡ 0 → Within (border_from line pixel)
unfolding border_from
from_within line pixel e = by_lt Within 320 pixel (λ h. in_within (line + 1) 0 (omega arith) refl) (λ h. in_within line pixel h e)

pub border_within : (s : ZXSpecs) (t : ℕ) → Within (border_at s t)
unfolding border_at
border_within s t =
    by_lt Within t s.border (λ h. (omega arith, omega arith, refl))
    (λ h. from_within ((t - s.border) / s.line) (2 * ((t - s.border) % s.line + 1)) (omega arith))

-- the same of a place that is known to be a line and a pixel
pub at_within : (s : ZXSpecs) (t : ℕ) (p : BorderPixel) → Some p ≡ border_at s t → (p.line < 240) × (p.pixel ≤ 320) × (p.pixel % 2 ≡ 0)
at_within s t p e = subst Within (sym e) (border_within s t)
