-- The eight numbers that the code gathers are the fields that document 01 lists, at a place of the border and at frame end.
-- Assumes nothing.
use Prim.Native.Nat.{ℕ}
use mathlib.Core.Path.{◌≡◌, refl}
use mathlib.Core.Bool.{Bool, true, false}
use mathlib.Core.List.{[], ◌∷◌}
use Rattle.machine.specs.declared.ZXMachine.{ZXMachine}
use Rattle.machine.specs.declared.BlocksCount.{BlocksCount}
use Rattle.std.specs.Prelude.{None}
use Rattle.machine.specs.Numbers.{specs_of}
use Rattle.machine.specs.Timing.{delay, blocks_at, pixel_at, border_at, interrupt}
use Rattle.std.specs.Int.{from_bool}
use Rattle.beam.specs.Printed.{fields, flag}

flag_is : (on : Bool) → from_bool on ≡ flag on
flag_is true = refl
flag_is false = refl

module _ (m : ZXMachine) (t held : ℕ) (b : BlocksCount) (i : Bool) (on : ℕ)
    (eh : held ≡ delay (specs_of m) t) (eb : b ≡ blocks_at (specs_of m) t) (ei : i ≡ interrupt t) (eo : on ≡ from_bool i) where
  pub fields_at : (line pixel : ℕ) → pixel_at line pixel ≡ border_at (specs_of m) t
      → t ∷ held ∷ b.lines ∷ b.columns ∷ line ∷ pixel ∷ 0 ∷ on ∷ [] ≡ fields m t
  unfolding fields
  fields_at line pixel e = rw (← e, eh, eb, eo, flag_is, ei)

  pub fields_end : None ≡ border_at (specs_of m) t → t ∷ held ∷ b.lines ∷ b.columns ∷ 0 ∷ 0 ∷ 1 ∷ on ∷ [] ≡ fields m t
  unfolding fields
  fields_end e = rw (← e, eh, eb, eo, flag_is, ei)
