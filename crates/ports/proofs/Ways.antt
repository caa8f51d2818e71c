-- An even port by its lowest bit, as the code tests it; the paging latch's port, and the two addresses of the floating bus.
-- Assumes nothing.
use mathlib.Core.Path.{◌≡◌, sym, ◌∙◌}
use mathlib.Core.Bool.{true, false}
use Prim.Native.Nat.{ℕ, ◌+◌, ◌%◌}
use lib.Bits.{bit_and, and_mask}
use borrow.Author.Tests.{eq-eqb, ne_eqb}
use Rattle.std.specs.Prelude.{Option, Some}
use Rattle.machine.specs.declared.ZXMachine.{ZXMachine}
use Rattle.machine.specs.declared.ZXMachine.TheVariants.{Sinclair128K}
use Rattle.offsets.specs.Offset.{line_start, attribute_start}
use Rattle.ports.specs.declared.Fetched.{Fetched}
use Rattle.ports.specs.declared.Fetched.TheVariants.{Bitmap, Attribute}
use Rattle.ports.specs.declared.Written.TheVariants as written
use Rattle.ports.specs.Order.{even_port}
use Rattle.ports.specs.Hearers.{port_hearers, hearers_of}
use Rattle.ports.specs.Floating.{floating_address}

pub is_even : (port : ℕ) → bit_and port 1 ≡ 0 → even_port port ≡ true
is_even port h = eq-eqb (port % 2) 0 (sym (and_mask port 1) ∙ h)

pub is_odd : (port : ℕ) → (bit_and port 1 ≡ 0 → ⊥) → even_port port ≡ false
is_odd port h = ne_eqb (port % 2) 0 (λ e. h (and_mask port 1 ∙ e))

module _ (m : ZXMachine) (port : ℕ) (no-select : bit_and port 0xC002 ≡ 0xC000 → ⊥) (no-data : bit_and port 0xC002 ≡ 0x8000 → ⊥) (odd : bit_and port 1 ≡ 0 → ⊥) where
  pub write_paging_lem : m ≡ Sinclair128K → bit_and port 0x8002 ≡ 0 → hearers_of written.Paging ≡ port_hearers m port
  unfolding port_hearers
  write_paging_lem e h = rw (ne_eqb _ _ no-select, ne_eqb _ _ no-data, is_odd port odd, eq-eqb _ _ h, e)

pub bitmap_at_lem : (p : Option Fetched) (row column start : ℕ) → start ≡ 0x4000 + line_start row → p ≡ Some (Bitmap row column)
    → Some (start + column) ≡ floating_address p
bitmap_at_lem p row column start h e = rw (e, h)

pub attribute_at_lem : (p : Option Fetched) (row column start : ℕ) → start ≡ 0x5800 + attribute_start row → p ≡ Some (Attribute row column)
    → Some (start + column) ≡ floating_address p
attribute_at_lem p row column start h e = rw (e, h)
