-- The helpers of the C surface are the Rust's, and refusal 8 stands exactly where the Rust panics; and every sound record has a state of the Rust.
-- Assumes nothing.
use Prim.Native.Nat.{ℕ}
use mathlib.Core.Path.{◌≡◌, refl, ap, subst}
use mathlib.Core.List.{List}
use lib.ListN.{length}
use borrow.Author.Tests.{eq-eqb}
use Rattle.std.specs.Prelude.{Ok}
use Rattle.machine.specs.declared.ZXMachine as ours
use Rattle.machine.specs.Numbers.{specs_of}
use Rattle.record.specs.declared.Bus.{Bus}
use Rattle.record.specs.Record.{held_by}
use Rattle.record.proofs.Soundness.{sound_facts}
use Rattle.record.proofs.Round.{held_sound}
use Rattle.std.specs.Prelude.{Option, Some, None}
use Rattle.screen.specs.declared.ZXColor.{ZXColor}
use Rattle.screen.specs.Address.{line_address, line_at, column_at, attribute_row, attribute_column}
use Rattle.screen.specs.Colour as color
use Rattle.bus.proofs.Kept.{SoundWorld}
use Rattle.contracts.specs.Timed.{Lent, lent_world}
use Rattle.contracts.specs.Helpers as ulb
use Rattle.contracts.specs.Helpers.{helper_call, colour_helped}
use Rattle.rustzx.specs.Panics.{done, on_done}
use Rattle.rustzx.specs.Addresses as rust
use Rattle.rustzx.specs.Colors.{from_bits, color_byte}
use Rattle.rustzx.specs.Controller.{ZXController}
use Rattle.rustzx.specs.Related.{Related}
use Rattle.rustzx.proofs.Helpers.{as_run, line_address_is, line_rel_is, col_rel_is, attr_row_is, attr_col_is, coloured_run, from_bits_is, colour_number_lem}
use Rattle.rustzx.proofs.EveryState.{rust_of, every_machine, every_state}
use Rattle.surface.specs.Same.{SameLent, SameHelp}

helped_same : (h : Option ℕ) (answer : List ℕ) → length answer ≡ 5 → SameHelp (as_run h) (helper_call h answer)
unfolding helper_call
helped_same (Some n) answer e = let l = eq-eqb (length answer) 5 e in rw l (refl, refl)
helped_same None answer e = let l = eq-eqb (length answer) 5 e in rw l refl

module _ (n : ℕ) (answer : List ℕ) (long : length answer ≡ 5) where
  pub line_addr_same : SameHelp (rust.bitmap_line_addr n) (ulb.bitmap_line_addr n answer)
  line_addr_same = rw (line_address_is n) (helped_same (line_address n) answer long)

  pub line_rel_same : SameHelp (rust.bitmap_line_rel n) (ulb.bitmap_line_rel n answer)
  line_rel_same = rw (line_rel_is n) (helped_same (line_at n) answer long)

  pub col_rel_same : SameHelp (rust.bitmap_col_rel n) (ulb.bitmap_col_rel n answer)
  col_rel_same = rw (col_rel_is n) (helped_same (column_at n) answer long)

  pub attr_row_same : SameHelp (rust.attr_row_rel n) (ulb.attr_row_rel n answer)
  attr_row_same = rw (attr_row_is n) (helped_same (attribute_row n) answer long)

  pub attr_col_same : SameHelp (rust.attr_col_rel n) (ulb.attr_col_rel n answer)
  attr_col_same = rw (attr_col_is n) (helped_same (attribute_column n) answer long)

  by_coloured : (c : Option ZXColor) → on_done (coloured_run c) (λ x. done (color_byte x)) ≡ as_run (colour_helped c)
  by_coloured (Some c) = ap done (colour_number_lem c)
  by_coloured None = refl

  -- from_bits, its colour by its number
  pub from_bits_same : SameHelp (on_done (from_bits n) (λ x. done (color_byte x))) (ulb.color_from_bits n answer)
  from_bits_same = rw (from_bits_is n, by_coloured (color.from_bits n)) (helped_same (colour_helped (color.from_bits n)) answer long)

-- EVERY ACCEPTED CALL HAS A STATE OF THE RUST TO BE COMPARED WITH: the slices of any sound record, with RAM and ROM of the machine's lengths.
pub some_lent : (bus : Bus) (l : Lent) (rom : List ℕ) → held_by l.state ≡ Ok bus → length l.ram ≡ (specs_of bus.machine).ram
    → length rom ≡ (specs_of bus.machine).rom → (c : ZXController) × SameLent rom c l
some_lent bus l rom h ram_long_lem rom_long_lem =
    let w = lent_world bus l in
    let it = every_machine bus.machine in
    let r = subst (λ (n : ours.ZXMachine). SoundWorld n w → length l.ram ≡ (specs_of n).ram → length rom ≡ (specs_of n).rom → Related it.0 rom (rust_of it.0 rom w) w)
    it.1 (every_state it.0 rom w) (sound_facts bus (held_sound l.state bus h)) ram_long_lem rom_long_lem in
    (rust_of it.0 rom w, record { bus = bus; is_held = h; machine = it.1; related = r })
