-- The mask of bit 6 is that bit's test.
-- Assumes nothing.
use mathlib.Core.Path.{◌≡◌, sym, ◌∙◌}
use mathlib.Core.Bool.{true, false}
use borrow.Author.Tests.{eq-eqb, ne_eqb, not-true, not-false}
use Rattle.screen.specs.Colour.{bit}
use Rattle.screen.proofs.OneBit.{mask_bit}
use Rattle.screen.proofs.brightness.Goals as goal

pub returns-then-byte-eq0 : goal.returns-then-byte-eq0
returns-then-byte-eq0 c =
    let e : bit 6 c.args.byte ≡ false = not-true _ (sym (mask_bit 6 c.args.byte) ∙ eq-eqb _ 0 c.if-byte-eq0.true) in
    rw e

pub returns-else-byte-eq0 : goal.returns-else-byte-eq0
returns-else-byte-eq0 c =
    let e : bit 6 c.args.byte ≡ true = not-false _ (sym (mask_bit 6 c.args.byte) ∙ ne_eqb _ 0 c.if-byte-eq0.false) in
    rw e
