-- The kit's spelling is the definition's (`decimal_same`).
-- Assumes nothing.
use mathlib.Core.Path.{◌≡◌, sym, ◌∙◌}
use native.Mathlib.Omega.{arith}
use Rattle.beam.specs.Decimal.{decimal}
use Rattle.beam.proofs.Spelling.{decimal_same}
use Rattle.beam.proofs.put_decimal.Goals as goal

spelt : (c : goal.After-put-arg-1) → c.as_bytes.result.now ≡ decimal c.args.n
spelt c = c.as_bytes.ensures.value ∙ c.format.ensures.text ∙ decimal_same c.args.n (omega arith)

pub put-requires : goal.put-requires
put-requires c = rw (spelt c) c.requires

pub returns : goal.returns
returns c = rw (sym (c.as_bytes.ensures.value ∙ c.format.ensures.text ∙ decimal_same c.args.n (omega arith))) c.put.ensures
