-- Two pieces of the slice are written, each over as many bytes.
-- Assumes nothing.
use Rattle.std.proofs.Common.{◌∙◌, ap, refl, arith, length, List, ℕ}
use Rattle.std.proofs.lemmas.List.Edits.{sets}
use Rattle.record.specs.Words.{bytes16, bytes32}
use Rattle.record.specs.Record.{advanced}
use Rattle.laws.proofs.Stores.{stored}
use Rattle.record.proofs.Stored.{long_le}
use Rattle.record.proofs.advance.Goals as goal

pub returns : goal.returns
unfolding advanced
returns c =
    let first = stored 6 4 c.args.dst.now _ (bytes32 c.args.clock) (c.copy_from_slice.ensures.after ∙ c.to_le_bytes.ensures ∙ long_le c.args.clock) refl (omega arith) in
    stored 15 2 _ _ (bytes16 c.args.painted) (c.copy_from_slice-2.ensures.after ∙ c.to_le_bytes-2.ensures) refl (omega (arith, ap length first))
    ∙ ap (λ (l : List ℕ). sets l 15 (bytes16 c.args.painted)) first
