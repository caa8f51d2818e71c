-- The count that `report` answers is within the lent array, and the arm for no room cannot be reached: 524,299 bytes are always enough.
-- Assumes nothing.
use Prim.Native.Nat.{ℕ}
use mathlib.Core.Path.{sym, ◌∙◌}
use native.Mathlib.Nat.{le_refl}
use lib.ListN.{length-replicate}
use lib.Seq.{length-take-le}
use Rattle.beam.proofs.Reporting.{done_fits}
use Rattle.beam_io.proofs.Taken.{zeros_room}
use Rattle.beam_io.proofs.answer.Goals as goal

pub slice_bounds-report-end-2 : goal.slice_bounds-report-end-2
slice_bounds-report-end-2 g c = sym (length-replicate {A = ℕ} _ 0)

pub slice_bounds-out-end : goal.slice_bounds-out-end
slice_bounds-out-end g c = done_fits _ _ _ _ _ (sym c.in-Ok.is ∙ c.report.ensures.value) c.report.ensures.out_after

pub slice_bounds-write_all-end : goal.slice_bounds-write_all-end
slice_bounds-write_all-end g c =
    sym (length-take-le _ _ (done_fits _ _ _ _ _ (sym c.in-Ok.is ∙ c.report.ensures.value) c.report.ensures.out_after))

pub unreachable-requires : goal.unreachable-requires
unreachable-requires g c =
    zeros_room c.args.question c.in_ok-n.n _ _ c.read_full.new.buf c.read_full.auto.buf (sym c.in-Err.is ∙ c.report.ensures.value) (le_refl 65537)
    (le_refl 524299)

pub unreachable-unreachable : goal.unreachable-unreachable
unreachable-unreachable g c =
    zeros_room c.args.question c.in_ok-n.n _ _ c.read_full.new.buf c.read_full.auto.buf (sym c.in-Err.is ∙ c.report.ensures.value) (le_refl 65537)
    (le_refl 524299)
