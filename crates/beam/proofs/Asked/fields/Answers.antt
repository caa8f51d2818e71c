-- The two ways of the match are the two laws of proofs/Fields.antt.
-- Assumes nothing.
use mathlib.Core.Path.{◌∙◌, ap, sym}
use Rattle.machine.specs.Timing.{clocks_held}
use Rattle.beam.proofs.Fields.{fields_at, fields_end}
use Rattle.beam.proofs.Asked.fields.Goals as goal

pub returns-in-Some : goal.returns-in-Some
returns-in-Some c =
    fields_at _ _ _ _ _ _ (c.clocks-held.ensures ∙ ap clocks_held c.contention.ensures) c.blocks_count-blocks.ensures c.int_active.ensures
    c.from-on.ensures _ _ (sym c.in-Some.is ∙ c.next_border_pixel.ensures)

pub returns-in-None : goal.returns-in-None
returns-in-None c =
    fields_end _ _ _ _ _ _ (c.clocks-held.ensures ∙ ap clocks_held c.contention.ensures) c.blocks_count-blocks.ensures c.int_active.ensures
    c.from-on.ensures (sym c.in-None.is ∙ c.next_border_pixel.ensures)
