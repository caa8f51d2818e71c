-- Refused: the file is not written. Accepted: the lengths and the size were judged, and what the callee leaves is the record's file.
-- Assumes nothing.
use mathlib.Core.Path.{sym, ◌∙◌}
use Rattle.judgement.proofs.Accepted.{ready_save_sna}
use Rattle.ulb_sna.proofs.ulb_save_sna.Goals as goal

pub write_file-requires : goal.write_file-requires
write_file-requires c = let r = ready_save_sna _ _ _ _ _ (sym c.judge_save_sna.ensures ∙ c.in-Ok.is) in rw c.from-in-Ok.ensures (r.ram_is, r.registers_is, r.file_is)
