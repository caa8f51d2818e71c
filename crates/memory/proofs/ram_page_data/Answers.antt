-- The page lies whole in RAM by what is required.
use native.Mathlib.Nat.{add-sub_cancel_left}
use Rattle.memory.proofs.ram_page_data.Goals as goal

pub returns : goal.returns
returns c = rw add-sub_cancel_left
