-- What the writer of some banks asks: each bank is whole in RAM, and the file has room for all of them.
-- Assumes nothing.
use Rattle.std.specs.Prelude.{ℕ, ◌+◌, ◌*◌, ◌≤◌, ◌<◌, List, length, get_or}
use Rattle.machine.specs.Limits.{page_length}

pub record Writes (banks : List ℕ) (ram file at : ℕ) : Type 0 where
  pub in_ram : (k : ℕ) → k < length banks → page_length * get_or banks k 0 + page_length ≤ ram
  pub room : at + page_length * length banks ≤ file
