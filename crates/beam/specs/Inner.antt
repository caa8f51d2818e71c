-- What the contracts of inner functions cite besides document 01's definitions. No public contract needs these.
-- Assumes nothing.
use Rattle.std.specs.Prelude.{ℕ, ◌+◌, ◌≡◌, List, length}
use Rattle.std.proofs.lemmas.List.Edits.{sets}

-- what a function that puts bytes into a list at a place does: it leaves them there and nothing else changed, and answers the place behind them
pub record Put (before : List ℕ) (at : ℕ) (bytes : List ℕ) (next : ℕ) (after : List ℕ) : Type 0 where
  pub moved : next ≡ at + length bytes
  pub written : after ≡ sets before at bytes
