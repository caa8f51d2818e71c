-- Document 01: the contended RAM pages of each machine, and its contended ports.
-- Assumes nothing.
use Rattle.std.specs.Prelude.{ℕ, ◌%◌, Bool, false, ◌||◌, List, [], ◌∷◌, eqb}
use Rattle.machine.specs.declared.ZXMachine.{ZXMachine}
use Rattle.machine.specs.declared.ZXMachine.TheVariants.{Sinclair48K, Sinclair128K}

-- "contended RAM pages | 0 | 1, 3, 5, 7"
abbrev pub contended_pages : ZXMachine → List ℕ
contended_pages Sinclair48K = 0 ∷ []
contended_pages Sinclair128K = 1 ∷ 3 ∷ 5 ∷ 7 ∷ []

abbrev pub among : ℕ → List ℕ → Bool
among n [] = false
among n (k ∷ ks) = eqb n k || among n ks

abbrev pub bank_contended : ZXMachine → ℕ → Bool
bank_contended m page = among page (contended_pages m)

-- "an even port", on both machines
abbrev pub port_contended : ZXMachine → ℕ → Bool
port_contended m port = eqb (port % 2) 0
