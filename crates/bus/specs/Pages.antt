-- Port calls and waits in the words of the public reference pages: four rows of cycles, chosen by two questions, and the T-states that they
-- take one after the other. The delay that is due is the page's own (machine, specs/Pages), and so is which memory is contended (memory, specs/Pages).
-- Assumes nothing.
use Rattle.std.specs.Prelude.{ℕ, ◌+◌, ◌-◌, ◌*◌, ◌/◌, ◌%◌, Bool, true, false, cond, List, [], ◌∷◌, ltb, eqb}
use Rattle.machine.specs.declared.ZXMachine.{ZXMachine}
use Rattle.machine.specs.Pages.{Page, page_of, laps, page_delay}
use Rattle.memory.specs.Pages.{page_held}

-- "C:n: the delay due now, then n T-states; N:n: n T-states"
pub data Cycle : Type 0 where
  C : ℕ → Cycle
  N : ℕ → Cycle

-- "High byte in contended memory": the memory that starts at the port's high byte; on 128K the byte on port 7FFDh decides what is paged there
abbrev pub high_byte_held : ZXMachine → ℕ → ℕ → Bool
high_byte_held m byte port = page_held m byte (port / 256 * 256)

-- "low bit reset"
abbrev pub low_bit_reset : ℕ → Bool
low_bit_reset port = eqb (port % 2) 0

-- "by two questions. High byte in contended memory: no; low bit reset: N:1, C:3. No, set: N:4. Yes, reset: C:1, C:3. Yes, set: C:1, C:1,
-- C:1, C:1." The rows stand on the 48K page; as we know it the 128K page has none of its own, and they are taken for both machines.
abbrev pub row_of : Bool → Bool → List Cycle
row_of false true = N 1 ∷ C 3 ∷ []
row_of false false = N 4 ∷ []
row_of true true = C 1 ∷ C 3 ∷ []
row_of true false = C 1 ∷ C 1 ∷ C 1 ∷ C 1 ∷ []

-- what a cycle takes that starts at T-state t of the frame
abbrev pub takes : Page → Cycle → ℕ → ℕ
takes p (C n) t = page_delay p t + n
takes p (N n) t = n

-- "Time starts at the interrupt", and so anew with each frame: what goes past its lines is counted from the next interrupt
unfoldable pub in_frame : Page → ℕ → ℕ
in_frame p t = cond (ltb t (laps p.lines p.per_line)) t (t - laps p.lines p.per_line)

-- the T-state of the frame at which a cycle ends
abbrev pub end_of : Page → Cycle → ℕ → ℕ
end_of p k t = in_frame p (t + takes p k t)

-- the T-states of a row: the first of its cycles starts at T-state t, each other where the one before it ends
unfoldable pub take_all : Page → List Cycle → ℕ → ℕ
take_all p [] t = 0
take_all p (k ∷ ks) t = takes p k t + take_all p ks (end_of p k t)

-- what a port call takes that starts at T-state t of the frame
abbrev pub page_port : ZXMachine → ℕ → ℕ → ℕ → ℕ
page_port m byte port t = take_all (page_of m) (row_of (high_byte_held m byte port) (low_bit_reset port)) t

-- "Contention (4000h to 7FFFh ..)", on 128K "RAM banks 1, 3, 5 and 7 .. wherever they are paged": n T-states at an address
abbrev pub memory_cycle : ZXMachine → ℕ → ℕ → ℕ → Cycle
memory_cycle m byte addr n = cond (page_held m byte addr) (C n) (N n)
