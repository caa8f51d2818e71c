-- Document 01, "What the table of cases proves": "Proved, in one table, on 48K unless said"; and the delay's answer at the corners of the picture
-- (02, Q-6).
-- Assumes nothing.
use Rattle.std.specs.Prelude.{◌≡◌, Bool, true, false, List, [], ◌∷◌, ℕ, Some}
use Rattle.machine.specs.declared.ZXMachine.{ZXMachine}
use Rattle.machine.specs.declared.ZXMachine.TheVariants.{Sinclair48K, Sinclair128K}
use Rattle.machine.specs.declared.Delay.{Delay}
use Rattle.machine.specs.declared.Delay.TheVariants.{Held, Outside}
use Rattle.machine.specs.Numbers.{specs_of}
use Rattle.machine.specs.Timing as timing
use Rattle.machine.specs.Timing.{delay, block_position, border_position, frame_end}
use Rattle.screen.specs.Address.{line_address}
use Rattle.memory.specs.Paging.{write7ffd, paging_after, paged_code}
use Rattle.border.specs.Edge.{Edge}
use Rattle.bus.specs.World.{Screen, World}
use Rattle.bus.specs.Turns.{ran_by, fresh}
use Rattle.bus.specs.Calls.{port_read}

-- a clock and what it gives; a clock, the border position there and whether it is frame end; a line and its address; a port, the clock at
-- which it is read and the clocks that this takes; on 128K two bytes written to 7FFD from a start and the second write's answer; a machine, a
-- clock and the delay's answer there
pub data Row : Type 0 where
  delay_at : ℕ → ℕ → Row
  block_at : ℕ → ℕ → Row
  border_at : ℕ → ℕ → Bool → Row
  line_at : ℕ → ℕ → Row
  read_takes : ℕ → ℕ → ℕ → Row
  second_answers : ℕ → ℕ → ℕ → Row
  says_why : ZXMachine → ℕ → Delay → Row

abbrev pub rows : List Row
rows =
    delay_at 14334 0 ∷
    delay_at 14335 6 ∷
    delay_at 14343 6 ∷
    delay_at 57244 1 ∷
    delay_at 57245 0 ∷
    block_at 14337 0 ∷
    block_at 14338 1 ∷
    block_at 57245 6143 ∷
    block_at 57246 6144 ∷
    border_at 8944 0 false ∷
    border_at 8945 2 false ∷
    border_at 62640 76800 false ∷
    border_at 62641 76800 true ∷
    line_at 191 0x57E0 ∷
    read_takes 0x40FF 14335 16 ∷
    second_answers 0x27 0x00 6 ∷
    []

-- Q-6's clocks, and the same places on 128K: before the first delay and at it, the last x of a line and the first past it, the last clock that is
-- held for, and the first past the picture
abbrev pub answers : List Row
answers =
    says_why Sinclair48K 14334 Outside ∷
    says_why Sinclair48K 14335 (Held 0 0 6) ∷
    says_why Sinclair48K 14462 (Held 0 127 0) ∷
    says_why Sinclair48K 14463 Outside ∷
    says_why Sinclair48K 57244 (Held 191 125 1) ∷
    says_why Sinclair48K 57247 Outside ∷
    says_why Sinclair128K 14360 Outside ∷
    says_why Sinclair128K 14361 (Held 0 0 6) ∷
    says_why Sinclair128K 14488 (Held 0 127 0) ∷
    says_why Sinclair128K 14489 Outside ∷
    says_why Sinclair128K 58034 (Held 191 125 1) ∷
    says_why Sinclair128K 58037 Outside ∷
    []

-- a 48K world at a clock, whatever else it holds
abbrev pub at48 : ℕ → ℕ → ℕ → ℕ → ℕ → List ℕ → Screen → Edge → World
at48 clock passed phase paging reported ram screen edge =
    record {
      core = record { clock = clock; passed = passed; phase = phase; paging = paging; reported = reported; ram = ram };
      screen = screen;
      edge = edge;
    }

-- what a row says
abbrev pub right : Row → Type 0
right (delay_at t d) = delay (specs_of Sinclair48K) t ≡ d
right (block_at t n) = block_position (specs_of Sinclair48K) t ≡ n
right (border_at t n end) = (border_position (specs_of Sinclair48K) t ≡ n) × (frame_end (specs_of Sinclair48K) t ≡ end)
right (line_at line address) = line_address line ≡ Some address
right (read_takes port t n) =
    (passed phase paging reported : ℕ) (ram : List ℕ) (screen : Screen) (edge : Edge)
    → (ran_by (port_read Sinclair48K port) (fresh Sinclair48K (at48 t passed phase paging reported ram screen edge))).clocks ≡ n
right (second_answers first second code) =
    paged_code (write7ffd Sinclair128K (paging_after (write7ffd Sinclair128K 0 first) 0) second) ≡ code
right (says_why m t d) = timing.delay_at (specs_of m) t ≡ d

abbrev pub AllRight : List Row → Type 0
AllRight [] = Unit {0}
AllRight (r ∷ rs) = right r × AllRight rs
