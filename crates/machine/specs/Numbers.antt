-- Document 01, "Numbers of the two machines": the table.
-- Assumes nothing.
use Rattle.std.specs.Prelude.{◌≡◌, ◌+◌, ◌*◌, ◌<◌, ◌≤◌, ◌^◌, refl}
use Rattle.std.proofs.Common.{lit<, lit≤}
use Rattle.machine.specs.declared.ZXMachine.{ZXMachine}
use Rattle.machine.specs.declared.ZXMachine.TheVariants.{Sinclair48K, Sinclair128K}
use Rattle.machine.specs.declared.ZXSpecs.{ZXSpecs}

-- "line, frame (clocks)", "lines in a frame", "contention origin", "block origin", "border origin", "RAM, ROM bytes"
abbrev pub specs_of : ZXMachine → ZXSpecs
specs_of Sinclair48K =
    record { line = 224; lines = 312; frame = 69888; contention = 14335; block = 14338; border = 8945; ram = 49152; rom = 16384 }
specs_of Sinclair128K =
    record { line = 228; lines = 311; frame = 70908; contention = 14361; block = 14364; border = 8875; ram = 131072; rom = 32768 }

-- All that the theorems ask of a machine's numbers, so that each is proved once and a further machine costs a line: a line has room for the
-- border's 160 pixel pairs, the frame is its lines, the last block and the last border pixel come before the frame's last clock, and
-- 32 bits are enough.
pub record Regular (s : ZXSpecs) : Type 0 where
  pub wide : 160 ≤ s.line
  pub narrow : s.line < 2 ^ 16
  pub whole : s.frame ≡ s.lines * s.line
  pub held_in_frame : s.contention + 192 * s.line ≤ s.frame
  pub blocks_in_frame : s.block + 191 * s.line + 124 < s.frame
  pub border_in_frame : s.border + 239 * s.line + 160 < s.frame
  pub short : s.frame < 2 ^ 17

-- Each machine's numbers are regular: a line a machine.
pub regular : (m : ZXMachine) → Regular (specs_of m)
regular Sinclair48K = record { wide = lit≤ tt; narrow = lit< tt; whole = refl; held_in_frame = lit≤ tt; blocks_in_frame = lit< tt; border_in_frame = lit< tt; short = lit< tt }
regular Sinclair128K = record { wide = lit≤ tt; narrow = lit< tt; whole = refl; held_in_frame = lit≤ tt; blocks_in_frame = lit< tt; border_in_frame = lit< tt; short = lit< tt }
