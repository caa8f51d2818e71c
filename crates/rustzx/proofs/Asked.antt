-- The numbers that Timing asks of a machine.
-- Assumes nothing.
use mathlib.Core.Path.{◌≡◌}
use Prim.Native.Nat.{◌+◌, ◌-◌}
use Rattle.machine.specs.declared.ZXSpecs as table
use Rattle.machine.specs.Timing.{pattern}
use Rattle.rustzx.specs.Machine.{ZXSpecs}
use Rattle.rustzx.specs.Border.{clocks_origin}

-- What the theorems ask of a machine's numbers in the Rust and in document 01's table: each is proved once over these, and a machine is one line.
pub record SameNumbers (s : ZXSpecs) (o : table.ZXSpecs) : Type 0 where
  pub line : s.clocks.line ≡ o.line
  pub frame : s.clocks_frame ≡ o.frame
  pub contention : s.clocks_first_pixel - 1 ≡ o.contention
  pub read : s.clocks_ula_read_origin ≡ o.block
  pub floating : s.clocks_first_pixel + 2 ≡ o.block
  pub origin : clocks_origin s ≡ o.border
  pub screen_lines : s.lines.screen ≡ 192
  pub screen_row : s.clocks.screen_row ≡ 128
  pub delays : s.contention_pattern ≡ pattern
  pub pulse : s.interrupt_length ≡ 32
