use mathlib.Core.Path.{◌≡◌}
use lib.ListN.{length, drop}
use Rattle.snapshot.specs.File.{same_bytes}
use Rattle.snapshot.proofs.same.Given as goal

abbrev pub invariant-loop-i : goal.invariant-loop-i
invariant-loop-i l = (length l.a ≡ length l.b) × (same_bytes l.a l.b ≡ same_bytes (drop l.i l.a) (drop l.i l.b))
