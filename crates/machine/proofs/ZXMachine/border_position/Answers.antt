use native.Mathlib.Omega.{arith}
use Rattle.machine.proofs.Bounds.{at_within}
use Rattle.machine.proofs.ZXMachine.border_position.Goals as goal

pub overflow_mul-result : goal.overflow_mul-result
overflow_mul-result c = omega (arith, at_within _ _ _ c.in-Some.ensures)

pub overflow_add-result : goal.overflow_add-result
overflow_add-result c = omega (arith, at_within _ _ _ c.in-Some.ensures)
