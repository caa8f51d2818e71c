use native.Mathlib.Omega.{arith}
use Rattle.machine.proofs.Bounds.{at_within}
use Rattle.border.proofs.set_border.Goals as goal

pub overflow_mul-to : goal.overflow_mul-to
overflow_mul-to c = omega (arith, at_within _ _ _ c.in-Some.ensures)

pub overflow_add-to : goal.overflow_add-to
overflow_add-to c = omega (arith, at_within _ _ _ c.in-Some.ensures)

pub fill-requires : goal.fill-requires
fill-requires c = omega (arith, at_within _ _ _ c.in-Some.ensures)

pub overflow_cast-result : goal.overflow_cast-result
overflow_cast-result c = omega (arith, at_within _ _ _ c.in-Some.ensures)
