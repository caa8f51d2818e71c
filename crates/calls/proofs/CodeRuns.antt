-- A call's code, one part after the other, runs the call's list.
-- Assumes nothing.
use mathlib.Core.Path.{◌≡◌, refl, sym, ap, ◌∙◌}
use Rattle.machine.specs.declared.ZXMachine.{ZXMachine}
use Rattle.bus.specs.Turns.{Turn, core_after, Part, and_then, ran_by}
use Rattle.bus.proofs.Runs.{ran_machine, ran_core, ran_then}

-- THE KEY: a turn that one part left, and then the turn that another left, is what both leave; each part may name the machine
pub follows : (f : Part) (g : ZXMachine → Part) (t u v : Turn) → u ≡ ran_by f t → v ≡ ran_by (g u.machine) u
    → v ≡ ran_by (and_then t.machine f (g t.machine)) t
follows f g t u v p q =
    q
    ∙ ap (λ (w : Turn). ran_by (g w.machine) w) p
    ∙ ap (λ (m : ZXMachine). ran_by (g m) (ran_by f t)) (ran_machine (f t.world.core) t)
    ∙ sym (ran_then t.machine f (g t.machine) t refl)

-- the core that a part leaves
pub left_core : (f : Part) (t u : Turn) → u ≡ ran_by f t → u.world.core ≡ core_after t.machine (f t.world.core) t.world.core
left_core f t u p = ap (λ (w : Turn). w.world.core) p ∙ ran_core (f t.world.core) t
