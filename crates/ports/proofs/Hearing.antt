-- By document 01's order at most one hears a port write, so that the code can say who by an enum.
-- Assumes nothing.
use mathlib.Core.Path.{◌≡◌, refl, subst}
use mathlib.Core.Bool.{◌&&◌}
use mathlib.Core.List.{List}
use Prim.Native.Nat.{ℕ, ◌≤◌}
use lib.Dec.{lit≤}
use lib.ListN.{length}
use Rattle.laws.proofs.Cases.{by_bool}
use Rattle.machine.specs.declared.ZXMachine.{ZXMachine}
use Rattle.ports.specs.declared.Devices.{Devices}
use Rattle.ports.specs.declared.Written.{Written}
use Rattle.ports.specs.declared.Written.TheVariants as written
use Rattle.ports.specs.Order.{class_c000, class8000, even_port, paging_port, claims, has7ffd}
use Rattle.ports.specs.Hearers.{Hearer, port_hearers, hearers, hearers_of}

-- a list that the enum has a case for
abbrev Picked : List Hearer → Type 0
Picked hs = (w : Written) × (hearers_of w ≡ hs)

pub picked : (m : ZXMachine) (d : Devices) (port : ℕ) → Picked (hearers m d port)
unfolding port_hearers
picked m d port =
    by_bool Picked (claims d.extender) (λ _. (written.Extender, refl))
    (λ _. by_bool Picked (class_c000 port) (λ _. (written.AySelect, refl))
    (λ _. by_bool Picked (class8000 port) (λ _. (written.AyWrite, refl))
    (λ _. by_bool Picked (even_port port) (λ _. (written.Border, refl))
    (λ _. by_bool Picked (paging_port port && has7ffd m) (λ _. (written.Paging, refl)) (λ _. (written.Nothing, refl))))))

one_of : (w : Written) → length (hearers_of w) ≤ 1
one_of written.Extender = lit≤ tt
one_of written.AySelect = lit≤ tt
one_of written.AyWrite = lit≤ tt
one_of written.Border = lit≤ tt
one_of written.Paging = lit≤ tt
one_of written.Nothing = lit≤ tt

-- AT MOST ONE HEARS A WRITE.
pub at_most_one : (m : ZXMachine) (d : Devices) (port : ℕ) → length (hearers m d port) ≤ 1
at_most_one m d port = let p = picked m d port in subst (λ (hs : List Hearer). length hs ≤ 1) p.1 (one_of p.0)
