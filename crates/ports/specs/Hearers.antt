-- Document 01, "Write order, with its code": who hears a port write, as a list in the order in which they act, and the code of those that do.
-- By 01's order at most one hears (proofs/Hearing).
-- Assumes nothing.
use Rattle.std.specs.Prelude.{ℕ, Bool, cond, ◌&&◌, List, [], ◌∷◌}
use Rattle.machine.specs.declared.ZXMachine.{ZXMachine}
use Rattle.ports.specs.declared.Devices.{Devices}
use Rattle.ports.specs.declared.Written.{Written}
use Rattle.ports.specs.declared.Written.TheVariants as written
use Rattle.ports.specs.Order.{class_c000, class8000, even_port, paging_port, claims, has7ffd}

-- the extender, the AY's register select and its data, the border, and the 7FFD latch
pub data Hearer : Type 0 where
  extender : Hearer
  ay_select : Hearer
  ay_write : Hearer
  border : Hearer
  paging : Hearer

-- one that may hear, and whether the port is its own
pub record Listener : Type 0 where
  pub who : Hearer
  pub own : Bool

abbrev pub listens : Hearer → Bool → Listener
listens h own = record { who = h; own = own }

-- "C000h class ..; 8000h class ..; even port, border ..; & 8002h = 0 on 128K"
abbrev pub listeners : ZXMachine → ℕ → List Listener
listeners m port =
    listens ay_select (class_c000 port) ∷
    listens ay_write (class8000 port) ∷
    listens border (even_port port) ∷
    listens paging (paging_port port && has7ffd m) ∷
    []

-- the order picks one: the first whose own the port is
abbrev pub first_of : List Listener → List Hearer
first_of [] = []
first_of (l ∷ ls) = cond l.own (l.who ∷ []) (first_of ls)

unfoldable pub port_hearers : ZXMachine → ℕ → List Hearer
port_hearers m port = first_of (listeners m port)

-- "extender" first: it hears alone what it claims
abbrev pub hearers : ZXMachine → Devices → ℕ → List Hearer
hearers m d port = cond (claims d.extender) (extender ∷ []) (port_hearers m port)

-- "extender 1; C000h class 2; 8000h class 3; even port, border 4; .. paged 5 or locked 6"; `answer` is what the 7FFD write answers, 5 or 6
abbrev pub hearer_code : Hearer → ℕ → ℕ
hearer_code extender answer = 1
hearer_code ay_select answer = 2
hearer_code ay_write answer = 3
hearer_code border answer = 4
hearer_code paging answer = answer

-- "else 0": nobody hears
abbrev pub heard_code : List Hearer → ℕ → ℕ
heard_code [] answer = 0
heard_code (h ∷ hs) answer = hearer_code h answer

-- whom the code's enum stands for
abbrev pub hearers_of : Written → List Hearer
hearers_of written.Extender = extender ∷ []
hearers_of written.AySelect = ay_select ∷ []
hearers_of written.AyWrite = ay_write ∷ []
hearers_of written.Border = border ∷ []
hearers_of written.Paging = paging ∷ []
hearers_of written.Nothing = []
