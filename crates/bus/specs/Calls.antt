-- Document 01, "Bus calls": waits, port read and port write, each as the operations that the core decides.
-- Assumes nothing.
use Rattle.std.specs.Prelude.{ℕ, ◌%◌, Bool, cond, List, [], ◌∷◌, ◌++◌, Option, Some, None}
use Rattle.machine.specs.declared.ZXMachine.{ZXMachine}
use Rattle.machine.specs.Numbers.{specs_of}
use Rattle.machine.specs.Timing.{delay_at}
use Rattle.machine.specs.Contended.{port_contended}
use Rattle.memory.specs.declared.Paged.{Paged}
use Rattle.memory.specs.declared.Paged.TheVariants as paging
use Rattle.memory.specs.Paging.{addr_contended, write7ffd, paged_code}
use Rattle.memory.specs.Memory.{peeked}
use Rattle.ports.specs.declared.Devices.{Devices}
use Rattle.ports.specs.Order.{read_order}
use Rattle.ports.specs.Hearers as hearer
use Rattle.ports.specs.Hearers.{Hearer, hearers, heard_code}
use Rattle.ports.specs.Floating.{floating_place, floating_address}
use Rattle.bus.specs.World.{Core}
use Rattle.bus.specs.Time.{due, Op, step, tick, colour, silent, paged}
use Rattle.bus.specs.Turns.{Part, and_then, core_after}

-- a page is contended wherever it is mapped; a port is looked up "as an address" too
abbrev pub contended : ZXMachine → ℕ → Core → Bool
contended m addr c = addr_contended m c.paging addr

-- a step of the delay that is due now, and n more
abbrev pub delay_step : ZXMachine → ℕ → Part
delay_step m n c = step (due (delay_at (specs_of m) c.clock)) n ∷ []

-- "Plain wait: one step."
abbrev pub plain_wait : ℕ → Part
plain_wait n c = tick n ∷ []

-- "if its page is contended a step of the delay"; "if the port as an address is contended, a step of the delay"
unfoldable pub delayed : ZXMachine → ℕ → Part
delayed m addr c = cond (contended m addr c) (delay_step m 0 c) []

-- "Wait (a memory request, or one without) at an address: if its page is contended a step of the delay, then a step of n."
abbrev pub address_wait : ZXMachine → ℕ → ℕ → Part
address_wait m addr n = and_then m (delayed m addr) (plain_wait n)

-- "Port first part: if the port as an address is contended, a step of the delay; a step of 1."
abbrev pub first_part : ZXMachine → ℕ → Part
first_part m port = address_wait m port 1

-- "Last part: an even port steps delay + 2; else a contended address steps delay + 1, delay + 1, delay; else 2."
unfoldable pub last_part : ZXMachine → ℕ → Part
last_part m port c =
    cond (port_contended m port) (delay_step m 2 c)
    (cond (contended m port c)
    (and_then m (delay_step m 1) (and_then m (delay_step m 1) (delay_step m 0)) c)
    (plain_wait 2 c))

-- "Then a final step of 1."
abbrev pub final_step : Part
final_step = plain_wait 1

-- a port read: its value is taken before the final step
abbrev pub read_before : ZXMachine → ℕ → Part
read_before m port = and_then m (first_part m port) (last_part m port)

abbrev pub port_read : ZXMachine → ℕ → Part
port_read m port = and_then m (read_before m port) final_step

-- the byte at an address of the floating bus, which is never in ROM, so that none is lent; FFh where nothing is fetched
abbrev pub floating_byte : ZXMachine → Option ℕ → Core → ℕ
floating_byte m None c = 0xFF
floating_byte m (Some addr) c = peeked m c.paging [] c.ram addr

unfoldable pub floating_bus : ZXMachine → Core → ℕ
floating_bus m c = floating_byte m (floating_address (floating_place (specs_of m) c.clock)) c

-- the value of a read, by the core when it is taken
abbrev pub answered : ZXMachine → Option ℕ → Core → ℕ
answered m (Some v) c = v
answered m None c = floating_bus m c

unfoldable pub read_value : ZXMachine → Devices → ℕ → Core → ℕ
read_value m d port c = answered m (read_order d port) (core_after m (read_before m port c) c)

-- what a 7FFD write does to the bus
abbrev pub paging_ops : Paged → List Op
paging_ops paging.Absent = []
paging_ops paging.Locked = []
paging_ops (paging.Taken v) = silent (paged v) ∷ []

abbrev pub paging_write : ZXMachine → ℕ → Part
paging_write m v c = paging_ops (write7ffd m c.paging v)

-- what one that hears a write does to the bus: the border takes bits 0 to 2; extender and AY are the firmware's
abbrev pub acts : ZXMachine → Hearer → ℕ → Part
acts m hearer.extender v c = []
acts m hearer.ay_select v c = []
acts m hearer.ay_write v c = []
acts m hearer.border v c = colour (v % 8) ∷ []
acts m hearer.paging v c = paging_write m v c

-- what all that hear it do, in their order: each acts on the core that those before it left
abbrev pub acted_on : ZXMachine → List Hearer → ℕ → Part
acted_on m [] v c = []
acted_on m (h ∷ hs) v c = acts m h v c ++ acted_on m hs v (core_after m (acts m h v c) c)

-- "writes act between first and last part"
abbrev pub port_write : ZXMachine → Devices → ℕ → ℕ → Part
port_write m d port v =
    and_then m (first_part m port)
    (and_then m (acted_on m (hearers m d port) v)
    (and_then m (last_part m port) final_step))

-- "Write order, with its code": that of those that hear it; whether paging is locked is judged when the write acts
unfoldable pub write_code : ZXMachine → Devices → ℕ → ℕ → Core → ℕ
write_code m d port v c =
    heard_code (hearers m d port) (paged_code (write7ffd m (core_after m (first_part m port c) c).paging v))
