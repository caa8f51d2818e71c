-- Document 01: start, the waits, port read and port write, as C calls them; and the start of document 02 that takes a colour (Q-3).
-- Assumes nothing.
use Rattle.std.specs.Prelude.{ℕ, List, length, Result, Ok, Err}
use Rattle.machine.specs.declared.ZXMachine.{ZXMachine}
use Rattle.machine.specs.Timing.{interrupt}
use Rattle.record.specs.declared.Bus.{Bus}
use Rattle.record.specs.Record.{record_bytes, machine_of}
use Rattle.ports.specs.Devices.{devices_of}
use Rattle.bus.specs.World.{Core, World, world_of, bus_of, started}
use Rattle.bus.specs.Turns.{Turn, Part, fresh, ran_by}
use Rattle.bus.specs.Calls.{plain_wait, address_wait, port_read, read_value, port_write, write_code}
use Rattle.judgement.specs.declared.Refusal.{Refusal}
use Rattle.judgement.specs.Refusals.{refusal_number}
use Rattle.judgement.specs.Judges.{judge_start, judge_wait, judge_port}
use Rattle.judgement.specs.Answers.{timed_answer, refused_answer, timed_length}

-- the machine's own slices: state record, RAM, pictures A and B, border
pub record Lent : Type 0 where
  pub state : List ℕ
  pub ram : List ℕ
  pub a : List ℕ
  pub b : List ℕ
  pub border : List ℕ

abbrev pub lent : List ℕ → List ℕ → List ℕ → List ℕ → List ℕ → Lent
lent state ram a b border = record { state = state; ram = ram; a = a; b = b; border = border }

-- the slices of a machine and its world
abbrev pub lent_by : ZXMachine → World → Lent
lent_by m w = lent (record_bytes (bus_of m w)) w.core.ram w.screen.a w.screen.b w.edge.pixels

-- the world of a sound record among its slices
abbrev pub lent_world : Bus → Lent → World
lent_world bus l = world_of bus l.ram l.a l.b l.border

-- what a timed call leaves: the number that it returns, the slices, and the answer
pub record Outcome : Type 0 where
  pub code : ℕ
  pub slices : Lent
  pub answer : List ℕ

abbrev pub outcome : ℕ → Lent → List ℕ → Outcome
outcome code slices answer = record { code = code; slices = slices; answer = answer }

-- an accepted timed call, when its operations have run
abbrev pub timed_end : Turn → ℕ → Outcome
timed_end t value =
    outcome 0 (lent_by t.machine t.world) (timed_answer value t.closed (interrupt t.world.core.clock) t.clocks t.blocks)

-- a timed call: its operations, and its value or code, are what the core at entry decides. "A refused call fills its answer .., returns the
-- number .. and writes nothing else."
unfoldable pub timed_call : (ZXMachine → Part) → (ZXMachine → Core → ℕ) → Lent → List ℕ → Result Bus Refusal → Outcome
timed_call part value l answer (Err e) = outcome (refusal_number e) l (refused_answer timed_length (refusal_number e) answer)
timed_call part value l answer (Ok bus) =
    timed_end (ran_by (part bus.machine) (fresh bus.machine (lent_world bus l))) (value bus.machine (lent_world bus l).core)

-- "value or code (0 for a wait)"
abbrev pub no_value : ZXMachine → Core → ℕ
no_value m c = 0

abbrev pub judge_wait_of : Lent → ℕ → List ℕ → Result Bus Refusal
judge_wait_of l clocks answer =
    judge_wait l.state (length l.ram) (length l.a) (length l.b) (length l.border) clocks (length answer)

abbrev pub judge_port_of : Lent → List ℕ → List ℕ → Result Bus Refusal
judge_port_of l devices answer =
    judge_port l.state devices (length l.ram) (length l.a) (length l.b) (length l.border) (length answer)

-- ulb_wait_internal: the plain wait
unfoldable pub wait_internal : Lent → ℕ → List ℕ → Outcome
wait_internal l clocks answer = timed_call (λ m. plain_wait clocks) no_value l answer (judge_wait_of l clocks answer)

-- ulb_wait_mreq and ulb_wait_no_mreq: "Wait (a memory request, or one without) at an address"
unfoldable pub wait_at : Lent → ℕ → ℕ → List ℕ → Outcome
wait_at l addr clocks answer = timed_call (λ m. address_wait m addr clocks) no_value l answer (judge_wait_of l clocks answer)

-- ulb_read_io
unfoldable pub read_io : Lent → List ℕ → ℕ → List ℕ → Outcome
read_io l devices port answer =
    timed_call (λ m. port_read m port) (λ m. read_value m (devices_of devices) port) l answer (judge_port_of l devices answer)

-- ulb_write_io
unfoldable pub write_io : Lent → List ℕ → ℕ → ℕ → List ℕ → Outcome
write_io l devices port value answer =
    timed_call (λ m. port_write m (devices_of devices) port value) (λ m. write_code m (devices_of devices) port value) l answer
    (judge_port_of l devices answer)

-- what a start leaves
pub record Started : Type 0 where
  pub code : ℕ
  pub slices : Lent

abbrev pub start_leaves : ℕ → Lent → Started
start_leaves code slices = record { code = code; slices = slices }

-- a start by its verdict: the slices as they were, or the new ones
unfoldable pub begun : Lent → Lent → Result Bus Refusal → Started
begun l new (Err e) = start_leaves (refusal_number e) l
begun l new (Ok bus) = start_leaves 0 new

abbrev pub judge_start_of : Lent → ℕ → ℕ → Result Bus Refusal
judge_start_of l machine colour =
    judge_start (length l.state) (length l.ram) (length l.a) (length l.b) (length l.border) machine colour

-- ulb_start_colour, "a second start that takes the beam colour" (02, Q-3): accepted, it leaves the slices of its machine as it begins
unfoldable pub start_colour : Lent → ℕ → ℕ → Started
start_colour l machine colour = begun l (lent_by (machine_of machine) (started (machine_of machine) colour)) (judge_start_of l machine colour)

-- ulb_start: "Start shall set the beam colour to 0, as the reported border already is" (02, Q-3)
abbrev pub black : ℕ
black = 0

abbrev pub start : Lent → ℕ → Started
start l machine = start_colour l machine black
