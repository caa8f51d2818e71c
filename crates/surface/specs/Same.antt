-- When a call of the C surface and a call of the Rust are the same: what the slices hold at exit is what the Rust holds, and the answer's bytes
-- are what the Rust answers and how its state moved.
-- Assumes nothing.
use Rattle.std.specs.Prelude.{ℕ, ◌≡◌, Bool, List, [], ◌∷◌, length, take, drop, Ok}
use Rattle.record.specs.declared.Bus.{Bus}
use Rattle.record.specs.Words.{long_at}
use Rattle.record.specs.Record.{machine_number, held_by}
use Rattle.record.specs.Sound.{Sound}
use Rattle.bus.specs.World.{World, bus_of}
use Rattle.judgement.specs.Answers.{timed_answer, number_answer}
use Rattle.contracts.specs.Timed.{Lent, Outcome, lent_by, lent_world, Started}
use Rattle.contracts.specs.Plain.{Told}
use Rattle.contracts.specs.Calls.{Start, plain_start, colour_start, snapshot_start}
use Rattle.rustzx.specs.Panics.{OrPanic, done, panics}
use Rattle.rustzx.specs.Controller.{ZXController, new, with_rom, set_beam}
use Rattle.rustzx.specs.Machine.{ZXMachine}
use Rattle.rustzx.specs.Colors.{ZXColor, color_byte}
use Rattle.rustzx.specs.Related.{our_machine, Related}
use Rattle.rustzx.specs.Calls.{Call, Given, performed, TimedByRust}

-- the slices hold the Rust's machine: their record is sound and of that machine, and the world that it stands for among them is related to what
-- the Rust holds. Each theorem on a call asks this of what is lent; a start brings it about, and every accepted call leaves it.
pub record SameLent (rom : List ℕ) (c : ZXController) (l : Lent) : Type 0 where
  pub bus : Bus
  pub is_held : held_by l.state ≡ Ok bus
  pub machine : our_machine c.machine ≡ bus.machine
  pub related : Related c.machine rom c (lent_world bus l)

-- a start's number names a machine of the Rust: "machine (0 = 48K, 1 = 128K)"
abbrev pub Names : ℕ → ZXMachine → Type 0
Names number machine = machine_number (our_machine machine) ≡ number

-- an accepted start with colour 7, for which "equality with the Rust's start is claimed" (02, Q-3): the slices hold the Rust's new controller of the
-- machine that it names, with the ROM that the host loads
pub record SameStart (number : ℕ) (rom : List ℕ) (s : Started) : Type 0 where
  pub machine : ZXMachine
  pub named : Names number machine
  pub leaves : SameLent rom (with_rom rom (new machine)) s.slices

-- the two starts, which clear RAM; the Rust has no import (02, Q-4)
abbrev pub Clears : Start → Type 0
Clears (plain_start machine) = Unit {0}
Clears (colour_start machine colour) = Unit {0}
Clears (snapshot_start machine file registers) = ⊥

-- an accepted start with any colour, of which the Rust has none: what it leaves is the Rust's new controller whose beam was given that colour, before any
-- clock, by its own set_border
pub record SameBeam (number colour : ℕ) (rom : List ℕ) (s : Started) : Type 0 where
  pub machine : ZXMachine
  pub named : Names number machine
  pub color : ZXColor
  pub coloured : color_byte color ≡ colour
  pub leaves : SameLent rom (with_rom rom (set_beam color (new machine))) s.slices

-- "value or code (0 for a wait)": a read's value is the Rust's answer, and a write's code the code of whom the Rust reached
abbrev pub NoValue : Given → ℕ → Type 0
NoValue g value = value ≡ 0

abbrev pub ItsValue : Given → ℕ → Type 0
ItsValue g value = g.answer ≡ value ∷ []

-- an accepted timed call: the Rust's call ends; the slices hold, byte for byte, a world that is related to what the Rust then holds, clock, RAM,
-- both pictures and border among it; and the ten bytes of the answer are the Rust's
pub record SameTimed (rom : List ℕ) (k : Call) (Valued : Given → ℕ → Type 0) (c : ZXController) (o : Outcome) : Type 0 where
  pub given : Given
  pub world : World
  pub value : ℕ
  pub clocks : ℕ
  pub blocks : ℕ
  pub closed : Bool
  pub int : Bool
  pub ends : performed k c ≡ done given
  pub related : Related c.machine rom given.controller world
  pub sound : Sound (bus_of (our_machine c.machine) world)
  pub code : o.code ≡ 0
  pub slices : o.slices ≡ lent_by (our_machine c.machine) world
  pub answer : o.answer ≡ timed_answer value closed int clocks blocks
  pub valued : Valued given value
  pub by_rust : TimedByRust c given.controller clocks blocks closed int

-- a call that tells a number: the number of its five bytes is the Rust's answer
pub record SameTold (k : Call) (c : ZXController) (t : Told) : Type 0 where
  pub given : Given
  pub number : ℕ
  pub ends : performed k c ≡ done given
  pub code : t.code ≡ 0
  pub answer : t.answer ≡ number_answer number
  pub valued : given.answer ≡ number ∷ []

-- a call that hands back a part: its bytes are the Rust's
pub record SamePart (k : Call) (c : ZXController) (bytes : List ℕ) : Type 0 where
  pub given : Given
  pub ends : performed k c ≡ done given
  pub valued : given.answer ≡ bytes

-- "a part reaches C by a 5-byte answer with its start as the number": of the lent slices, in the order in which they are counted, the bytes from
-- that number on are the Rust's, as many as the part has
abbrev pub start_in : List ℕ → ℕ
start_in answer = long_at answer 1

pub record SameFound (k : Call) (c : ZXController) (t : Told) (size : ℕ) (counted : List ℕ) : Type 0 where
  pub given : Given
  pub number : ℕ
  pub ends : performed k c ≡ done given
  pub code : t.code ≡ 0
  pub answer : t.answer ≡ number_answer number
  pub valued : given.answer ≡ take size (drop (start_in t.answer) counted)
  pub whole : length given.answer ≡ size

-- a call that changes the machine and is lent a part of it only: the Rust's call ends, and what it then holds is related to the world after
pub record SameMove (rom : List ℕ) (k : Call) (c : ZXController) (after : World) : Type 0 where
  pub given : Given
  pub ends : performed k c ≡ done given
  pub related : Related c.machine rom given.controller after
  pub sound : Sound (bus_of (our_machine c.machine) after)

-- a helper: a number that the Rust gives is the answer's, and where the Rust panics the call is refused by 8
abbrev pub SameHelp : OrPanic ℕ → Told → Type 0
SameHelp (done n) t = (t.code ≡ 0) × (t.answer ≡ number_answer n)
SameHelp panics t = t.code ≡ 8

-- a call by the number of a page or a block: where the Rust gives a value the call returns 0, and where the Rust panics it returns the refusal
abbrev pub SameRefusal : ℕ → OrPanic Given → ℕ → Type 0
SameRefusal refusal (done g) code = code ≡ 0
SameRefusal refusal panics code = code ≡ refusal
