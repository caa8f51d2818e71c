-- Document 01, "Lent memory", second paragraph: the 23 bytes of the state record, what they stand for, and when they are sound.
-- Assumes nothing.
use Rattle.std.specs.Prelude.{ℕ, ◌+◌, ◌/◌, ◌<◌, List, [], ◌∷◌, ◌++◌, Bool, true, false, cond, not, ◌&&◌, ◌||◌, length, eqb, leb, ltb, Result, Ok, Err}
use Rattle.std.proofs.lemmas.List.Edits.{sets}
use Rattle.machine.specs.declared.ZXMachine.{ZXMachine}
use Rattle.machine.specs.declared.ZXMachine.TheVariants.{Sinclair48K, Sinclair128K}
use Rattle.machine.specs.Numbers.{specs_of}
use Rattle.machine.specs.Timing.{block_position, border_position, frame_end}
use Rattle.record.specs.declared.Bus.{Bus}
use Rattle.record.specs.declared.BadRecord.{BadRecord}
use Rattle.record.specs.declared.BadRecord.TheVariants.{WrongLength, Unsound}
use Rattle.record.specs.Words.{bytes16, bytes32, byte_at, word_at, long_at}

-- "`ULB`; version 1 (16 bits)"
abbrev pub mark : List ℕ
mark = 85 ∷ 76 ∷ 66 ∷ []

abbrev pub version : ℕ
version = 1

-- "machine (0 = 48K, 1 = 128K)"
abbrev pub machine_number : ZXMachine → ℕ
machine_number Sinclair48K = 0
machine_number Sinclair128K = 1

abbrev pub machine_of : ℕ → ZXMachine
machine_of n = cond (eqb n 0) Sinclair48K Sinclair128K

-- "beam blocked 0/1"
abbrev pub flag_byte : Bool → ℕ
flag_byte t = cond t 1 0

-- "The state record has 23 bytes, little-endian: `ULB`; version 1 (16 bits); machine; frame clock (32); passed frames (32); flash phase;
-- blocks painted (16); last 7FFD byte; reported border; beam colour; beam blocked; beam position in pixel pairs (16)."
abbrev pub record_bytes : Bus → List ℕ
record_bytes b =
    mark
    ++ bytes16 version
    ++ (machine_number b.machine ∷ [])
    ++ bytes32 b.clock
    ++ bytes32 b.passed
    ++ (b.phase ∷ [])
    ++ bytes16 b.painted
    ++ (b.paging ∷ b.reported ∷ b.colour ∷ flag_byte b.blocked ∷ [])
    ++ bytes16 b.pairs

-- where each field starts: behind the one before it
abbrev pub version_at : ℕ
version_at = 3

abbrev pub machine_at : ℕ
machine_at = version_at + 2

abbrev pub clock_at : ℕ
clock_at = machine_at + 1

abbrev pub passed_at : ℕ
passed_at = clock_at + 4

abbrev pub phase_at : ℕ
phase_at = passed_at + 4

abbrev pub painted_at : ℕ
painted_at = phase_at + 1

abbrev pub paging_at : ℕ
paging_at = painted_at + 2

abbrev pub reported_at : ℕ
reported_at = paging_at + 1

abbrev pub beam_colour_at : ℕ
beam_colour_at = reported_at + 1

abbrev pub blocked_at : ℕ
blocked_at = beam_colour_at + 1

abbrev pub pairs_at : ℕ
pairs_at = blocked_at + 1

-- "23 bytes"
abbrev pub record_length : ℕ
record_length = pairs_at + 2

-- "passed frames (32)": the last number that they can have
abbrev pub last_frame : ℕ
last_frame = 4294967295

-- they have room for one more frame, or none
abbrev pub HasRoom : ℕ → Type 0
HasRoom passed = passed < last_frame

abbrev pub no_room : ℕ → Bool
no_room passed = eqb passed last_frame

-- the bytes of a record whose clock and painted blocks alone have moved
unfoldable pub advanced : List ℕ → ℕ → ℕ → List ℕ
advanced s clock painted = sets (sets s clock_at (bytes32 clock)) painted_at (bytes16 painted)

-- the record that the bytes stand for
abbrev pub record_of : List ℕ → Bus
record_of s =
    record {
      machine = machine_of (byte_at s machine_at);
      clock = long_at s clock_at;
      passed = long_at s passed_at;
      phase = byte_at s phase_at;
      painted = word_at s painted_at;
      paging = byte_at s paging_at;
      reported = byte_at s reported_at;
      colour = byte_at s beam_colour_at;
      blocked = eqb (byte_at s blocked_at) 1;
      pairs = word_at s pairs_at;
    }

-- "ranges hold", of the fields: "passed frames (32); flash phase 0..31; last 7FFD byte; reported border 0..7; beam colour 0..7"
abbrev pub in_range : Bus → Bool
in_range b = leb b.passed last_frame && ltb b.phase 32 && ltb b.paging 256 && ltb b.reported 8 && ltb b.colour 8

-- "frame clock < frame"
abbrev pub clock_in_frame : Bus → Bool
clock_in_frame b = ltb b.clock (specs_of b.machine).frame

-- "blocks painted <= block position of the frame clock"
abbrev pub painted_in_place : Bus → Bool
painted_in_place b = leb b.painted (block_position (specs_of b.machine) b.clock)

-- "beam pairs <= half the border position (38,400 at frame end)"
abbrev pub pairs_in_place : Bus → Bool
pairs_in_place b = leb b.pairs (border_position (specs_of b.machine) b.clock / 2)

-- "blocked only at frame end with pairs 0"
abbrev pub blocked_at_end : Bus → Bool
blocked_at_end b = not b.blocked || (frame_end (specs_of b.machine) b.clock && eqb b.pairs 0)

-- "the 7FFD byte is 0 on 48K"
abbrev pub paging_allowed : ZXMachine → ℕ → Bool
paging_allowed Sinclair48K v = eqb v 0
paging_allowed Sinclair128K v = true

-- "It is sound if .. ranges hold, frame clock < frame, blocks painted <= .., beam pairs <= .., blocked only .., and the 7FFD byte is 0 on 48K."
unfoldable pub sound_bus : Bus → Bool
sound_bus b =
    in_range b && clock_in_frame b && painted_in_place b && pairs_in_place b && blocked_at_end b && paging_allowed b.machine b.paging

-- "mark, version .. hold"
abbrev pub marked : List ℕ → Bool
marked s = eqb (byte_at s 0) 85 && eqb (byte_at s 1) 76 && eqb (byte_at s 2) 66 && eqb (word_at s version_at) version

-- "ranges hold", of the two bytes that are no numbers of the record: "machine (0 = 48K, 1 = 128K)", "beam blocked 0/1"
abbrev pub codes_in_range : List ℕ → Bool
codes_in_range s = ltb (byte_at s machine_at) 2 && ltb (byte_at s blocked_at) 2

-- the same of bytes: "mark, version and ranges hold", and the record that they stand for is sound
unfoldable pub sound_bytes : List ℕ → Bool
sound_bytes s = marked s && codes_in_range s && sound_bus (record_of s)

-- what a lent slice holds; by document 01's order of refusals its length is judged first
unfoldable pub held_by : List ℕ → Result Bus BadRecord
held_by s = cond (eqb (length s) record_length) (cond (sound_bytes s) (Ok (record_of s)) (Err Unsound)) (Err WrongLength)

-- A fresh record: zeros but for mark, version and machine, and for what is handed in: the 7FFD byte, the reported border and the beam's colour. An import
-- writes "a fresh record with border, paging and lock" (02, Q-4).
abbrev pub fresh_record : ZXMachine → ℕ → ℕ → ℕ → Bus
fresh_record m paging reported colour =
    record {
      machine = m;
      clock = 0;
      passed = 0;
      phase = 0;
      painted = 0;
      paging = paging;
      reported = reported;
      colour = colour;
      blocked = false;
      pairs = 0;
    }

-- "Start .. writes a record of zeros but for mark, version, machine and beam colour 7." In the place of the 7 stands the start's own colour: "Start shall
-- set the beam colour to 0", and there is "a second start that takes the beam colour" (02, Q-3).
abbrev pub start_record : ZXMachine → ℕ → Bus
start_record m colour = fresh_record m 0 0 colour

-- the record with one field changed: another 7FFD byte, and other passed frames
abbrev pub with_paging : ℕ → Bus → Bus
with_paging v bus =
    record {
      machine = bus.machine;
      clock = bus.clock;
      passed = bus.passed;
      phase = bus.phase;
      painted = bus.painted;
      paging = v;
      reported = bus.reported;
      colour = bus.colour;
      blocked = bus.blocked;
      pairs = bus.pairs;
    }

abbrev pub with_passed : ℕ → Bus → Bus
with_passed n bus =
    record {
      machine = bus.machine;
      clock = bus.clock;
      passed = n;
      phase = bus.phase;
      painted = bus.painted;
      paging = bus.paging;
      reported = bus.reported;
      colour = bus.colour;
      blocked = bus.blocked;
      pairs = bus.pairs;
    }
