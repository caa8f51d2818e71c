-- Byte reads without a call: a map of the four blocks, made by four calls of `ulb_block`, and what keeps it good. A firmware that reads ten
-- thousand bytes a frame then need not have the record judged for each; proofs/Map.antt shows that the bytes are those of `ulb_read_internal`.
-- Assumes nothing.
use Rattle.std.specs.Prelude.{ℕ, ◌+◌, ◌/◌, ◌%◌, ◌≤◌, ◌≡◌, List, [], ◌∷◌, ◌++◌, get_or}
use Rattle.record.specs.Words.{byte_at, long_at}
use Rattle.record.specs.Record.{record_of}
use Rattle.contracts.specs.Timed.{Lent, wait_internal, wait_at, read_io, write_io}
use Rattle.contracts.specs.Plain.{block_told, write7ffd_call, reset_frames}

-- the number that a 5-byte answer gives: "refusal, number (32)"
abbrev pub number_in : List ℕ → ℕ
number_in answer = long_at answer 1

-- the code that a 10-byte answer gives: "refusal; value or code"
abbrev pub code_in : List ℕ → ℕ
code_in answer = byte_at answer 1

-- a call of `ulb_block` on this record, whatever it was lent besides, was accepted and named this start
pub record Named (state : List ℕ) (block start : ℕ) : Type 0 where
  pub rom : List ℕ
  pub ram : List ℕ
  pub answer : List ℕ
  pub accepted : (block_told state rom ram block answer).code ≡ 0
  pub names : number_in (block_told state rom ram block answer).answer ≡ start

-- A MAP OF THE FOUR BLOCKS: for each the start that `ulb_block` named, "RAM counted after ROM"
abbrev pub MapOf : List ℕ → (ℕ → ℕ) → Type 0
MapOf state map = (block : ℕ) → block ≤ 3 → Named state block (map block)

-- a byte by a start and an offset: of the ROM with the RAM counted after it
abbrev pub counted : List ℕ → List ℕ → ℕ → ℕ
counted rom ram at = get_or (rom ++ ram) at 0

-- the byte at an address by a map: from its block's start on, at its offset in the block
abbrev pub mapped : (ℕ → ℕ) → List ℕ → List ℕ → ℕ → ℕ
mapped map rom ram addr = counted rom ram (map (addr / 16384) + addr % 16384)

-- two records page alike: the same machine and the same 7FFD byte, whatever else they hold
pub record Alike (s t : List ℕ) : Type 0 where
  pub machine : (record_of s).machine ≡ (record_of t).machine
  pub paging : (record_of s).paging ≡ (record_of t).paging

-- the code that says that paging changed: "paged 5"
abbrev pub renews : ℕ
renews = 5

-- What each call that may write the record leaves of it, but for a start: a port write and a 7FFD write only where they do not answer 5.
-- Refused calls are among them. Every other call is lent the record by `&`, and cannot write it.
pub data Quiet (before after : List ℕ) : Type 0 where
  waited : (l : Lent) (clocks : ℕ) (answer : List ℕ) → before ≡ l.state → after ≡ (wait_internal l clocks answer).slices.state → Quiet before after
  waited_at : (l : Lent) (addr clocks : ℕ) (answer : List ℕ) → before ≡ l.state → after ≡ (wait_at l addr clocks answer).slices.state → Quiet before after
  read_port : (l : Lent) (devices : List ℕ) (port : ℕ) (answer : List ℕ) → before ≡ l.state → after ≡ (read_io l devices port answer).slices.state → Quiet before after
  wrote_port : (l : Lent) (devices : List ℕ) (port value : ℕ) (answer : List ℕ) → before ≡ l.state → after ≡ (write_io l devices port value answer).slices.state
      → ((write_io l devices port value answer).code ≡ 0 → code_in (write_io l devices port value answer).answer ≡ renews → ⊥) → Quiet before after
  wrote7ffd : (value : ℕ) (answer : List ℕ) → after ≡ (write7ffd_call before value answer).state
      → ((write7ffd_call before value answer).code ≡ 0 → number_in (write7ffd_call before value answer).answer ≡ renews → ⊥) → Quiet before after
  reset : after ≡ (reset_frames before).slice → Quiet before after

-- such calls one after the other, by the records that they leave
abbrev pub AllQuiet : List ℕ → List (List ℕ) → Type 0
AllQuiet state [] = Unit {0}
AllQuiet state (next ∷ later) = Quiet state next × AllQuiet next later

abbrev pub last : List ℕ → List (List ℕ) → List ℕ
last state [] = state
last state (next ∷ later) = last next later
