-- What an accepted call may count on: the facts that its causes, all false, leave. One record of named facts for each judgement.
-- Assumes nothing.
use Rattle.std.specs.Prelude.{ℕ, ◌≤◌, ◌≡◌, Bool, true, false, List, length, Ok}
use Rattle.machine.specs.declared.ZXMachine.{ZXMachine}
use Rattle.machine.specs.Numbers.{specs_of}
use Rattle.machine.specs.Limits.{picture_length, border_length, page_length, longest_wait}
use Rattle.record.specs.declared.Bus.{Bus}
use Rattle.record.specs.Record.{record_length, record_of, held_by, HasRoom, machine_of, start_record}
use Rattle.record.specs.Sound.{Sound}
use Rattle.memory.specs.Paging.{page_exists}
use Rattle.memory.specs.Screens.{screen_length, video_page}
use Rattle.ports.specs.Devices.{flags_of, devices_length}
use Rattle.snapshot.specs.File.{due_size, paging_in, copies_differ}
use Rattle.snapshot.specs.Kept.{registers_length, snapshot_record}
use Rattle.judgement.specs.Answers.{timed_length, number_length}

-- the slices of a start, and of an import, have their machine's lengths
pub record StartFit (m : ZXMachine) (state ram a b border : ℕ) : Type 0 where
  pub state_is : state ≡ record_length
  pub ram_is : ram ≡ (specs_of m).ram
  pub a_is : a ≡ picture_length
  pub b_is : b ≡ picture_length
  pub border_is : border ≡ border_length

-- a start's machine is one that there is, its slices fit, its colour is one of the eight, and this is the record to write
pub record ReadyStart (state ram a b border machine colour : ℕ) (bus : Bus) : Type 0 where
  pub known : machine ≤ 1
  pub fit : StartFit (machine_of machine) state ram a b border
  pub colour_in : colour ≤ 7
  pub writes : bus ≡ start_record (machine_of machine) colour

-- the lent record is sound, and is this one
pub record OnRecord (state : List ℕ) (bus : Bus) : Type 0 where
  pub long : length state ≡ record_length
  pub is_held : held_by state ≡ Ok bus
  pub decodes : record_of state ≡ bus
  pub sound : Sound bus

-- the slices of a timed call have their lengths
pub record Fit (bus : Bus) (ram a b border answer : ℕ) : Type 0 where
  pub ram_is : ram ≡ (specs_of bus.machine).ram
  pub a_is : a ≡ picture_length
  pub b_is : b ≡ picture_length
  pub border_is : border ≡ border_length
  pub answer_is : answer ≡ timed_length

pub record ReadyWait (state : List ℕ) (ram a b border clocks answer : ℕ) (bus : Bus) : Type 0 where
  pub on_record : OnRecord state bus
  pub fit : Fit bus ram a b border answer
  pub short : clocks ≤ longest_wait
  pub room : HasRoom bus.passed

pub record ReadyPort (state devices : List ℕ) (ram a b border answer : ℕ) (bus : Bus) : Type 0 where
  pub on_record : OnRecord state bus
  pub fit : Fit bus ram a b border answer
  pub devices_is : length devices ≡ devices_length
  pub flags : flags_of devices ≡ true
  pub room : HasRoom bus.passed

pub record ReadyTold (state : List ℕ) (answer : ℕ) (bus : Bus) : Type 0 where
  pub on_record : OnRecord state bus
  pub answer_is : answer ≡ number_length

pub record ReadyRead (state : List ℕ) (rom ram answer : ℕ) (bus : Bus) : Type 0 where
  pub on_record : OnRecord state bus
  pub rom_is : rom ≡ (specs_of bus.machine).rom
  pub ram_is : ram ≡ (specs_of bus.machine).ram
  pub answer_is : answer ≡ number_length

pub record ReadyWrite (state : List ℕ) (ram : ℕ) (bus : Bus) : Type 0 where
  pub on_record : OnRecord state bus
  pub ram_is : ram ≡ (specs_of bus.machine).ram

pub record ReadyLoad (state : List ℕ) (ram bytes page : ℕ) (bus : Bus) : Type 0 where
  pub on_record : OnRecord state bus
  pub ram_is : ram ≡ (specs_of bus.machine).ram
  pub bytes_is : bytes ≡ page_length
  pub exists : page_exists bus.machine page ≡ true

pub record ReadyRamPage (state : List ℕ) (ram page : ℕ) (fits : Bool) (bus : Bus) : Type 0 where
  pub on_record : OnRecord state bus
  pub ram_is : ram ≡ (specs_of bus.machine).ram
  pub answer_fits : fits ≡ true
  pub exists : page_exists bus.machine page ≡ true

pub record ReadyBlock (state : List ℕ) (rom ram block : ℕ) (fits : Bool) (bus : Bus) : Type 0 where
  pub on_record : OnRecord state bus
  pub rom_is : rom ≡ (specs_of bus.machine).rom
  pub ram_is : ram ≡ (specs_of bus.machine).ram
  pub answer_fits : fits ≡ true
  pub block_in : block ≤ 3

pub record ReadyShown (state : List ℕ) (a b : ℕ) (fits : Bool) (bus : Bus) : Type 0 where
  pub on_record : OnRecord state bus
  pub a_is : a ≡ picture_length
  pub b_is : b ≡ picture_length
  pub answer_fits : fits ≡ true

pub record ReadyStill (state : List ℕ) (ram picture flash : ℕ) (bus : Bus) : Type 0 where
  pub on_record : OnRecord state bus
  pub ram_is : ram ≡ (specs_of bus.machine).ram
  pub picture_is : picture ≡ picture_length
  pub flash_in : flash ≤ 1

pub record ReadySaveScr (state : List ℕ) (ram file : ℕ) (bus : Bus) : Type 0 where
  pub on_record : OnRecord state bus
  pub ram_is : ram ≡ (specs_of bus.machine).ram
  pub file_is : file ≡ screen_length

pub record ReadyLoadScr (state : List ℕ) (ram file page : ℕ) (bus : Bus) : Type 0 where
  pub on_record : OnRecord state bus
  pub ram_is : ram ≡ (specs_of bus.machine).ram
  pub file_is : file ≡ screen_length
  pub exists : page_exists bus.machine page ≡ true
  pub video : video_page bus.machine page ≡ true

-- an import's file has the size that is due, and its copies are equal; this is the record to write
pub record ReadyLoadSna (state ram registers a b border machine : ℕ) (file : List ℕ) (bus : Bus) : Type 0 where
  pub known : machine ≤ 1
  pub fit : StartFit (machine_of machine) state ram a b border
  pub registers_is : registers ≡ registers_length
  pub file_is : length file ≡ due_size (machine_of machine) (paging_in (machine_of machine) file)
  pub copies_equal : copies_differ (machine_of machine) file ≡ false
  pub writes : bus ≡ snapshot_record (machine_of machine) file

pub record ReadySaveSna (state : List ℕ) (ram file registers : ℕ) (bus : Bus) : Type 0 where
  pub on_record : OnRecord state bus
  pub ram_is : ram ≡ (specs_of bus.machine).ram
  pub registers_is : registers ≡ registers_length
  pub file_is : file ≡ due_size bus.machine bus.paging
