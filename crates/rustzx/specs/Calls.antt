-- The domain of demand 2: lists of accepted calls that the Rust has. What the Rust does and answers, and what document 01 says, side by side.
-- Assumes nothing.
use Rattle.std.specs.Prelude.{ℕ, ◌+◌, ◌<◌, ◌≤◌, ◌≡◌, Bool, true, false, cond, List, [], ◌∷◌, leb, length}
use Rattle.machine.specs.declared.ZXMachine as ours
use Rattle.machine.specs.Timing.{interrupt}
use Rattle.record.specs.Record.{flag_byte, HasRoom}
use Rattle.memory.specs.Paging as paging
use Rattle.memory.specs.Paging.{page_at, page_exists, paged_code}
use Rattle.memory.specs.Memory.{peeked, ram_page, page_part}
use Rattle.ports.specs.declared.Devices.{Devices}
use Rattle.bus.specs.World.{World}
use Rattle.bus.specs.Time.{shown_picture}
use Rattle.bus.specs.Turns.{Part, fresh, ran_by}
use Rattle.bus.specs.Calls.{plain_wait, address_wait, port_read, read_value, paging_write, port_write, write_code}
use Rattle.rustzx.specs.Panics.{OrPanic, done, on_done}
use Rattle.rustzx.specs.Machine.{ZXMachine, specs}
use Rattle.rustzx.specs.Memory.{ram_page_data, block_data}
use Rattle.rustzx.specs.Screen.{block_index}
use Rattle.rustzx.specs.Related.{attached_of}
use Rattle.rustzx.specs.Controller as rust
use Rattle.rustzx.specs.Controller.{ZXController, Reached, Wrote}
use Rattle.bus.specs.Pokes.{byte_write, page_load, passed_reset}
use Rattle.machine.specs.Limits.{longest_wait}

-- the calls, each by its name in the Rust, with its arguments; `shown_picture` and `border` are the two `frame_buffer`s
pub data Call : Type 0 where
  wait_internal : ℕ → Call
  wait_mreq : ℕ → ℕ → Call
  wait_no_mreq : ℕ → ℕ → Call
  read_io : Devices → ℕ → Call
  write_io : Devices → ℕ → ℕ → Call
  read_internal : ℕ → Call
  write_internal : ℕ → ℕ → Call
  write7ffd : ℕ → Call
  read7ffd : Call
  int_active : Call
  frames_count : Call
  reset_frame_counter : Call
  load_page : ℕ → List ℕ → Call
  ram_page_of : ℕ → Call
  block_of : ℕ → Call
  screen_buffer : Call
  border_buffer : Call

-- "with its code": "extender 1; C000h class 2; 8000h class 3; even port, border 4; .. paged 5 or locked 6; else 0", by whom the Rust reached
abbrev pub reached_code : Reached → ℕ
reached_code rust.to_extender = 1
reached_code rust.to_ay_select = 2
reached_code rust.to_ay_write = 3
reached_code rust.to_border = 4
reached_code (rust.to_paging true) = 5
reached_code (rust.to_paging false) = 6
reached_code rust.to_nobody = 0

-- "The 7FFD write answers 5, 6, or on 48K 0": 48K is the machine that ZXController::new starts with paging not enabled
abbrev pub paging_code : ZXMachine → Reached → ℕ
paging_code m who = cond (rust.paged m) (reached_code who) 0

-- what a call answers, as bytes and numbers: none, one, a page's 16,384 or a picture's; a write, the code of whom it reached
pub record Given : Type 0 where
  pub controller : ZXController
  pub answer : List ℕ

-- ---- the Rust
abbrev pub gives : ZXController → List ℕ → Given
gives c answer = record { controller = c; answer = answer }

abbrev pub acted : OrPanic ZXController → OrPanic Given
acted r = on_done r (λ c. done (gives c []))

abbrev pub wrote : (Reached → ℕ) → OrPanic Wrote → OrPanic Given
wrote code r = on_done r (λ w. done (gives w.controller (code w.reached ∷ [])))

abbrev pub hands_out : ZXController → OrPanic (List ℕ) → OrPanic Given
hands_out c r = on_done r (λ answer. done (gives c answer))

unfoldable pub performed : Call → ZXController → OrPanic Given
performed (wait_internal n) c = done (gives (rust.wait_internal n c) [])
performed (wait_mreq addr n) c = done (gives (rust.wait_mreq addr n c) [])
performed (wait_no_mreq addr n) c = done (gives (rust.wait_no_mreq addr n c) [])
performed (read_io d port) c = on_done (rust.read_io (attached_of d) port c) (λ a. done (gives a.controller (a.value ∷ [])))
performed (write_io d port value) c = wrote reached_code (rust.write_io (attached_of d) port value c)
performed (read_internal addr) c = done (gives c (rust.read_internal addr c ∷ []))
performed (write_internal addr value) c = acted (rust.write_internal addr value c)
performed (write7ffd value) c = wrote (paging_code c.machine) (rust.write7ffd value c)
performed read7ffd c = done (gives c (c.current_port7ffd ∷ []))
performed int_active c = done (gives c (cond (rust.int_active c) 1 0 ∷ []))
performed frames_count c = done (gives c (c.passed_frames ∷ []))
performed reset_frame_counter c = done (gives (rust.reset_frame_counter c) [])
performed (load_page page bytes) c = acted (rust.load_and_refresh page bytes c)
performed (ram_page_of page) c = hands_out c (ram_page_data c.memory page)
performed (block_of block) c = hands_out c (block_data c.memory block)
performed screen_buffer c = done (gives c c.screen.buffer)
performed border_buffer c = done (gives c c.border.buffer)

-- ---- document 01
abbrev pub nothing : Part
nothing c = []

unfoldable pub part_of : ours.ZXMachine → Call → Part
part_of m (wait_internal n) = plain_wait n
part_of m (wait_mreq addr n) = address_wait m addr n
part_of m (wait_no_mreq addr n) = address_wait m addr n
part_of m (read_io d port) = port_read m port
part_of m (write_io d port value) = port_write m d port value
part_of m (read_internal addr) = nothing
part_of m (write_internal addr value) = byte_write m addr value
part_of m (write7ffd value) = paging_write m value
part_of m read7ffd = nothing
part_of m int_active = nothing
part_of m frames_count = nothing
part_of m reset_frame_counter = passed_reset
part_of m (load_page page bytes) = page_load page bytes
part_of m (ram_page_of page) = nothing
part_of m (block_of block) = nothing
part_of m screen_buffer = nothing
part_of m border_buffer = nothing

unfoldable pub answer_of : ours.ZXMachine → List ℕ → Call → World → List ℕ
answer_of m rom (wait_internal n) w = []
answer_of m rom (wait_mreq addr n) w = []
answer_of m rom (wait_no_mreq addr n) w = []
answer_of m rom (read_io d port) w = read_value m d port w.core ∷ []
answer_of m rom (write_io d port value) w = write_code m d port value w.core ∷ []
answer_of m rom (read_internal addr) w = peeked m w.core.paging rom w.core.ram addr ∷ []
answer_of m rom (write_internal addr value) w = []
answer_of m rom (write7ffd value) w = paged_code (paging.write7ffd m w.core.paging value) ∷ []
answer_of m rom read7ffd w = w.core.paging ∷ []
answer_of m rom int_active w = flag_byte (interrupt w.core.clock) ∷ []
answer_of m rom frames_count w = w.core.passed ∷ []
answer_of m rom reset_frame_counter w = []
answer_of m rom (load_page page bytes) w = []
answer_of m rom (ram_page_of page) w = ram_page page w.core.ram
answer_of m rom (block_of block) w = page_part (page_at m w.core.paging block) rom w.core.ram
answer_of m rom screen_buffer w = shown_picture w.core w.screen
answer_of m rom border_buffer w = w.edge.pixels

-- the world that a call leaves
abbrev pub after : ours.ZXMachine → Call → World → World
after m k w = (ran_by (part_of m k) (fresh m w)).world

-- what the eight refusals leave of such a call: no wait above 65,535 clocks (5), passed frames below 4,294,967,295 for a timed call (6), a tape
-- bit of 0 or 1 (4), a page that is there and 16,384 bytes for it (7, 2), a block of at most 3 (8); a byte is a byte
abbrev pub Accepted : ours.ZXMachine → Call → World → Type 0
Accepted m (wait_internal n) w = (n ≤ longest_wait) × HasRoom w.core.passed
Accepted m (wait_mreq addr n) w = (n ≤ longest_wait) × HasRoom w.core.passed
Accepted m (wait_no_mreq addr n) w = (n ≤ longest_wait) × HasRoom w.core.passed
Accepted m (read_io d port) w = (d.tape < 2) × HasRoom w.core.passed
Accepted m (write_io d port value) w = (value < 256) × HasRoom w.core.passed
Accepted m (read_internal addr) w = Unit {0}
Accepted m (write_internal addr value) w = Unit {0}
Accepted m (write7ffd value) w = value < 256
Accepted m read7ffd w = Unit {0}
Accepted m int_active w = Unit {0}
Accepted m frames_count w = Unit {0}
Accepted m reset_frame_counter w = Unit {0}
Accepted m (load_page page bytes) w = (page_exists m page ≡ true) × (length bytes ≡ 16384)
Accepted m (ram_page_of page) w = page_exists m page ≡ true
Accepted m (block_of block) w = leb block 3 ≡ true
Accepted m screen_buffer w = Unit {0}
Accepted m border_buffer w = Unit {0}

-- ---- lists of calls, the first of them first
pub record Seen : Type 0 where
  pub controller : ZXController
  pub answers : List (List ℕ)

unfoldable pub all_performed : List Call → ZXController → OrPanic Seen
all_performed [] c = done (record { controller = c; answers = [] })
all_performed (k ∷ ks) c =
    on_done (performed k c) (λ g.
    on_done (all_performed ks g.controller) (λ s. done (record { controller = s.controller; answers = g.answer ∷ s.answers })))

unfoldable pub all_answers : ours.ZXMachine → List ℕ → List Call → World → List (List ℕ)
all_answers m rom [] w = []
all_answers m rom (k ∷ ks) w = answer_of m rom k w ∷ all_answers m rom ks (after m k w)

unfoldable pub after_all : ours.ZXMachine → List Call → World → World
after_all m [] w = w
after_all m (k ∷ ks) w = after_all m ks (after m k w)

abbrev pub AllAccepted : ours.ZXMachine → List Call → World → Type 0
AllAccepted m [] w = Unit {0}
AllAccepted m (k ∷ ks) w = Accepted m k w × AllAccepted m ks (after m k w)

-- What a timed answer reports, read off the Rust before and after the call: its clocks are the move of the frame clock, by way of the frame's
-- clocks if it closed one; passed frames tell whether it did; its blocks are the move of `last_blocks`, by way of 6,144; its interrupt is int_active.
pub record TimedByRust (c c' : ZXController) (clocks blocks : ℕ) (closed int : Bool) : Type 0 where
  pub clock : c.frame_clocks + clocks ≡ cond closed (specs c.machine).clocks_frame 0 + c'.frame_clocks
  pub passed : c'.passed_frames ≡ c.passed_frames + cond closed 1 0
  pub painted : block_index c.screen.last_blocks + blocks ≡ cond closed 6144 0 + block_index c'.screen.last_blocks
  pub interrupt : rust.int_active c' ≡ int
