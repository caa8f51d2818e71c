-- THE MAP: what `ulb_block` names once, read without a call, is byte for byte what `ulb_read_internal` answers, of every record with the same
-- machine and the same 7FFD byte, and of ROM and RAM as they stand at the read. It stays good until a call answers 5, or a start.
-- Assumes nothing.
use Prim.Native.Nat.{ℕ, ◌+◌, ◌*◌, ◌/◌, ◌%◌, ◌<◌, ◌^◌}
use mathlib.Core.Path.{◌≡◌, refl, sym, ap, ◌∙◌}
use mathlib.Core.Bool.{true}
use mathlib.Core.List.{List, [], ◌∷◌}
use native.Mathlib.Omega.{arith}
use borrow.Author.Tests.{le-ltb}
use lib.ListN.{length, get_or, get_or-append}
use lib.Seq.{get_or-append-add}
use Rattle.std.specs.Prelude.{Result, Ok, Err}
use Rattle.laws.proofs.Cases.{by_bool}
use Rattle.machine.specs.declared.ZXMachine.{ZXMachine}
use Rattle.machine.specs.declared.ZXMachine.TheVariants.{Sinclair48K, Sinclair128K}
use Rattle.machine.specs.Numbers.{specs_of}
use Rattle.machine.specs.Timing.{delay}
use Rattle.machine.specs.Contended.{port_contended}
use Rattle.record.specs.declared.Bus.{Bus}
use Rattle.record.specs.Record.{machine_number, machine_of, record_bytes, record_of, with_paging, with_passed}
use Rattle.memory.specs.declared.Page.{Page}
use Rattle.memory.specs.declared.Page.TheVariants as page
use Rattle.memory.specs.declared.Paged.{Paged}
use Rattle.memory.specs.declared.Paged.TheVariants as paging
use Rattle.memory.specs.Paging.{page_at, write7ffd, paged_code, paging_after}
use Rattle.memory.specs.Memory.{place_in, place_of, byte_in, peeked, Holds, ram_page, page_part, part_start}
use Rattle.memory.proofs.Places.{exists_fits, map_holds}
use Rattle.memory.proofs.Stored.{block_bytes}
use Rattle.ports.specs.declared.Devices.{Devices}
use Rattle.ports.specs.declared.Written.{Written}
use Rattle.ports.specs.declared.Written.TheVariants as written
use Rattle.ports.specs.Devices.{devices_of}
use Rattle.ports.specs.Hearers as hearer
use Rattle.ports.specs.Hearers.{Hearer, hearers, heard_code, hearers_of}
use Rattle.ports.proofs.Hearing.{picked}
use Rattle.bus.specs.World.{Core, bus_of}
use Rattle.bus.specs.Time.{Op, closes, in_core}
use Rattle.bus.specs.Turns.{core_after, fresh, Part, and_then, ran_by}
use Rattle.bus.specs.Calls.{contended, plain_wait, delayed, address_wait, first_part, delay_step, last_part, final_step, read_before, port_read, paging_ops, acted_on, port_write, write_code}
use Rattle.bus.proofs.Runs.{ran_machine, ran_core, core_then, acts_alone}
use Rattle.judgement.specs.declared.Refusal.{Refusal}
use Rattle.judgement.specs.Judges.{judge_state, judge_told, judge_read, number_fits, judge_ram_page, judge_block}
use Rattle.judgement.specs.Answers.{number_answer}
use Rattle.judgement.specs.Ready.{OnRecord}
use Rattle.judgement.proofs.Order.{read_ordered, block_ordered}
use Rattle.judgement.proofs.Accepted.{ready_wait, ready_port, ready_state, ready_told, ready_read, ready_ram_page, ready_block}
use Rattle.contracts.specs.Timed.{Lent, lent_world, timed_call, judge_wait_of, judge_port_of, wait_internal, wait_at, read_io, write_io}
use Rattle.contracts.specs.Plain.{told, tell, change, repage, read_internal, write7ffd_call, reset_frames, part, ram_page_part, block_part, ram_page_told, block_told}
use Rattle.contracts.specs.Map.{number_in, code_in, Named, MapOf, counted, mapped, Alike, renews, Quiet, waited, waited_at, read_port, wrote_port, wrote7ffd, reset, AllQuiet, last}
use Rattle.contracts.proofs.Parts.{number_back, told_bus, start_small}

-- ---- what a start names

-- a byte of a page, counted in ROM with RAM behind it
page_counted : (m : ZXMachine) (p : Page) (rom ram : List ℕ) (offset : ℕ) → offset < 16384 → length rom ≡ (specs_of m).rom
    → Holds p (specs_of m).rom (specs_of m).ram → byte_in (place_in p offset) rom ram ≡ counted rom ram (part_start m p + offset)
page_counted m (page.Rom p) rom ram offset h n f =
    let e : 16384 * p + 0 + offset ≡ 16384 * p + offset = omega arith in
    rw e (sym (get_or-append rom ram 0 (16384 * p + offset) (omega arith)))
page_counted m (page.Ram p) rom ram offset h n f =
    let e : (specs_of m).rom + (16384 * p + 0) + offset ≡ length rom + (16384 * p + offset) = omega arith in
    rw e (sym (get_or-append-add rom ram (16384 * p + offset) 0))

-- the number that an accepted call tells
number_told : (number : Bus → ℕ) (answer : List ℕ) (v : Result Bus Refusal) (bus : Bus) → v ≡ Ok bus → number bus < 2 ^ 32
    → number_in (tell number answer v).answer ≡ number bus
number_told number answer v bus p h = rw p (number_back (number bus) h)

-- the start that an accepted call of `ulb_block` names
named_start : (state : List ℕ) (block start : ℕ) → Named state block start
    → start ≡ part_start (record_of state).machine (page_at (record_of state).machine (record_of state).paging block)
unfolding block_told
named_start state block start n =
    let number : Bus → ℕ = λ bus. part_start bus.machine (page_at bus.machine bus.paging block) in
    let v = judge_block state (length n.rom) (length n.ram) block (number_fits (length n.answer)) in
    let t = told_bus number n.answer v n.accepted in
    let bus = t.0 in
    let r = ready_block state bus (length n.rom) (length n.ram) block (number_fits (length n.answer)) t.1 in
    let small = start_small bus.machine (page_at bus.machine bus.paging block) (map_holds bus.machine bus.paging block) in
    sym n.names ∙ number_told number n.answer v bus t.1 small ∙ ap number (sym r.on_record.decodes)

-- and the one that an accepted call of `ulb_ram_page` names
ram_page_start : (state : List ℕ) (number start : ℕ) (ram answer : List ℕ) → (ram_page_told state ram number answer).code ≡ 0
    → number_in (ram_page_told state ram number answer).answer ≡ start → start ≡ part_start (record_of state).machine (page.Ram number)
unfolding ram_page_told
ram_page_start state number start ram answer c n =
    let starts : Bus → ℕ = λ bus. part_start bus.machine (page.Ram number) in
    let v = judge_ram_page state (length ram) number (number_fits (length answer)) in
    let t = told_bus starts answer v c in
    let bus = t.0 in
    let r = ready_ram_page state bus (length ram) number (number_fits (length answer)) t.1 in
    let small = start_small bus.machine (page.Ram number) (exists_fits bus.machine number r.exists) in
    sym n ∙ number_told starts answer v bus t.1 small ∙ ap starts (sym r.on_record.decodes)

-- what an accepted byte read answers, and that it was lent a ROM of the machine's length
module _ (held rom ram : List ℕ) (addr : ℕ) (answer : List ℕ) (accepted : (read_internal held rom ram addr answer).code ≡ 0) where
  abbrev reads : Bus → ℕ
  reads bus = peeked bus.machine bus.paging rom ram addr

  abbrev verdict : Result Bus Refusal
  verdict = judge_read held (length rom) (length ram) (length answer)

  verdict_bus : (bus : Bus) × (verdict ≡ Ok bus)
  unfolding read_internal
  verdict_bus = told_bus reads answer verdict accepted

  read_is : read_internal held rom ram addr answer ≡ told 0 (number_answer (peeked (record_of held).machine (record_of held).paging rom ram addr))
  unfolding read_internal
  read_is =
      let r = ready_read held verdict_bus.0 (length rom) (length ram) (length answer) verdict_bus.1 in
      rw verdict_bus.1 (ap (λ (b : Bus). told 0 (number_answer (reads b))) (sym r.on_record.decodes))

  rom_is_lem : length rom ≡ (specs_of (record_of held).machine).rom
  rom_is_lem =
      let r = ready_read held verdict_bus.0 (length rom) (length ram) (length answer) verdict_bus.1 in
      r.rom_is ∙ ap (λ (b : Bus). (specs_of b.machine).rom) (sym r.on_record.decodes)

-- ---- a read by a start

-- the byte at an address of a block, of a ROM of the machine's length, by the page that is there
block_counted : (m : ZXMachine) (paging : ℕ) (p : Page) (rom ram : List ℕ) (block offset : ℕ) → offset < 16384 → length rom ≡ (specs_of m).rom
    → page_at m paging block ≡ p → peeked m paging rom ram (16384 * block + offset) ≡ counted rom ram (part_start m p + offset)
unfolding place_of
block_counted m paging p rom ram block offset h n e =
    let q : (16384 * block + offset) / 16384 ≡ block = omega arith in
    let r : (16384 * block + offset) % 16384 ≡ offset = omega arith in
    let f : Holds p (specs_of m).rom (specs_of m).ram = rw e at (map_holds m paging block) in
    rw (q, r, e) (page_counted m p rom ram offset h n f)

module _ (made held rom ram answer : List ℕ) (block start offset : ℕ) (inside : offset < 16384)
    (accepted : (read_internal held rom ram (16384 * block + offset) answer).code ≡ 0) where
  -- BLOCK: the bytes from the start on that `ulb_block` named are what `ulb_read_internal` answers at the block's addresses, whatever the record
  -- has become and whatever stands in ROM and RAM by then, as long as machine and 7FFD byte are the same.
  pub block_reads : Named made block start → Alike made held
      → read_internal held rom ram (16384 * block + offset) answer ≡ told 0 (number_answer (counted rom ram (start + offset)))
  block_reads n a =
      let m = (record_of held).machine in
      let paging = (record_of held).paging in
      let s : start ≡ part_start m (page_at m paging block) = rw (a.machine, a.paging) at (named_start made block start n) in
      rw (
        read_is held rom ram (16384 * block + offset) answer accepted,
        block_counted m paging (page_at m paging block) rom ram block offset inside (rom_is_lem held rom ram (16384 * block + offset) answer accepted) refl,
        s,
      )

  -- RAM PAGE: and so are those that `ulb_ram_page` named, at the addresses of every block where that page is.
  pub ram_page_reads : (number : ℕ) (lent told_in : List ℕ) → (ram_page_told made lent number told_in).code ≡ 0
      → number_in (ram_page_told made lent number told_in).answer ≡ start → (record_of made).machine ≡ (record_of held).machine
      → page_at (record_of held).machine (record_of held).paging block ≡ page.Ram number
      → read_internal held rom ram (16384 * block + offset) answer ≡ told 0 (number_answer (counted rom ram (start + offset)))
  ram_page_reads number lent told_in c n e p =
      let m = (record_of held).machine in
      let s : start ≡ part_start m (page.Ram number) = rw e at (ram_page_start made number start lent told_in c n) in
      rw (
        read_is held rom ram (16384 * block + offset) answer accepted,
        block_counted m (record_of held).paging (page.Ram number) rom ram block offset inside (rom_is_lem held rom ram (16384 * block + offset) answer accepted) p,
        s,
      )

-- ---- a read by a part, as a Rattle caller gets it
handed : (whole : Bus → List ℕ) (v : Result Bus Refusal) → (part whole v ≡ [] → ⊥) → (bus : Bus) × (v ≡ Ok bus)
handed whole (Err e) n = absurd (n refl)
handed whole (Ok bus) n = (bus, refl)

module _ (made held rom ram answer : List ℕ) (block offset : ℕ) (inside : offset < 16384)
    (accepted : (read_internal held rom ram (16384 * block + offset) answer).code ≡ 0) where
  -- byte for byte the part that `block` hands back
  pub block_part_reads : (block_part made rom ram block ≡ [] → ⊥) → Alike made held
      → read_internal held rom ram (16384 * block + offset) answer ≡ told 0 (number_answer (get_or (block_part made rom ram block) offset 0))
  unfolding block_part
  block_part_reads n a =
      let whole : Bus → List ℕ = λ bus. page_part (page_at bus.machine bus.paging block) rom ram in
      let t = handed whole (judge_block made (length rom) (length ram) block true) n in
      let k = (ready_block made t.0 (length rom) (length ram) block true t.1).on_record.decodes in
      rw (read_is held rom ram (16384 * block + offset) answer accepted, t.1, ← k, ← a.machine, ← a.paging)
      (ap (λ (x : ℕ). told 0 (number_answer x)) (sym (block_bytes (record_of made).machine (record_of made).paging rom ram block offset inside)))

  -- and the one that `ram_page` hands back, at every block where that page is
  pub ram_page_part_reads : (number : ℕ) → (ram_page_part made ram number ≡ [] → ⊥)
      → page_at (record_of held).machine (record_of held).paging block ≡ page.Ram number
      → read_internal held rom ram (16384 * block + offset) answer ≡ told 0 (number_answer (get_or (ram_page_part made ram number) offset 0))
  unfolding ram_page_part
  ram_page_part_reads number n p =
      let t = handed (λ bus. ram_page number ram) (judge_ram_page made (length ram) number true) n in
      let b = block_bytes (record_of held).machine (record_of held).paging rom ram block offset inside in
      rw (read_is held rom ram (16384 * block + offset) answer accepted, t.1) (ap (λ (x : ℕ). told 0 (number_answer x)) (sym (rw p at b)))

-- ---- the map

-- Where a byte read is accepted, the four calls that make the map are too, with the same slices.
pub map_made : (state rom ram answer : List ℕ) (addr : ℕ) → (read_internal state rom ram addr answer).code ≡ 0
    → MapOf state (λ block. number_in (block_told state rom ram block answer).answer)
unfolding block_told
map_made state rom ram answer addr c block h =
    let t = verdict_bus state rom ram addr answer c in
    let n = ((read_ordered state (length rom) (length ram) (length answer)).accepted_by_none t.0 t.1).0 in
    let v = (block_ordered state (length rom) (length ram) block (number_fits (length answer))).none_accepts (n.0, (n.1.0, (n.1.1.0, (le-ltb 3 block h, tt)))) in
    record { rom = rom; ram = ram; answer = answer; accepted = rw v; names = refl }

-- THE MAP: made once by `ulb_block` of a record, it answers at every address as `ulb_read_internal` does, of any record with the same machine
-- and 7FFD byte, with ROM and RAM as they stand at the read.
pub map_reads : (made held rom ram answer : List ℕ) (map : ℕ → ℕ) (addr : ℕ) → MapOf made map → Alike made held → addr < 65536
    → (read_internal held rom ram addr answer).code ≡ 0 → read_internal held rom ram addr answer ≡ told 0 (number_answer (mapped map rom ram addr))
map_reads made held rom ram answer map addr f a h c =
    let block = addr / 16384 in
    let offset = addr % 16384 in
    let e : 16384 * block + offset ≡ addr = omega arith in
    let k : (read_internal held rom ram (16384 * block + offset) answer).code ≡ 0 = rw e c in
    rw e at (block_reads made held rom ram answer block (map block) offset (omega arith) k (f block (omega arith)) a)

-- ---- what changes the 7FFD byte

alike_same : (s : List ℕ) → Alike s s
alike_same s = record { machine = refl; paging = refl }

alike_then : (s t u : List ℕ) → Alike s t → Alike t u → Alike s u
alike_then s t u a b = record { machine = a.machine ∙ b.machine; paging = a.paging ∙ b.paging }

machine_back : (m : ZXMachine) → machine_of (machine_number m) ≡ m
machine_back Sinclair48K = refl
machine_back Sinclair128K = refl

-- a record written anew with the machine and the 7FFD byte that were held
alike_written : (state : List ℕ) (bus next : Bus) → OnRecord state bus → next.machine ≡ bus.machine → next.paging ≡ bus.paging
    → Alike state (record_bytes next)
alike_written state bus next r m p =
    record {
      machine = ap (λ (b : Bus). b.machine) r.decodes ∙ sym m ∙ sym (machine_back next.machine);
      paging = ap (λ (b : Bus). b.paging) r.decodes ∙ sym p;
    }

-- ---- of the operations only a 7FFD write that is taken changes the byte
module _ (m : ZXMachine) where
  -- these operations leave it, at this core
  abbrev Leaves : Core → List Op → Type 0
  Leaves c os = (core_after m os c).paging ≡ c.paging

  abbrev Keeps : Part → Type 0
  Keeps f = (c : Core) → Leaves c (f c)

  keep_step : (n : ℕ) → Keeps (plain_wait n)
  unfolding core_after in_core
  keep_step n c = by_bool (λ (r : Core). r.paging ≡ c.paging) (closes m n c) (λ e. refl) (λ e. refl)

  keep_none : (c : Core) → Leaves c []
  unfolding core_after
  keep_none c = refl

  keep_then : (f g : Part) → Keeps f → Keeps g → Keeps (and_then m f g)
  keep_then f g a b c = ap (λ (r : Core). r.paging) (core_then m f g c) ∙ b (core_after m (f c) c) ∙ a c

  keep_held : (n : ℕ) → Keeps (delay_step m n)
  unfolding core_after in_core
  keep_held n c = keep_step (delay (specs_of m) c.clock + n) c

  keep_wait : (addr n : ℕ) → Keeps (address_wait m addr n)
  unfolding delayed
  keep_wait addr n =
      keep_then (delayed m addr) (plain_wait n)
      (λ c. by_bool (Leaves c) (contended m addr c) (λ e. keep_held 0 c) (λ e. keep_none c))
      (keep_step n)

  keep_last : (port : ℕ) → Keeps (last_part m port)
  unfolding last_part
  keep_last port c =
      by_bool (Leaves c) (port_contended m port) (λ e. keep_held 2 c)
      (λ e. by_bool (Leaves c) (contended m port c)
      (λ f. keep_then (delay_step m 1) _ (keep_held 1) (keep_then (delay_step m 1) (delay_step m 0) (keep_held 1) (keep_held 0)) c)
      (λ f. keep_step 2 c))

  keep_read : (port : ℕ) → Keeps (port_read m port)
  keep_read port =
      keep_then (read_before m port) final_step
      (keep_then (first_part m port) (last_part m port) (keep_wait port 1) (keep_last port))
      (keep_step 1)

  -- a 7FFD write that does not answer 5 was not taken
  keep_repaged : (p : Paged) (c : Core) → (paged_code p ≡ renews → ⊥) → Leaves c (paging_ops p)
  unfolding core_after
  keep_repaged paging.Absent c n = refl
  keep_repaged paging.Locked c n = refl
  keep_repaged (paging.Taken v) c n = absurd (n refl)

  keep_acted : (w : Written) (v : ℕ) (c : Core) → (heard_code (hearers_of w) (paged_code (write7ffd m c.paging v)) ≡ renews → ⊥)
      → Leaves c (acted_on m (hearers_of w) v c)
  unfolding core_after in_core
  keep_acted written.Extender v c n = refl
  keep_acted written.AySelect v c n = refl
  keep_acted written.AyWrite v c n = refl
  keep_acted written.Border v c n = refl
  keep_acted written.Paging v c n =
      ap (λ (f : Part). (core_after m (f c) c).paging) (acts_alone m hearer.paging v) ∙ keep_repaged (write7ffd m c.paging v) c n
  keep_acted written.Nothing v c n = refl

  keep_heard : (w : Written) (hs : List Hearer) → hearers_of w ≡ hs → (v : ℕ) (c : Core)
      → (heard_code hs (paged_code (write7ffd m c.paging v)) ≡ renews → ⊥) → Leaves c (acted_on m hs v c)
  keep_heard w hs e v c n = rw (← e) (keep_acted w v c (rw (← e) at n))

  keep_write : (d : Devices) (port v : ℕ) (c : Core) → (write_code m d port v c ≡ renews → ⊥) → Leaves c (port_write m d port v c)
  unfolding write_code
  keep_write d port v c n =
      let acts = acted_on m (hearers m d port) v in
      let ends = and_then m (last_part m port) final_step in
      let first = core_after m (first_part m port c) c in
      let acted = core_after m (acts first) first in
      ap (λ (r : Core). r.paging) (core_then m (first_part m port) (and_then m acts ends) c ∙ core_then m acts ends first)
      ∙ keep_then (last_part m port) final_step (keep_last port) (keep_step 1) acted
      ∙ keep_heard (picked m d port).0 (hearers m d port) (picked m d port).1 v first n
      ∙ keep_wait port 1 c

-- ---- call by call

module _ (part : ZXMachine → Part) (value : ZXMachine → Core → ℕ) (l : Lent) (answer : List ℕ) where
  timed_alike : (v : Result Bus Refusal) → ((bus : Bus) → v ≡ Ok bus → OnRecord l.state bus)
      → ((bus : Bus) → v ≡ Ok bus → Leaves bus.machine (lent_world bus l).core (part bus.machine (lent_world bus l).core))
      → Alike l.state (timed_call part value l answer v).slices.state
  unfolding timed_call
  timed_alike (Err e) r k = alike_same l.state
  timed_alike (Ok bus) r k =
      let m = bus.machine in
      let w = lent_world bus l in
      let t = ran_by (part m) (fresh m w) in
      alike_written l.state bus (bus_of t.machine t.world) (r bus refl)
      (ran_machine (part m w.core) (fresh m w))
      (ap (λ (c : Core). c.paging) (ran_core (part m w.core) (fresh m w)) ∙ k bus refl)

wait_record : (l : Lent) (clocks : ℕ) (answer : List ℕ) (bus : Bus) → judge_wait_of l clocks answer ≡ Ok bus → OnRecord l.state bus
wait_record l clocks answer bus p =
    (ready_wait l.state bus (length l.ram) (length l.a) (length l.b) (length l.border) clocks (length answer) p).on_record

port_record : (l : Lent) (devices answer : List ℕ) (bus : Bus) → judge_port_of l devices answer ≡ Ok bus → OnRecord l.state bus
port_record l devices answer bus p =
    (ready_port l.state bus devices (length l.ram) (length l.a) (length l.b) (length l.border) (length answer) p).on_record

pub wait_internal_alike : (l : Lent) (clocks : ℕ) (answer : List ℕ) → Alike l.state (wait_internal l clocks answer).slices.state
unfolding wait_internal
wait_internal_alike l clocks answer =
    timed_alike _ _ l answer (judge_wait_of l clocks answer) (wait_record l clocks answer)
    (λ bus p. keep_step bus.machine clocks (lent_world bus l).core)

pub wait_at_alike : (l : Lent) (addr clocks : ℕ) (answer : List ℕ) → Alike l.state (wait_at l addr clocks answer).slices.state
unfolding wait_at
wait_at_alike l addr clocks answer =
    timed_alike _ _ l answer (judge_wait_of l clocks answer) (wait_record l clocks answer)
    (λ bus p. keep_wait bus.machine addr clocks (lent_world bus l).core)

pub read_io_alike : (l : Lent) (devices : List ℕ) (port : ℕ) (answer : List ℕ) → Alike l.state (read_io l devices port answer).slices.state
unfolding read_io
read_io_alike l devices port answer =
    timed_alike _ _ l answer (judge_port_of l devices answer) (port_record l devices answer)
    (λ bus p. keep_read bus.machine port (lent_world bus l).core)

-- a port write, unless it answers 5
pub write_io_alike : (l : Lent) (devices : List ℕ) (port value : ℕ) (answer : List ℕ)
    → ((write_io l devices port value answer).code ≡ 0 → code_in (write_io l devices port value answer).answer ≡ renews → ⊥)
    → Alike l.state (write_io l devices port value answer).slices.state
unfolding write_io timed_call
write_io_alike l devices port value answer n =
    timed_alike (λ m. port_write m (devices_of devices) port value) (λ m. write_code m (devices_of devices) port value) l answer (judge_port_of l devices answer) (port_record l devices answer)
    (λ bus p. keep_write bus.machine (devices_of devices) port value (lent_world bus l).core (λ e. (rw p at n) refl e))

-- a 7FFD write, unless it answers 5
not_repaged : (p : Paged) (held : ℕ) → (number_in (number_answer (paged_code p)) ≡ renews → ⊥) → paging_after p held ≡ held
not_repaged paging.Absent held n = refl
not_repaged paging.Locked held n = refl
not_repaged (paging.Taken v) held n = absurd (n refl)

repage_alike : (state answer : List ℕ) (value : ℕ) (v : Result Bus Refusal) → ((bus : Bus) → v ≡ Ok bus → OnRecord state bus)
    → ((repage value state answer v).code ≡ 0 → number_in (repage value state answer v).answer ≡ renews → ⊥) → Alike state (repage value state answer v).state
repage_alike state answer value (Err e) r n = alike_same state
repage_alike state answer value (Ok bus) r n =
    let p = write7ffd bus.machine bus.paging value in
    alike_written state bus (with_paging (paging_after p bus.paging) bus) (r bus refl) refl (not_repaged p bus.paging (n refl))

pub write_7ffd_alike : (state : List ℕ) (value : ℕ) (answer : List ℕ)
    → ((write7ffd_call state value answer).code ≡ 0 → number_in (write7ffd_call state value answer).answer ≡ renews → ⊥)
    → Alike state (write7ffd_call state value answer).state
unfolding write7ffd_call
write_7ffd_alike state value answer n =
    repage_alike state answer value (judge_told state (length answer)) (λ bus p. (ready_told state bus (length answer) p).on_record) n

reset_alike : (state : List ℕ) (v : Result Bus Refusal) → ((bus : Bus) → v ≡ Ok bus → OnRecord state bus)
    → Alike state (change (λ bus. record_bytes (with_passed 0 bus)) state v).slice
reset_alike state (Err e) r = alike_same state
reset_alike state (Ok bus) r = alike_written state bus (with_passed 0 bus) (r bus refl) refl refl

pub reset_frames_alike : (state : List ℕ) → Alike state (reset_frames state).slice
unfolding reset_frames
reset_frames_alike state = reset_alike state (judge_state state) (ready_state state)

-- ---- THE MAP STAYS GOOD UNTIL A CALL ANSWERS 5, OR A START

-- a quiet call leaves a record that pages alike
pub quiet_alike : (before after : List ℕ) → Quiet before after → Alike before after
quiet_alike before after (waited l clocks answer b a) = rw (b, a) (wait_internal_alike l clocks answer)
quiet_alike before after (waited_at l addr clocks answer b a) = rw (b, a) (wait_at_alike l addr clocks answer)
quiet_alike before after (read_port l devices port answer b a) = rw (b, a) (read_io_alike l devices port answer)
quiet_alike before after (wrote_port l devices port value answer b a n) = rw (b, a) (write_io_alike l devices port value answer n)
quiet_alike before after (wrote7ffd value answer a n) = rw a (write_7ffd_alike before value answer n)
quiet_alike before after (reset a) = rw a (reset_frames_alike before)

-- and so do any such calls one after the other
pub all_quiet_alike : (state : List ℕ) (later : List (List ℕ)) → AllQuiet state later → Alike state (last state later)
all_quiet_alike state [] q = alike_same state
all_quiet_alike state (next ∷ later) q =
    alike_then state next (last next later) (quiet_alike state next q.0) (all_quiet_alike next later q.1)

-- So a map made of a record reads right after any calls, refused ones among them, of which none is a start or answers 5.
pub map_stays : (made rom ram answer : List ℕ) (map : ℕ → ℕ) (later : List (List ℕ)) (addr : ℕ) → MapOf made map → AllQuiet made later → addr < 65536
    → (read_internal (last made later) rom ram addr answer).code ≡ 0
    → read_internal (last made later) rom ram addr answer ≡ told 0 (number_answer (mapped map rom ram addr))
map_stays made rom ram answer map later addr f q h c =
    map_reads made (last made later) rom ram answer map addr f (all_quiet_alike made later q) h c
