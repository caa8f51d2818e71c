-- WHAT AN ACCEPTED START LEAVES, whichever it was, an import among them (02, Q-4); and the colours that it begins with (02, Q-3).
-- Assumes nothing.
use Prim.Native.Nat.{ℕ, ◌<◌}
use mathlib.Core.Path.{◌≡◌, refl, ap, ◌∙◌}
use mathlib.Core.List.{List}
use native.Mathlib.Omega.{arith}
use borrow.Author.Tests.{ltb-false}
use lib.ListN.{length}
use Rattle.machine.specs.declared.ZXMachine.{ZXMachine}
use Rattle.machine.specs.declared.ZXMachine.TheVariants.{Sinclair48K, Sinclair128K}
use Rattle.record.specs.declared.Bus.{Bus}
use Rattle.record.specs.Words.{Bytes}
use Rattle.record.specs.Record.{record_of, machine_of, start_record}
use Rattle.record.proofs.Soundness.{facts_sound, fresh_facts, start_sound}
use Rattle.record.proofs.Round.{decode_encode_sound}
use Rattle.snapshot.specs.File.{paging_byte_at, paging_in, border_in, ram_in}
use Rattle.snapshot.specs.Kept.{snapshot_record}
use Rattle.snapshot.proofs.Round.{length_ram}
use Rattle.bus.specs.World.{bus_of, started, Sized}
use Rattle.bus.proofs.Kept.{SoundWorld, started_sound}
use Rattle.bus.proofs.Lengths.{beginning_sized, started_sized}
use Rattle.judgement.specs.Ready.{ReadyLoadSna}
use Rattle.judgement.proofs.Order.{load_sna_ordered}
use Rattle.judgement.proofs.Accepted.{ready_load_sna}
use Rattle.contracts.specs.Timed.{Lent, lent_by, judge_start_of, black, start, start_colour}
use Rattle.contracts.specs.Snapshots.{judge_load_sna_of, imported_world, load_sna}
use Rattle.contracts.specs.Calls.{Start, plain_start, colour_start, snapshot_start, asked_machine, first_colour, started_world, started_by, start_again}
use Rattle.contracts.proofs.Ranges.{Typed}
use Rattle.contracts.proofs.Refusals.{begun_left, start_colour_numbered, load_sna_numbered}

module _ (l : Lent) (machine colour : ℕ) (z : (start_colour l machine colour).code ≡ 0) where
  colour_left : (start_colour l machine colour).slices ≡ lent_by (machine_of machine) (started (machine_of machine) colour)
  unfolding start_colour
  colour_left = begun_left l (lent_by (machine_of machine) (started (machine_of machine) colour)) (judge_start_of l machine colour) z

  colour_small : colour < 8
  colour_small = let h = ltb-false 7 colour ((start_colour_numbered l machine colour).zero_by_none z).1.1.0 in omega arith

module _ (l : Lent) (machine : ℕ) (file registers : List ℕ) (z : (load_sna l file registers machine).code ≡ 0) where
  abbrev m : ZXMachine
  m = machine_of machine

  -- what an accepted import was lent
  pub import_ready : ReadyLoadSna (length l.state) (length l.ram) (length registers) (length l.a) (length l.b) (length l.border) machine file (snapshot_record m file)
  import_ready =
      ready_load_sna _ _ _ _ _ _ machine file (snapshot_record m file)
      ((load_sna_ordered (length l.state) (length l.ram) (length registers) (length l.a) (length l.b) (length l.border) machine file).none_accepts
      ((load_sna_numbered l file registers machine).zero_by_none z))

  import_left : (load_sna l file registers machine).slices ≡ lent_by m (imported_world m file)
  unfolding load_sna
  import_left = begun_left l (lent_by m (imported_world m file)) (judge_load_sna_of l file registers machine) z

-- THE BUFFERS of its machine as it begins
pub start_left : (how : Start) (l : Lent) → (started_by how l).code ≡ 0 → (started_by how l).slices ≡ lent_by (machine_of (asked_machine how)) (started_world how)
start_left (plain_start machine) l z = colour_left l machine black z
start_left (colour_start machine colour) l z = colour_left l machine colour z
start_left (snapshot_start machine file registers) l z = import_left l machine file registers z

-- whose beam has the first colour,
pub first_beam : (how : Start) → (started_world how).edge.colour ≡ first_colour how
first_beam (plain_start machine) = refl
first_beam (colour_start machine colour) = refl
first_beam (snapshot_start machine file registers) = refl

-- which is one of eight
pub first_small : (how : Start) (l : Lent) → (started_by how l).code ≡ 0 → first_colour how < 8
first_small (plain_start machine) l z = colour_small l machine black z
first_small (colour_start machine colour) l z = colour_small l machine colour z
first_small (snapshot_start machine file registers) l z = omega arith

-- THE WORLD IS SOUND, an import's as every element of its file is a byte, and its memory has its lengths
no_paging : (m : ZXMachine) (file : List ℕ) → m ≡ Sinclair48K → paging_in m file ≡ 0
no_paging m file e = rw e

paging_small : (m : ZXMachine) (file : List ℕ) → Bytes file → paging_in m file < 256
paging_small Sinclair48K file b = omega arith
paging_small Sinclair128K file b = b paging_byte_at

pub begun_sound : (how : Start) (l : Lent) → Typed (start_again how) → (started_by how l).code ≡ 0 → SoundWorld (machine_of (asked_machine how)) (started_world how)
begun_sound (plain_start machine) l typed z = started_sound (machine_of machine) black (colour_small l machine black z)
begun_sound (colour_start machine colour) l typed z = started_sound (machine_of machine) colour (colour_small l machine colour z)
begun_sound (snapshot_start machine file registers) l typed z =
    fresh_facts (machine_of machine) (paging_in (machine_of machine) file) (border_in file) (border_in file) (paging_small (machine_of machine) file typed.1)
    (omega arith) (omega arith) (no_paging (machine_of machine) file)

pub begun_sized : (how : Start) (l : Lent) → (started_by how l).code ≡ 0 → Sized (machine_of (asked_machine how)) (started_world how)
begun_sized (plain_start machine) l z = started_sized (machine_of machine) black
begun_sized (colour_start machine colour) l z = started_sized (machine_of machine) colour
begun_sized (snapshot_start machine file registers) l z =
    beginning_sized (machine_of machine) (snapshot_record (machine_of machine) file) (ram_in (machine_of machine) file)
    (length_ram (machine_of machine) file (import_ready l machine file registers z).file_is)

-- THE RECORD that it writes
pub start_writes : (how : Start) (l : Lent) → Typed (start_again how) → (started_by how l).code ≡ 0
    → record_of (started_by how l).slices.state ≡ bus_of (machine_of (asked_machine how)) (started_world how)
start_writes how l typed z =
    let m = machine_of (asked_machine how) in
    let bus = bus_of m (started_world how) in
    ap (λ (x : Lent). record_of x.state) (start_left how l z) ∙ decode_encode_sound bus (facts_sound bus (begun_sound how l typed z))

-- "a second start that takes the beam colour": the beam has it, and the border that is reported is 0 whichever it is
pub colour_taken : (l : Lent) (machine colour : ℕ) → (start_colour l machine colour).code ≡ 0
    → ((record_of (start_colour l machine colour).slices.state).colour ≡ colour) × ((record_of (start_colour l machine colour).slices.state).reported ≡ 0)
colour_taken l machine colour z =
    let m = machine_of machine in
    let bus = start_record m colour in
    let e = ap (λ (x : Lent). record_of x.state) (colour_left l machine colour z) ∙ decode_encode_sound bus (start_sound m colour (colour_small l machine colour z)) in
    (ap (λ (b : Bus). b.colour) e, ap (λ (b : Bus). b.reported) e)

-- "Start shall set the beam colour to 0, as the reported border already is."
pub start_is_black : (l : Lent) (machine : ℕ) → (start l machine).code ≡ 0
    → ((record_of (start l machine).slices.state).colour ≡ 0) × ((record_of (start l machine).slices.state).reported ≡ 0)
start_is_black l machine z = colour_taken l machine black z
