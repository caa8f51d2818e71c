-- Document 02, Q-4: import and export of a snapshot, as C calls them. What stands in a file is crate snapshot's to say.
-- Assumes nothing.
use Rattle.std.specs.Prelude.{ℕ, Bool, List, length, Result}
use Rattle.machine.specs.declared.ZXMachine.{ZXMachine}
use Rattle.record.specs.declared.Bus.{Bus}
use Rattle.record.specs.Record.{machine_of}
use Rattle.snapshot.specs.File.{ram_in}
use Rattle.snapshot.specs.Kept.{registers_in, snapshot_record, snapshot_file}
use Rattle.bus.specs.World.{World, beginning}
use Rattle.judgement.specs.declared.Refusal.{Refusal}
use Rattle.judgement.specs.Judges.{import_fits, judge_load_sna, judge_save_sna}
use Rattle.contracts.specs.Timed.{Lent, lent_by, begun}
use Rattle.contracts.specs.Plain.{Changed, change}

-- what an import leaves: the number that it returns, the machine's slices, and the registers
pub record Imported : Type 0 where
  pub code : ℕ
  pub slices : Lent
  pub registers : List ℕ

abbrev pub import_leaves : ℕ → Lent → List ℕ → Imported
import_leaves code slices registers = record { code = code; slices = slices; registers = registers }

abbrev pub judge_load_sna_of : Lent → List ℕ → List ℕ → ℕ → Result Bus Refusal
judge_load_sna_of l file registers machine =
    judge_load_sna (length l.state) (length l.ram) (length registers) (length l.a) (length l.b) (length l.border) machine file

-- the slices that an import is lent, but for its file, have a machine's lengths
abbrev pub lent_fits : Lent → List ℕ → ZXMachine → Bool
lent_fits l registers m =
    import_fits m (length l.state) (length l.ram) (length registers) (length l.a) (length l.b) (length l.border)

-- the world that an import leaves: "The import writes RAM and a fresh record with border, paging and lock, clears pictures and border as a start does"
abbrev pub imported_world : ZXMachine → List ℕ → World
imported_world m file = beginning (snapshot_record m file) (ram_in m file)

-- ulb_load_sna: accepted, it leaves the slices of that world, "and hands back the header for the Z80 and, for 128K, PC and the TR-DOS byte". "Nothing is
-- written when refused, `registers` included."
unfoldable pub load_sna : Lent → List ℕ → List ℕ → ℕ → Imported
load_sna l file registers machine =
    let m = machine_of machine in
    let v = judge_load_sna_of l file registers machine in
    let s = begun l (lent_by m (imported_world m file)) v in
    import_leaves s.code s.slices (change (λ bus. registers_in m file) registers v).slice

-- ulb_save_sna: "The writer .., from a lent header, PC and TR-DOS byte, with the reported border in byte 26"; the file afterwards
unfoldable pub save_sna : List ℕ → List ℕ → List ℕ → List ℕ → Changed
save_sna state ram file registers =
    change (λ bus. snapshot_file bus.machine bus.paging bus.reported ram registers) file
    (judge_save_sna state (length ram) (length file) (length registers))
