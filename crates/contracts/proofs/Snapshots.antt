-- SNAPSHOTS, OF THE CALLS (02, Q-4): what an import leaves, byte for byte; "import after export gives the same RAM and paging", and border; "export after
-- import gives the file back but for bits 3..7 of byte 26"; and where an import is refused with 10 and with 11.
-- Assumes nothing.
use Prim.Native.Nat.{ℕ, ◌≤◌, ◌<◌, ◌^◌}
use mathlib.Core.Bool.{Bool, true, false, not}
use mathlib.Core.List.{List, [], ◌∷◌, ◌++◌}
use mathlib.Core.Path.{◌≡◌, refl, sym, ap, ◌∙◌}
use native.Mathlib.Omega.{arith}
use lib.Dec.{eqb, ltb}
use lib.ListN.{length, take, drop}
use borrow.Author.Tests.{eq-eqb, ne_eqb, eqb-true, eqb-false, le-ltb, ltb-false, not-false}
use Rattle.std.specs.Prelude.{Ok, Result, Err}
use Rattle.machine.specs.declared.ZXMachine.{ZXMachine}
use Rattle.machine.specs.declared.ZXMachine.TheVariants.{Sinclair48K, Sinclair128K}
use Rattle.machine.specs.Numbers.{specs_of}
use Rattle.record.specs.declared.Bus.{Bus}
use Rattle.record.specs.declared.BadRecord.{BadRecord}
use Rattle.record.specs.declared.BadRecord.TheVariants as bad
use Rattle.record.specs.Words.{Bytes}
use Rattle.record.specs.Record.{record_of, record_bytes, held_by, machine_number, machine_of, fresh_record}
use Rattle.record.proofs.Soundness.{facts_sound}
use Rattle.record.proofs.Round.{held_encode}
use Rattle.snapshot.specs.File.{header_length, border_at, paging_in, border_in, due_size, ram_in, copies_differ}
use Rattle.snapshot.specs.Kept.{registers_length, registers_in, snapshot_record, header_of, kept_three, snapshot_file}
use Rattle.snapshot.proofs.Round.{length_ram, length_registers, length_file, paging_back, border_back, ram_back, copies_agree, registers_back, file_back}
use Rattle.bus.specs.World.{beginning}
use Rattle.judgement.specs.declared.Refusal.TheVariants.{BadMachine, BadLength, WrongSize, UnequalCopies}
use Rattle.judgement.specs.Refusals.{cause, judged, judged_held}
use Rattle.judgement.specs.Judges.{export_fits, save_sna_causes, judge_load_sna, judge_save_sna}
use Rattle.judgement.specs.Ready.{ReadySaveSna}
use Rattle.judgement.proofs.Order.{load_sna_ordered, save_sna_ordered}
use Rattle.judgement.proofs.Accepted.{ready_save_sna}
use Rattle.contracts.specs.Timed.{Lent, lent_by, begun}
use Rattle.contracts.specs.Plain.{code_of, Changed, changed}
use Rattle.contracts.specs.Snapshots.{Imported, import_leaves, judge_load_sna_of, lent_fits, imported_world, load_sna, save_sna}
use Rattle.contracts.specs.Calls.{snapshot_start}
use Rattle.contracts.proofs.Refusals.{begun_code, load_sna_numbered, save_sna_code, save_sna_numbered}
use Rattle.contracts.proofs.Starts.{import_ready, begun_sound, start_writes}

module _ (l : Lent) (file registers : List ℕ) (machine : ℕ) where
  abbrev m : ZXMachine
  m = machine_of machine

  -- AN IMPORT THAT NOTHING SPEAKS AGAINST, and what it leaves: RAM is the file's, the record fresh with the file's 7FFD byte and colour, pictures and border
  -- cleared, and the registers the file's
  import_by : judge_load_sna_of l file registers machine ≡ Ok (snapshot_record m file)
      → load_sna l file registers machine ≡ import_leaves 0 (lent_by m (imported_world m file)) (registers_in m file)
  unfolding load_sna begun
  import_by e = rw e

  pub import_accepted : machine ≤ 1 → lent_fits l registers m ≡ true → length file ≡ due_size m (paging_in m file) → copies_differ m file ≡ false
      → load_sna l file registers machine ≡ import_leaves 0 (lent_by m (imported_world m file)) (registers_in m file)
  import_accepted known fits due same =
      import_by
      ((load_sna_ordered (length l.state) (length l.ram) (length registers) (length l.a) (length l.b) (length l.border) machine file).none_accepts
      (le-ltb 1 machine known, (ap not fits, (ap not (eq-eqb (length file) (due_size m (paging_in m file)) due), (same, tt)))))

  pub import_leaves_lem : (load_sna l file registers machine).code ≡ 0
      → load_sna l file registers machine ≡ import_leaves 0 (lent_by m (imported_world m file)) (registers_in m file)
  import_leaves_lem z =
      import_by
      ((load_sna_ordered (length l.state) (length l.ram) (length registers) (length l.a) (length l.b) (length l.border) machine file).none_accepts
      ((load_sna_numbered l file registers machine).zero_by_none z))

  -- the record's bytes are held as that record: "Border and beam colour both take the low three bits of byte 26", and all eight bits of the 7FFD byte are
  -- there, the lock among them
  pub import_record : machine < 2 ^ 32 → Bytes file → (load_sna l file registers machine).code ≡ 0
      → record_of (load_sna l file registers machine).slices.state ≡ snapshot_record m file
  import_record small bytes z = start_writes (snapshot_start machine file registers) l (small, bytes) z

-- ---- WHERE AN IMPORT IS REFUSED WITH 10 AND WITH 11
not_true : (t : Bool) → not t ≡ true → t ≡ false
not_true true e = sym e
not_true false e = refl

-- four causes in a row: the third refuses exactly where it holds and the two before it do not, the fourth exactly where none before it does
abbrev fourth : Bool → Bool → Bool → Bool → Bus → ℕ
fourth a b c d bus = code_of (judged (cause BadMachine a ∷ cause BadLength b ∷ cause WrongSize c ∷ cause UnequalCopies d ∷ []) bus)

ten_by : (a b c d : Bool) (bus : Bus) → fourth a b c d bus ≡ 10 → (a ≡ false) × (b ≡ false) × (c ≡ true)
unfolding judged
ten_by true b c d bus e = absurd (omega arith)
ten_by false true c d bus e = absurd (omega arith)
ten_by false false true d bus e = (refl, refl, refl)
ten_by false false false true bus e = absurd (omega arith)
ten_by false false false false bus e = absurd (omega arith)

by_ten : (a b c d : Bool) (bus : Bus) → a ≡ false → b ≡ false → c ≡ true → fourth a b c d bus ≡ 10
unfolding judged
by_ten a b c d bus p q r = rw (p, q, r)

eleven_by : (a b c d : Bool) (bus : Bus) → fourth a b c d bus ≡ 11 → (a ≡ false) × (b ≡ false) × (c ≡ false) × (d ≡ true)
unfolding judged
eleven_by true b c d bus e = absurd (omega arith)
eleven_by false true c d bus e = absurd (omega arith)
eleven_by false false true d bus e = absurd (omega arith)
eleven_by false false false true bus e = (refl, refl, refl, refl)
eleven_by false false false false bus e = absurd (omega arith)

by_eleven : (a b c d : Bool) (bus : Bus) → a ≡ false → b ≡ false → c ≡ false → d ≡ true → fourth a b c d bus ≡ 11
unfolding judged
by_eleven a b c d bus p q r s = rw (p, q, r, s)

module _ (l : Lent) (file registers : List ℕ) (machine : ℕ) where
  abbrev m' : ZXMachine
  m' = machine_of machine

  abbrev due : ℕ
  due = due_size m' (paging_in m' file)

  abbrev code : ℕ
  code = (load_sna l file registers machine).code

  by_causes : code ≡ fourth (ltb 1 machine) (not (lent_fits l registers m')) (not (eqb (length file) due)) (copies_differ m' file) (snapshot_record m' file)
  unfolding load_sna judge_load_sna
  by_causes = begun_code l (lent_by m' (imported_world m' file)) (judge_load_sna_of l file registers machine)

  -- "every size that is not due is 10": where machine and lengths are right, a file of any other size is refused with it,
  pub size_is_ten : machine ≤ 1 → lent_fits l registers m' ≡ true → (length file ≡ due → ⊥) → code ≡ 10
  size_is_ten known fits other =
      by_causes ∙ by_ten _ _ _ _ _ (le-ltb 1 machine known) (ap not fits) (ap not (ne_eqb (length file) due other))

  -- "and only such"
  pub ten_is_size : code ≡ 10 → (machine ≤ 1) × (lent_fits l registers m' ≡ true) × (length file ≡ due → ⊥)
  ten_is_size e =
      let t = ten_by _ _ _ _ _ (sym by_causes ∙ e) in
      (ltb-false 1 machine t.0, not-false _ t.1, eqb-false (length file) due (not_true _ t.2))

  -- "11 exactly where both copies are there and differ": copies_differ, which crate snapshot says byte by byte (Round.differ-at, differ-somewhere)
  pub copies_are_eleven : machine ≤ 1 → lent_fits l registers m' ≡ true → length file ≡ due → copies_differ m' file ≡ true → code ≡ 11
  copies_are_eleven known fits size differ =
      by_causes ∙ by_eleven _ _ _ _ _ (le-ltb 1 machine known) (ap not fits) (ap not (eq-eqb (length file) due size)) differ

  pub eleven_is_copies : code ≡ 11 → (machine ≤ 1) × (lent_fits l registers m' ≡ true) × (length file ≡ due) × (copies_differ m' file ≡ true)
  eleven_is_copies e =
      let t = eleven_by _ _ _ _ _ (sym by_causes ∙ e) in
      (ltb-false 1 machine t.0, not-false _ t.1, eqb-true (length file) due (not-false _ t.2), t.3)

-- ---- EXPORT
module _ (state ram file registers : List ℕ) (z : (save_sna state ram file registers).code ≡ 0) where
  abbrev bus : Bus
  bus = record_of state

  export_judged : judge_save_sna state (length ram) (length file) (length registers) ≡ Ok bus
  export_judged = (save_sna_ordered state (length ram) (length file) (length registers)).none_accepts ((save_sna_numbered state ram file registers).zero_by_none z)

  pub export_ready : ReadySaveSna state (length ram) (length file) (length registers) bus
  export_ready = ready_save_sna state bus (length ram) (length file) (length registers) export_judged

  pub export_is : save_sna state ram file registers ≡ changed 0 (snapshot_file bus.machine bus.paging bus.reported ram registers)
  unfolding save_sna
  export_is = rw export_judged

-- AND WHERE AN EXPORT IS: "or the record's when writing". On a sound record, with RAM and registers of their lengths, a file of any other size is refused
-- with 10; and only such.
module _ (state ram file registers : List ℕ) where
  pub export_size_is_ten : (bus : Bus) → held_by state ≡ Ok bus → export_fits bus (length ram) (length registers) ≡ true
      → (length file ≡ due_size bus.machine bus.paging → ⊥) → (save_sna state ram file registers).code ≡ 10
  unfolding save_sna judge_save_sna judged
  export_size_is_ten bus h fits other = rw (h, fits, ne_eqb (length file) (due_size bus.machine bus.paging) other)

  third_by : (a b : Bool) (bus : Bus) → code_of (judged (cause BadLength a ∷ cause WrongSize b ∷ []) bus) ≡ 10 → (a ≡ false) × (b ≡ true)
  unfolding judged
  third_by true b bus e = absurd (omega arith)
  third_by false true bus e = (refl, refl)
  third_by false false bus e = absurd (omega arith)

  ten_by_held : (h : Result Bus BadRecord) → held_by state ≡ h → code_of (judged_held h (save_sna_causes (length ram) (length file) (length registers))) ≡ 10
      → (bus : Bus) × ((held_by state ≡ Ok bus) × (export_fits bus (length ram) (length registers) ≡ true)
      × (length file ≡ due_size bus.machine bus.paging → ⊥))
  ten_by_held (Err bad.WrongLength) p e = absurd (omega arith)
  ten_by_held (Err bad.Unsound) p e = absurd (omega arith)
  ten_by_held (Ok bus) p e =
      let t = third_by _ _ bus e in
      (bus, (p, not-false _ t.0, eqb-false (length file) (due_size bus.machine bus.paging) (not_true _ t.1)))

  pub export_ten_is_size : (save_sna state ram file registers).code ≡ 10
      → (bus : Bus) × ((held_by state ≡ Ok bus) × (export_fits bus (length ram) (length registers) ≡ true)
      × (length file ≡ due_size bus.machine bus.paging → ⊥))
  unfolding judge_save_sna
  export_ten_is_size e =
      ten_by_held (held_by state) refl (sym (save_sna_code state ram file registers) ∙ e)

-- a machine's number is at most 1, and names it
number_known : (m : ZXMachine) → machine_number m ≤ 1
number_known Sinclair48K = omega arith
number_known Sinclair128K = omega arith

number_names : (m : ZXMachine) → machine_of (machine_number m) ≡ m
number_names Sinclair48K = refl
number_names Sinclair128K = refl

-- IMPORT AFTER EXPORT: what was saved is accepted, by the machine's own number and whatever stood in the slices that it is loaded into. RAM is the same to
-- the byte; the record is a fresh one with the same 7FFD byte, lock included, and the same reported border, which is the beam's colour too; and the registers are
-- those that were lent, with that border in byte 26.
pub save_then_load : (state ram file registers : List ℕ) → (save_sna state ram file registers).code ≡ 0
    → let bus = record_of state in
    let m = bus.machine in
    (l : Lent) (filled : List ℕ) → lent_fits l filled m ≡ true
    → load_sna l (save_sna state ram file registers).slice filled (machine_number m)
    ≡ import_leaves 0 (lent_by m (beginning (fresh_record m bus.paging bus.reported bus.reported) ram)) (header_of registers bus.reported ++ kept_three m registers)
save_then_load state ram file registers z l filled fits =
    let b : Bus = record_of state in
    let m : ZXMachine = b.machine in
    let r = export_ready state ram file registers z in
    let u = r.on_record.sound.unpaged in
    let s : List ℕ = snapshot_file m b.paging b.reported ram registers in
    let page : paging_in m s ≡ b.paging = paging_back m b.paging b.reported ram registers r.ram_is r.registers_is u in
    let edge : border_in s ≡ b.reported = border_back m b.paging b.reported ram registers r.ram_is r.registers_is r.on_record.sound.reported in
    let whole : length s ≡ due_size m (paging_in m s) = length_file m b.paging b.reported ram registers r.ram_is r.registers_is ∙ ap (due_size m) (sym page) in
    let equal : copies_differ m s ≡ false = copies_agree m b.paging b.reported ram registers r.ram_is r.registers_is u in
    let at : (n : ZXMachine) → n ≡ m → lent_fits l filled m ≡ true → (k : ℕ) → machine_of k ≡ n → k ≤ 1
    → load_sna l s filled k ≡ import_leaves 0 (lent_by m (imported_world m s)) (registers_in m s) =
    λ n e fits k names known. rw (names, e) at (import_accepted l s filled k known (rw (names, e) fits) (rw (names, e) whole) (rw (names, e) equal)) in
    ap (λ (c : Changed). load_sna l c.slice filled (machine_number m)) (export_is state ram file registers z)
    ∙ at m refl fits (machine_number m) (number_names m) (number_known m)
    ∙ rw (page, edge, ram_back m b.paging b.reported ram registers r.ram_is r.registers_is u, registers_back m b.paging b.reported ram registers r.ram_is r.registers_is)

-- an export that nothing speaks against
export_by : (state ram out registers : List ℕ) (bus : Bus) → held_by state ≡ Ok bus → length ram ≡ (specs_of bus.machine).ram
    → length registers ≡ registers_length → length out ≡ due_size bus.machine bus.paging
    → save_sna state ram out registers ≡ changed 0 (snapshot_file bus.machine bus.paging bus.reported ram registers)
unfolding save_sna judge_save_sna judged
export_by state ram out registers bus h r g o =
    rw (h, eq-eqb (length ram) (specs_of bus.machine).ram r, eq-eqb (length registers) registers_length g, eq-eqb (length out) (due_size bus.machine bus.paging) o)

-- EXPORT AFTER IMPORT: what was imported, saved from the slices and registers that the import left into a file of the same size, is accepted and is the file
-- "but for bits 3..7 of byte 26".
pub load_then_save : (l : Lent) (file registers : List ℕ) (machine : ℕ) → machine < 2 ^ 32 → Bytes file → (load_sna l file registers machine).code ≡ 0
    → let i = load_sna l file registers machine in
    (out : List ℕ) → length out ≡ length file
    → save_sna i.slices.state i.slices.ram out i.registers ≡ changed 0 (take border_at file ++ (border_in file ∷ drop header_length file))
load_then_save l file registers machine small bytes z out long =
    let m = machine_of machine in
    let bus : Bus = snapshot_record m file in
    let due = (import_ready l machine file registers z).file_is in
    ap (λ (i : Imported). save_sna i.slices.state i.slices.ram out i.registers) (import_leaves_lem l file registers machine z)
    ∙ export_by (record_bytes bus) (ram_in m file) out (registers_in m file) bus
    (held_encode bus (facts_sound bus (begun_sound (snapshot_start machine file registers) l (small, bytes) z)))
    (length_ram m file due) (length_registers m file due) (long ∙ due)
    ∙ ap (changed 0) (file_back m file due (import_ready l machine file registers z).copies_equal)
