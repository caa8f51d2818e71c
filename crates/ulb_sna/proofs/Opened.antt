-- The ways out of an import, over plain values: `v` is the verdict that the code holds.
-- Assumes nothing.
use Prim.Native.Nat.{ℕ}
use mathlib.Core.Path.{◌≡◌, ap, ◌∙◌}
use mathlib.Core.List.{List}
use lib.ListN.{length, replicate}
use Rattle.std.specs.Prelude.{Result, Ok, Err}
use Rattle.machine.specs.declared.ZXMachine.{ZXMachine}
use Rattle.machine.specs.Numbers.{specs_of}
use Rattle.record.specs.declared.Bus.{Bus}
use Rattle.record.specs.Record.{record_bytes, record_length, machine_of}
use Rattle.snapshot.specs.File.{due_size, paging_in, ram_in}
use Rattle.snapshot.specs.Kept.{registers_length, registers_in}
use Rattle.judgement.specs.declared.Refusal.{Refusal}
use Rattle.judgement.specs.Refusals.{refusal_number}
use Rattle.judgement.specs.Ready.{ReadyLoadSna}
use Rattle.judgement.proofs.Accepted.{ready_load_sna}
use Rattle.contracts.specs.Timed.{Lent, lent, begun}
use Rattle.contracts.specs.Snapshots.{import_leaves, judge_load_sna_of, load_sna}
use Rattle.contracts.proofs.Leaves.{picture_cleared, border_cleared}

-- what the code asks of the slices, by the machine of the record that it was given
pub record Lengths (m : ZXMachine) (file : List ℕ) (state ram registers : ℕ) : Type 0 where
  pub file_is : length file ≡ due_size m (paging_in m file)
  pub state_is : state ≡ record_length
  pub ram_is : ram ≡ (specs_of m).ram
  pub registers_is : registers ≡ registers_length

module _ (l : Lent) (file registers : List ℕ) (machine : ℕ) (v : Result Bus Refusal) (judged : v ≡ judge_load_sna_of l file registers machine) where
  pub import_refused : (e : Refusal) (r : ℕ) → v ≡ Err e → r ≡ refusal_number e → import_leaves r l registers ≡ load_sna l file registers machine
  unfolding load_sna begun
  import_refused e r p q = rw (← judged, p, q)

  module _ (bus : Bus) (p : v ≡ Ok bus) where
    ready : ReadyLoadSna (length l.state) (length l.ram) (length registers) (length l.a) (length l.b) (length l.border) machine file bus
    ready = ready_load_sna _ _ _ _ _ _ machine file bus (rw (← judged, p))

    its_machine : bus.machine ≡ machine_of machine
    its_machine = ap (λ (b : Bus). b.machine) ready.writes

    pub import_lengths : Lengths bus.machine file (length l.state) (length l.ram) (length registers)
    import_lengths =
        rw its_machine (record { file_is = ready.file_is; state_is = ready.fit.state_is; ram_is = ready.fit.ram_is; registers_is = ready.registers_is })

    pub import_accepted : (state ram filled a b border : List ℕ) → state ≡ record_bytes bus → ram ≡ ram_in bus.machine file
        → filled ≡ registers_in bus.machine file → a ≡ replicate (length l.a) 0 → b ≡ replicate (length l.b) 0 → border ≡ replicate (length l.border) 0
        → import_leaves 0 (lent state ram a b border) filled ≡ load_sna l file registers machine
    unfolding load_sna begun
    import_accepted state ram filled a b border e er eg ea eb ed =
        let cr = er ∙ ap (λ (m : ZXMachine). ram_in m file) its_machine in
        let cg = eg ∙ ap (λ (m : ZXMachine). registers_in m file) its_machine in
        let ca = ea ∙ picture_cleared (length l.a) ready.fit.a_is in
        let cb = eb ∙ picture_cleared (length l.b) ready.fit.b_is in
        let cd = ed ∙ border_cleared (length l.border) ready.fit.border_is in
        rw (← judged, p, e, ready.writes, cr, cg, ca, cb, cd)
