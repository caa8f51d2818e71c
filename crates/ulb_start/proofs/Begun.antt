-- The two ways out of a start, over plain values: `v` is the verdict that the code holds.
-- Assumes nothing.
use Prim.Native.Nat.{ℕ}
use mathlib.Core.Path.{◌≡◌, ◌∙◌}
use mathlib.Core.List.{List}
use lib.ListN.{length, replicate}
use Rattle.std.specs.Prelude.{Result, Ok, Err}
use Rattle.record.specs.declared.Bus.{Bus}
use Rattle.record.specs.Record.{record_bytes, machine_of}
use Rattle.judgement.specs.declared.Refusal.{Refusal}
use Rattle.judgement.specs.Refusals.{refusal_number}
use Rattle.judgement.proofs.Accepted.{ready_start}
use Rattle.contracts.proofs.Leaves.{ram_cleared, picture_cleared, border_cleared}
use Rattle.contracts.specs.Timed.{Lent, lent, start_leaves, begun, judge_start_of, start_colour}

module _ (l : Lent) (machine colour : ℕ) (v : Result Bus Refusal) (judged : v ≡ judge_start_of l machine colour) where
  pub start_refused : (e : Refusal) (r : ℕ) → v ≡ Err e → r ≡ refusal_number e → start_leaves r l ≡ start_colour l machine colour
  unfolding start_colour begun
  start_refused e r p q = rw (← judged, p, q)

  pub start_accepted : (state ram a b border : List ℕ) (bus : Bus) → v ≡ Ok bus → state ≡ record_bytes bus
      → ram ≡ replicate (length l.ram) 0 → a ≡ replicate (length l.a) 0 → b ≡ replicate (length l.b) 0 → border ≡ replicate (length l.border) 0
      → start_leaves 0 (lent state ram a b border) ≡ start_colour l machine colour
  unfolding start_colour begun
  start_accepted state ram a b border bus p e er ea eb ed =
      let n = ready_start (length l.state) (length l.ram) (length l.a) (length l.b) (length l.border) machine colour bus (rw (← judged, p)) in
      let cr = er ∙ ram_cleared (machine_of machine) (length l.ram) n.fit.ram_is in
      let ca = ea ∙ picture_cleared (length l.a) n.fit.a_is in
      let cb = eb ∙ picture_cleared (length l.b) n.fit.b_is in
      let cd = ed ∙ border_cleared (length l.border) n.fit.border_is in
      rw (← judged, p, e, n.writes, cr, ca, cb, cd)
