-- The part that `ulb_shown_picture` names, on the buffers of a sound machine, is the picture that is shown.
-- Assumes nothing.
use Prim.Native.Nat.{ℕ}
use mathlib.Core.Bool.{true, not, cond}
use mathlib.Core.List.{List, ◌++◌}
use mathlib.Core.Path.{◌≡◌, refl, sym, ◌∙◌, ap}
use lib.ListN.{length}
use borrow.Author.Tests.{eq-eqb}
use Rattle.std.specs.Prelude.{Ok}
use Rattle.laws.proofs.Cases.{and_both}
use Rattle.machine.specs.declared.ZXMachine.{ZXMachine}
use Rattle.machine.specs.Limits.{picture_length}
use Rattle.record.proofs.Soundness.{facts_sound}
use Rattle.record.proofs.Round.{sound_encode, sound_fits}
use Rattle.bus.specs.World.{World, bus_of, Sized}
use Rattle.bus.specs.Time.{shows_a, shown_picture}
use Rattle.bus.proofs.Kept.{SoundWorld}
use Rattle.judgement.specs.Answers.{number_length}
use Rattle.judgement.specs.Order.{NoneHolds}
use Rattle.judgement.proofs.Order.{shown_ordered}
use Rattle.contracts.specs.Timed.{Lent, lent_by}
use Rattle.contracts.specs.Plain.{part, shown_part, shown_told}
use Rattle.contracts.specs.Calls.{shown_asked, ask, replied, performed, question_causes}
use Rattle.contracts.proofs.Calls.{call_numbered}
use Rattle.contracts.proofs.Parts.{shown_found}
use Rattle.contracts.proofs.Wholes.{record_of_lem}
use Rattle.history.specs.Demand.{Names}

module _ (m : ZXMachine) (w : World) (sound : SoundWorld m w) (sized : Sized m w) (answer : List ℕ) (five : length answer ≡ number_length) where
  abbrev l : Lent
  l = lent_by m w

  no_cause : NoneHolds (question_causes shown_asked l answer)
  no_cause = (
    refl,
    (
      ap not (sound_encode (bus_of m w) (sound_fits (bus_of m w) sound) ∙ facts_sound (bus_of m w) sound),
      (ap not (and_both _ _ (and_both _ _ (eq-eqb (length l.a) picture_length sized.a) (eq-eqb (length l.b) picture_length sized.b)) (eq-eqb (length answer) number_length five)), tt),
    ),
  )

  accepted : (shown_told l.state l.a l.b answer).code ≡ 0
  unfolding performed replied
  accepted = (call_numbered (ask shown_asked answer) l).none_is_zero no_cause

  part_is : shown_part l.state l.a l.b ≡ shown_picture w.core w.screen
  unfolding shown_part
  part_is =
      ap (part (λ bus. cond (shows_a bus.phase) l.a l.b))
      ((shown_ordered l.state (length l.a) (length l.b) true).none_accepts
      (no_cause.0, (no_cause.1.0, (ap not (and_both _ _ (and_both _ _ (eq-eqb (length l.a) picture_length sized.a) (eq-eqb (length l.b) picture_length sized.b)) refl), tt)))
      ∙ ap Ok (record_of_lem m w sound sized))

  pub shown_named : Names (shown_told l.state l.a l.b answer) (l.a ++ l.b) (shown_picture w.core w.screen)
  shown_named = (accepted, sym (shown_found l.state l.a l.b answer accepted).0 ∙ part_is)
