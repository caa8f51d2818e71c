-- Good input is accepted, and the machine's own record is never refused.
-- Assumes nothing.
use Prim.Native.Nat.{ℕ, ◌≤◌}
use mathlib.Core.Bool.{Bool, true, false, not, ◌&&◌, false≢true}
use mathlib.Core.List.{List, [], ◌∷◌, ◌++◌}
use mathlib.Core.Path.{◌≡◌, refl, sym, ◌∙◌, ap}
use native.Mathlib.Omega.{arith}
use lib.Dec.{eqb}
use lib.ListN.{length, get_or, drop}
use borrow.Author.Tests.{eq-eqb, ne_eqb, le-ltb}
use Rattle.laws.proofs.Cases.{and_left, and_right, and_both}
use Rattle.machine.specs.declared.ZXMachine.{ZXMachine}
use Rattle.machine.specs.Numbers.{specs_of}
use Rattle.machine.specs.Limits.{picture_length, border_length, longest_wait}
use Rattle.record.specs.declared.Bus.{Bus}
use Rattle.record.specs.Record.{record_of, sound_bytes, last_frame, no_room, HasRoom}
use Rattle.record.proofs.Soundness.{facts_sound}
use Rattle.record.proofs.Round.{sound_encode, sound_fits}
use Rattle.bus.specs.World.{World, bus_of, Sized}
use Rattle.bus.proofs.Kept.{SoundWorld}
use Rattle.judgement.specs.declared.Refusal.{Refusal}
use Rattle.judgement.specs.declared.Refusal.TheVariants.{BadLength, Unsound}
use Rattle.judgement.specs.Refusals.{refusal_number, Cause}
use Rattle.judgement.specs.Judges.{ram_fits}
use Rattle.judgement.specs.Answers.{timed_length}
use Rattle.judgement.specs.Order.{NoneHolds, FirstHolds, record_causes}
use Rattle.contracts.specs.Timed.{Lent, lent_by}
use Rattle.contracts.specs.Calls.{plain_start, colour_start, snapshot_start, plain, mreq, no_mreq, port_in, port_out, byte_read, paging_read, interrupt_asked, frames_asked, page_asked, block_asked, shown_asked, still_asked, file_asked, snapshot_asked, help, Call, start_again, take_time, write_byte, write_paging, reset_passed, load_ram, load_screen, ask, performed, wait_causes_of, causes_of, Portions, lent_of}
use Rattle.contracts.proofs.Calls.{call_numbered}
use Rattle.contracts.proofs.Wholes.{record_of_lem, state_whole}

module _ (m : ZXMachine) (w : World) (sound : SoundWorld m w) (sized : Sized m w) where
  abbrev l : Lent
  l = lent_by m w

  pub own_sound : sound_bytes l.state ≡ true
  own_sound = sound_encode (bus_of m w) (sound_fits (bus_of m w) sound) ∙ facts_sound (bus_of m w) sound

  -- A wait of at most 65,535 clocks is accepted while passed frames have room.
  pub wait_accepted : (clocks : ℕ) (answer : List ℕ) → clocks ≤ longest_wait → length answer ≡ timed_length → HasRoom w.core.passed
      → (performed (take_time (plain clocks) answer) l).code ≡ 0
  wait_accepted clocks answer few size room =
      (call_numbered (take_time (plain clocks) answer) l).none_is_zero none
    where
      here : record_of l.state ≡ bus_of m w
      here = record_of_lem m w sound sized

      none : NoneHolds (wait_causes_of l clocks answer)
      none = (
        refl,
        (
          ap not own_sound,
          (
            ap not
                (and_both _ _
                (and_both _ _
                (and_both _ _
                (and_both _ _ (ap (λ (b : Bus). ram_fits b (length l.ram)) here ∙ eq-eqb (length l.ram) (specs_of m).ram sized.ram) (eq-eqb (length l.a) picture_length sized.a))
                (eq-eqb (length l.b) picture_length sized.b))
                (eq-eqb (length l.border) border_length sized.pixels))
                (eq-eqb (length answer) timed_length size)),
            (
              le-ltb longest_wait clocks few,
              (ap (λ (b : Bus). no_room b.passed) here ∙ ne_eqb w.core.passed last_frame (λ e. omega arith), tt),
            ),
          ),
        ),
      )

-- ---- refusal 3

-- none of a list of causes gives refusal 3
abbrev clean : List Cause → Bool
clean [] = true
clean (c ∷ cs) = not (eqb (refusal_number c.refusal) 3) && clean cs

clean_at : (before : List Cause) (this : Cause) (after : List Cause) → clean (before ++ this ∷ after) ≡ true → this.refusal ≡ Unsound → ⊥
clean_at [] this after h e =
    false≢true (ap (λ (r : Refusal). not (eqb (refusal_number r) 3)) (sym e) ∙ and_left (not (eqb (refusal_number this.refusal) 3)) (clean after) h)
clean_at (c ∷ cs) this after h e = clean_at cs this after (and_right (not (eqb (refusal_number c.refusal) 3)) (clean (cs ++ this ∷ after)) h) e

clean_first : (cs : List Cause) → clean cs ≡ true → FirstHolds cs Unsound → ⊥
clean_first cs h f = clean_at f.before f.this f.after (ap clean (sym f.split) ∙ h) f.refusal

-- the causes of the record, and others behind them
later_clean : (c d : Cause) (rest before : List Cause) (this : Cause) (after : List Cause) → c ∷ d ∷ rest ≡ before ++ this ∷ after → NoneHolds before
    → this.holds ≡ true → this.refusal ≡ Unsound → c.refusal ≡ BadLength → (c.holds ≡ false → d.holds ≡ false) → clean rest ≡ true → ⊥
later_clean c d rest [] this after split none holds unsound long sound h =
    let same : c ≡ this = ap (λ (xs : List Cause). get_or xs 0 c) split in
    let z : ◌≡◌ {A = ℕ} 2 3 = ap refusal_number (sym long ∙ ap (λ (x : Cause). x.refusal) same ∙ unsound) in
    omega (arith, z)
later_clean c d rest (x ∷ []) this after split none holds unsound long sound h =
    let first : c ≡ x = ap (λ (xs : List Cause). get_or xs 0 c) split in
    let second : d ≡ this = ap (λ (xs : List Cause). get_or xs 1 c) split in
    false≢true (sym (sound (ap (λ (y : Cause). y.holds) first ∙ none.0)) ∙ ap (λ (y : Cause). y.holds) second ∙ holds)
later_clean c d rest (x ∷ y ∷ ys) this after split none holds unsound long sound h =
    clean_at ys this after (ap clean (sym (ap (drop 2) split)) ∙ h) unsound

module _ (m : ZXMachine) (w : World) (sound : SoundWorld m w) (sized : Sized m w) (n : Portions) where
  abbrev part : Lent
  part = lent_of n (lent_by m w)

  -- a record of the right length is the machine's own, which is sound
  record_first : (rest : List Cause) → clean rest ≡ true → FirstHolds (record_causes part.state ++ rest) Unsound → ⊥
  record_first rest h f =
      later_clean _ _ rest f.before f.this f.after f.split f.none_before f.holds f.refusal refl
      (λ long. ap not (ap sound_bytes (state_whole m w sound sized n long) ∙ own_sound m w sound sized)) h

  first_by : (k : Call) → FirstHolds (causes_of k part) Unsound → ⊥
  first_by (start_again (plain_start machine)) f = clean_first _ refl f
  first_by (start_again (colour_start machine first)) f = clean_first _ refl f
  first_by (start_again (snapshot_start machine file registers)) f = clean_first _ refl f
  first_by (take_time (plain k) answer) f = record_first _ refl f
  first_by (take_time (mreq addr k) answer) f = record_first _ refl f
  first_by (take_time (no_mreq addr k) answer) f = record_first _ refl f
  first_by (take_time (port_in devices port) answer) f = record_first _ refl f
  first_by (take_time (port_out devices port value) answer) f = record_first _ refl f
  first_by (write_byte addr value) f = record_first _ refl f
  first_by (write_paging value answer) f = record_first _ refl f
  first_by reset_passed f = record_first [] refl f
  first_by (load_ram bytes page) f = record_first _ refl f
  first_by (load_screen file page) f = record_first _ refl f
  first_by (ask (byte_read rom addr) out) f = record_first _ refl f
  first_by (ask paging_read out) f = record_first _ refl f
  first_by (ask interrupt_asked out) f = record_first _ refl f
  first_by (ask frames_asked out) f = record_first _ refl f
  first_by (ask (page_asked page) out) f = record_first _ refl f
  first_by (ask (block_asked rom block) out) f = record_first _ refl f
  first_by (ask shown_asked out) f = record_first _ refl f
  first_by (ask (still_asked flash) out) f = record_first _ refl f
  first_by (ask file_asked out) f = record_first _ refl f
  first_by (ask (snapshot_asked registers) out) f = record_first _ refl f
  first_by (ask (help h number) out) f = clean_first _ refl f

  -- A machine whose record is sound never gives refusal 3, however its buffers are lent.
  pub never_unsound : (k : Call) → (performed k part).code ≡ 3 → ⊥
  never_unsound k e = first_by k ((call_numbered k part).number_by_first Unsound e)
