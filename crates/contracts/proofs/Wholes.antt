-- WHAT IS ACCEPTED WAS LENT WHOLE: on a sound machine whose memory has its lengths, a call that is accepted, whatever was lent of each buffer, was
-- lent the buffers that it uses whole, and so does what it does on the buffers themselves.
-- Assumes nothing.
use Prim.Native.Nat.{ℕ}
use mathlib.Core.Bool.{Bool, true, false, not}
use mathlib.Core.List.{List, [], ◌∷◌}
use mathlib.Core.Path.{◌≡◌, refl, sym, ◌∙◌, ap}
use lib.Dec.{eqb}
use lib.ListN.{length}
use borrow.Author.Tests.{eqb-true, not-false}
use Rattle.laws.proofs.Cases.{and_left}
use Rattle.laws.proofs.Conjunction.{each}
use Rattle.machine.specs.declared.ZXMachine.{ZXMachine}
use Rattle.machine.specs.Numbers.{specs_of}
use Rattle.machine.specs.Limits.{picture_length, border_length}
use Rattle.record.specs.declared.Bus.{Bus}
use Rattle.record.specs.Record.{record_length, record_of}
use Rattle.record.proofs.Soundness.{facts_sound}
use Rattle.record.proofs.Round.{decode_encode_sound}
use Rattle.ports.specs.Devices.{devices_length}
use Rattle.bus.specs.World.{World, bus_of, Sized}
use Rattle.bus.proofs.Kept.{SoundWorld}
use Rattle.judgement.specs.Judges.{ram_fits, rom_fits, picture_fits, border_fits, timed_fits, lent_fit}
use Rattle.judgement.specs.Order.{NoneHolds}
use Rattle.contracts.specs.Timed.{Lent, lent_by}
use Rattle.contracts.specs.Plain.{read_internal, read7ffd, int_active, frames_count, ram_page_told, block_told, shown_told, still_picture, save_scr, told}
use Rattle.contracts.specs.Snapshots.{save_sna}
use Rattle.contracts.specs.Calls.{TimedCall, plain, mreq, no_mreq, port_in, port_out, Question, byte_read, paging_read, interrupt_asked, frames_asked, page_asked, block_asked, shown_asked, still_asked, file_asked, snapshot_asked, help, replied, timed_causes, question_causes, Portions, lent_of}
use Rattle.contracts.proofs.Lending.{portion_whole, LentWhole}

module _ (m : ZXMachine) (w : World) (sound : SoundWorld m w) (sized : Sized m w) where
  abbrev l : Lent
  l = lent_by m w

  -- the machine's own record says its machine
  pub record_of_lem : record_of l.state ≡ bus_of m w
  record_of_lem = decode_encode_sound (bus_of m w) (facts_sound (bus_of m w) sound)

  module _ (n : Portions) where
    abbrev part : Lent
    part = lent_of n l

    -- the record passed the test of its length
    pub state_whole : not (eqb (length part.state) record_length) ≡ false → part.state ≡ l.state
    state_whole h = portion_whole n.state l.state (eqb-true (length part.state) record_length (not-false _ h))

    pub bus_is : not (eqb (length part.state) record_length) ≡ false → record_of part.state ≡ bus_of m w
    bus_is h = ap record_of (state_whole h) ∙ record_of_lem

    -- and a slice the test of its own
    pub ram_long_lem : (bus : Bus) → bus ≡ bus_of m w → ram_fits bus (length part.ram) ≡ true → length part.ram ≡ length l.ram
    ram_long_lem bus e h = eqb-true (length part.ram) (specs_of bus.machine).ram h ∙ ap (λ (x : Bus). (specs_of x.machine).ram) e ∙ sym sized.ram

    pub ram_whole : (bus : Bus) → bus ≡ bus_of m w → ram_fits bus (length part.ram) ≡ true → part.ram ≡ l.ram
    ram_whole bus e h = portion_whole n.ram l.ram (ram_long_lem bus e h)

    a_long : picture_fits (length part.a) ≡ true → length part.a ≡ length l.a
    a_long h = eqb-true (length part.a) picture_length h ∙ sym sized.a

    b_long : picture_fits (length part.b) ≡ true → length part.b ≡ length l.b
    b_long h = eqb-true (length part.b) picture_length h ∙ sym sized.b

    -- the five slices of a timed call
    five_whole : (h : not (eqb (length part.state) record_length) ≡ false)
        → lent_fit (record_of part.state) (length part.ram) (length part.a) (length part.b) (length part.border) ≡ true → LentWhole n l
    five_whole h e =
        let fit = each (ram_fits (record_of part.state) (length part.ram)) (picture_fits (length part.a) ∷ picture_fits (length part.b) ∷ border_fits (length part.border) ∷ []) e in
        record {
          state = eqb-true (length part.state) record_length (not-false _ h);
          ram = ram_long_lem (record_of part.state) (bus_is h) (fit 0);
          a = a_long (fit 1);
          b = b_long (fit 2);
          border = eqb-true (length part.border) border_length (fit 3) ∙ sym sized.pixels;
        }

    abbrev fits : Bool
    fits = lent_fit (record_of part.state) (length part.ram) (length part.a) (length part.b) (length part.border)

    -- A TIMED CALL THAT IS ACCEPTED WAS LENT ALL FIVE WHOLE.
    pub timed_whole : (t : TimedCall) (answer : List ℕ) → NoneHolds (timed_causes t part answer) → LentWhole n l
    timed_whole (plain k) answer h = five_whole h.0 (and_left fits (timed_fits (length answer)) (not-false _ h.1.1.0))
    timed_whole (mreq addr k) answer h = five_whole h.0 (and_left fits (timed_fits (length answer)) (not-false _ h.1.1.0))
    timed_whole (no_mreq addr k) answer h = five_whole h.0 (and_left fits (timed_fits (length answer)) (not-false _ h.1.1.0))
    timed_whole (port_in devices port) answer h = five_whole h.0 (each (eqb (length devices) devices_length) (fits ∷ timed_fits (length answer) ∷ []) (not-false _ h.1.1.0) 1)
    timed_whole (port_out devices port value) answer h =
        five_whole h.0 (each (eqb (length devices) devices_length) (fits ∷ timed_fits (length answer) ∷ []) (not-false _ h.1.1.0) 1)

    -- A QUESTION THAT IS ANSWERED is answered as on the whole buffers.
    pub reply_whole : (q : Question) (out : List ℕ) → NoneHolds (question_causes q part out) → replied q part out ≡ replied q l out
    unfolding replied
    reply_whole (byte_read rom addr) out h =
        let fit = each (rom_fits (record_of part.state) (length rom)) (ram_fits (record_of part.state) (length part.ram) ∷ _ ∷ []) (not-false _ h.1.1.0) in
        λ i. read_internal (state_whole h.0 i) rom (ram_whole (record_of part.state) (bus_is h.0) (fit 1) i) addr out
    reply_whole paging_read out h = λ i. read7ffd (state_whole h.0 i) out
    reply_whole interrupt_asked out h = λ i. int_active (state_whole h.0 i) out
    reply_whole frames_asked out h = λ i. frames_count (state_whole h.0 i) out
    reply_whole (page_asked page) out h =
        let fit = each (ram_fits (record_of part.state) (length part.ram)) (_ ∷ []) (not-false _ h.1.1.0) in
        λ i. ram_page_told (state_whole h.0 i) (ram_whole (record_of part.state) (bus_is h.0) (fit 0) i) page out
    reply_whole (block_asked rom block) out h =
        let fit = each (rom_fits (record_of part.state) (length rom)) (ram_fits (record_of part.state) (length part.ram) ∷ _ ∷ []) (not-false _ h.1.1.0) in
        λ i. block_told (state_whole h.0 i) rom (ram_whole (record_of part.state) (bus_is h.0) (fit 1) i) block out
    reply_whole shown_asked out h =
        let fit = each (picture_fits (length part.a)) (picture_fits (length part.b) ∷ _ ∷ []) (not-false _ h.1.1.0) in
        λ i. shown_told (state_whole h.0 i) (portion_whole n.a l.a (a_long (fit 0)) i) (portion_whole n.b l.b (b_long (fit 1)) i) out
    reply_whole (still_asked flash) out h =
        let fit = each (ram_fits (record_of part.state) (length part.ram)) (_ ∷ []) (not-false _ h.1.1.0) in
        λ i. let c = still_picture (state_whole h.0 i) (ram_whole (record_of part.state) (bus_is h.0) (fit 0) i) out flash in told c.code c.slice
    reply_whole file_asked out h =
        let fit = each (ram_fits (record_of part.state) (length part.ram)) (_ ∷ []) (not-false _ h.1.1.0) in
        λ i. let c = save_scr (state_whole h.0 i) (ram_whole (record_of part.state) (bus_is h.0) (fit 0) i) out in told c.code c.slice
    reply_whole (snapshot_asked registers) out h =
        let fit = each (ram_fits (record_of part.state) (length part.ram)) (_ ∷ []) (not-false _ h.1.1.0) in
        λ i. let c = save_sna (state_whole h.0 i) (ram_whole (record_of part.state) (bus_is h.0) (fit 0) i) out registers in told c.code c.slice
    reply_whole (help helper number) out h = refl
