-- A START AND THEN ANY CALLS of the C surface are the Rust's: each accepted call starts from what the calls before it left, and leaves what the next
-- one asks; a refused call leaves everything as it was.
-- Assumes nothing.
use Prim.Native.Nat.{ℕ}
use native.Mathlib.Omega.{arith}
use mathlib.Core.Path.{◌≡◌, refl, sym, ap, ◌∙◌, subst}
use mathlib.Core.Bool.{true}
use mathlib.Core.List.{List, [], ◌∷◌}
use lib.ListN.{length}
use borrow.Author.Tests.{eqb-true, not-false}
use Rattle.laws.proofs.Conjunction.{each}
use Rattle.machine.specs.declared.ZXMachine.{ZXMachine}
use Rattle.machine.specs.Numbers.{specs_of}
use Rattle.record.specs.declared.Bus.{Bus}
use Rattle.record.specs.Record.{record_bytes, record_of, flag_byte, machine_of, with_paging, with_passed}
use Rattle.record.specs.Sound.{Sound}
use Rattle.record.proofs.Soundness.{facts_sound}
use Rattle.record.proofs.Round.{held_encode}
use Rattle.memory.specs.Paging as paging
use Rattle.memory.specs.Paging.{paging_after}
use Rattle.bus.specs.World.{World, bus_of, Sized}
use Rattle.bus.specs.Time.{world_after}
use Rattle.bus.proofs.Kept.{SoundWorld}
use Rattle.judgement.specs.Judges.{rom_fits}
use Rattle.judgement.specs.Answers.{number_length}
use Rattle.judgement.specs.Order.{NoneHolds, Numbered}
use Rattle.judgement.proofs.Order.{state_ordered, wait_ordered, port_ordered, told_ordered, read_ordered, write_ordered, load_ordered, still_ordered, save_scr_ordered, load_scr_ordered}
use Rattle.contracts.specs.Timed.{Lent, lent_by, Outcome, lent_world, start_colour}
use Rattle.contracts.specs.Plain.{Told, Changed}
use Rattle.contracts.specs.Helpers.{helper_call}
use Rattle.contracts.specs.Calls.{Start, colour_start, asked_machine, first_colour, started_world, started_by, TimedCall, plain, mreq, no_mreq, port_in, port_out, Helper, line_addr, line_of, column_of, attr_row_of, attr_column_of, colour_bits, Question, byte_read, paging_read, interrupt_asked, frames_asked, page_asked, block_asked, shown_asked, still_asked, file_asked, snapshot_asked, help, Call, start_again, take_time, write_byte, write_paging, reset_passed, load_ram, load_screen, ask, Result, result, with_ram, with_state, waited, ops_of, helped_by, replied, performed, timed_causes, question_causes, causes_of, refused_filled, lent_of, handed_back, Made, buffers_after, Obeyed, NotStarted, NoSecondStart}
use Rattle.contracts.proofs.Ranges.{Typed, AllTyped}
use Rattle.contracts.proofs.Still.{still_of_lem}
use Rattle.contracts.proofs.Calls.{call_numbered, call_refused}
use Rattle.contracts.proofs.Refusals.{save_sna_numbered}
use Rattle.contracts.proofs.Snapshots.{export_is}
use Rattle.contracts.proofs.Starts.{start_left, begun_sound, begun_sized}
use Rattle.contracts.proofs.Acts.{sized_kept, acted}
use Rattle.contracts.proofs.AsWhole.{as_whole, as_refused}
use Rattle.rustzx.specs.Panics.{OrPanic, done, panics}
use Rattle.rustzx.specs.Controller as rust
use Rattle.rustzx.specs.Controller.{ZXController, new, with_rom, set_beam}
use Rattle.rustzx.specs.Related.{our_machine, Related}
use Rattle.rustzx.specs.Memory.{ram_page_data, block_data}
use Rattle.rustzx.specs.Calls as rustCalls
use Rattle.rustzx.specs.Calls.{Given}
use Rattle.surface.specs.Same.{SameLent, SameStart, Clears, SameBeam, SameTimed, SameHelp}
use Rattle.surface.specs.Chain.{rust_timed, ValueOf, rust_helper, LeadsTo, SameReply, SameAnswer, SameCall, left_on, AllSame, OwnRomAsked, OwnRom, OneRom}
use Rattle.surface.proofs.OnMachine.{own}
use Rattle.surface.proofs.Judged.{settled, rom_long_lem}
use Rattle.surface.proofs.StartSame.{known, beam_same, start_same}
use Rattle.surface.proofs.TimedSame.{wait_same, mreq_same, no_mreq_same, read_same, write_same}
use Rattle.surface.proofs.PlainSame.{read_internal_same, read_7ffd_same, int_active_same, frames_count_same, write_internal_same, load_page_same, load_scr_same, save_scr_same, reset_same, write_7ffd_same}
use Rattle.surface.proofs.PartSame.{ram_page_told_same, block_told_same, shown_told_same}
use Rattle.surface.proofs.HelperSame.{line_addr_same, line_rel_same, col_rel_same, attr_row_same, attr_col_same, from_bits_same, some_lent}

-- the state that a run ends in, or else c
holder : ZXController → OrPanic Given → ZXController
holder c (done g) = g.controller
holder c panics = c

module _ (rom : List ℕ) (c : ZXController) (l : Lent) (s : SameLent rom c l) where
  abbrev here : SameLent rom c l
  here = settled rom c l s

  abbrev bus : Bus
  bus = here.bus

  abbrev m : ZXMachine
  m = bus.machine

  abbrev ours : ZXMachine
  ours = our_machine c.machine

  -- what each form of a call leaves
  timed_call_lem : (k : rustCalls.Call) (Valued : Given → ℕ → Type 0) (o : Outcome) (x : SameTimed rom k Valued c o) → SameLent rom x.given.controller o.slices
  timed_call_lem k Valued o x =
      rw x.slices
      (record {
        bus = bus_of ours x.world;
        is_held = held_encode (bus_of ours x.world) (facts_sound (bus_of ours x.world) x.sound);
        machine = ap our_machine x.related.machine;
        related = own c.machine rom x.given.controller x.world x.related;
      })

  record_call : (next : Bus) (state : List ℕ) → ours ≡ next.machine → state ≡ record_bytes next → (g : Given) → Sound (bus_of ours (lent_world next l))
      → Related c.machine rom g.controller (lent_world next l) → SameLent rom g.controller (with_state l state)
  record_call next state e p g ok r =
      record {
        bus = next;
        is_held = rw p (held_encode next (facts_sound next (subst (λ (n : ZXMachine). Sound (bus_of n (lent_world next l))) e ok)));
        machine = ap our_machine r.machine ∙ e;
        related = own c.machine rom g.controller (lent_world next l) r;
      }

  ram_call : (ram : List ℕ) (g : Given) → Related c.machine rom g.controller (lent_world bus (with_ram l ram)) → SameLent rom g.controller (with_ram l ram)
  ram_call ram g r =
      record { bus = bus; is_held = here.is_held; machine = ap our_machine r.machine ∙ here.machine; related = own c.machine rom g.controller (lent_world bus (with_ram l ram)) r }

  told_call : (x : OrPanic (List ℕ)) (g : Given) → rustCalls.hands_out c x ≡ done g → SameLent rom g.controller l
  unfolding holder
  told_call (done bytes) g e = subst (λ (d : ZXController). SameLent rom d l) (ap (holder c) e) here
  told_call panics g e = subst (λ (d : ZXController). SameLent rom d l) (ap (holder c) e) here

  -- the Rust's call that ended
  ended : (k : rustCalls.Call) (g : Given) → rustCalls.performed k c ≡ done g → LeadsTo k c g.controller
  ended k g e = record { given = g; ends = e; then = refl }

  -- ONE TIMED CALL, accepted.
  timed_same : (t : TimedCall) (answer : List ℕ) → Typed (take_time t answer) → NoneHolds (timed_causes t l answer)
      → SameTimed rom (rust_timed t) (ValueOf t) c (waited t l answer)
  unfolding waited
  timed_same (plain n) answer typed h = wait_same l bus rom c here.machine here.related n answer ((wait_ordered l.state (length l.ram) (length l.a) (length l.b) (length l.border) n (length answer)).none_accepts h)
  timed_same (mreq addr n) answer typed h = mreq_same l bus rom c here.machine here.related addr n answer ((wait_ordered l.state (length l.ram) (length l.a) (length l.b) (length l.border) n (length answer)).none_accepts h)
  timed_same (no_mreq addr n) answer typed h = no_mreq_same l bus rom c here.machine here.related addr n answer ((wait_ordered l.state (length l.ram) (length l.a) (length l.b) (length l.border) n (length answer)).none_accepts h)
  timed_same (port_in devices port) answer typed h = read_same l bus rom c here.machine here.related devices port answer ((port_ordered l.state devices (length l.ram) (length l.a) (length l.b) (length l.border) (length answer)).none_accepts h)
  timed_same (port_out devices port value) answer typed h = write_same l bus rom c here.machine here.related devices port value answer typed.1 ((port_ordered l.state devices (length l.ram) (length l.a) (length l.b) (length l.border) (length answer)).none_accepts h)

  -- a question's answer and the state that it leaves
  record Reply (q : Question) (t : Told) : Type 0 where
    next : ZXController
    same : SameReply rom q c next l t
    leaves : SameLent rom next l

  number_long : (q : Question) (answer : List ℕ) → NoneHolds (question_causes q l answer) → (replied q l answer).code ≡ 0
  unfolding replied performed
  number_long q answer h = (call_numbered (ask q answer) l).none_is_zero h

  -- a ROM of the machine's length is the firmware's
  by_rom : (q : List ℕ → Question) (lent : List ℕ) → rom_fits (record_of l.state) (length lent) ≡ true → (length lent ≡ length rom → lent ≡ rom) → (answer : List ℕ)
      → NoneHolds (question_causes (q lent) l answer) → (NoneHolds (question_causes (q rom) l answer) → Reply (q rom) (replied (q rom) l answer))
      → Reply (q lent) (replied (q lent) l answer)
  by_rom q lent fits its answer h f =
      let same = its (eqb-true (length lent) (specs_of (record_of l.state).machine).rom fits ∙ sym (rom_long_lem rom c l s)) in
      subst (λ (r : List ℕ). NoneHolds (question_causes (q r) l answer) → Reply (q r) (replied (q r) l answer)) (sym same) f h

  helped_same : (h : Helper) (n : ℕ) (answer : List ℕ) → length answer ≡ number_length → SameHelp (rust_helper h n) (helper_call (helped_by h n) answer)
  helped_same line_addr n answer e = line_addr_same n answer e
  helped_same line_of n answer e = line_rel_same n answer e
  helped_same column_of n answer e = col_rel_same n answer e
  helped_same attr_row_of n answer e = attr_row_same n answer e
  helped_same attr_column_of n answer e = attr_col_same n answer e
  helped_same colour_bits n answer e = from_bits_same n answer e

  -- ONE QUESTION, answered.
  reply_same : (q : Question) (out : List ℕ) → OwnRomAsked rom q → NoneHolds (question_causes q l out) → Reply q (replied q l out)
  unfolding replied rustCalls.performed
  reply_same paging_read answer its h =
      let x = read_7ffd_same bus l.ram l.a l.b l.border rom c here.machine here.related l.state answer ((told_ordered l.state (length answer)).none_accepts h) in
      record { next = x.given.controller; same = (x, ended _ x.given x.ends); leaves = told_call (done (c.current_port7ffd ∷ [])) x.given x.ends }
  reply_same interrupt_asked answer its h =
      let x = int_active_same bus l.ram l.a l.b l.border rom c here.machine here.related l.state answer ((told_ordered l.state (length answer)).none_accepts h) in
      record { next = x.given.controller; same = (x, ended _ x.given x.ends); leaves = told_call (done (flag_byte (rust.int_active c) ∷ [])) x.given x.ends }
  reply_same frames_asked answer its h =
      let x = frames_count_same bus l.ram l.a l.b l.border rom c here.machine here.related l.state answer ((told_ordered l.state (length answer)).none_accepts h) in
      record { next = x.given.controller; same = (x, ended _ x.given x.ends); leaves = told_call (done (c.passed_frames ∷ [])) x.given x.ends }
  reply_same (page_asked page) answer its h =
      let x = ram_page_told_same rom c l here page answer (number_long (page_asked page) answer h) in
      record { next = x.given.controller; same = (x, ended _ x.given x.ends); leaves = told_call (ram_page_data c.memory page) x.given x.ends }
  reply_same shown_asked answer its h =
      let x = shown_told_same rom c l here answer (number_long shown_asked answer h) in
      record { next = x.given.controller; same = (x, ended _ x.given x.ends); leaves = told_call (done c.screen.buffer) x.given x.ends }
  reply_same (byte_read lent addr) answer its h = by_rom (λ r. byte_read r addr) lent (each (rom_fits (record_of l.state) (length lent)) (_ ∷ _ ∷ []) (not-false _ h.1.1.0) 0) its answer h
      (λ h. let x = read_internal_same bus l.ram l.a l.b l.border rom c here.machine here.related l.state addr answer ((read_ordered l.state (length rom) (length l.ram) (length answer)).none_accepts h) in
      record { next = x.given.controller; same = (x, ended _ x.given x.ends); leaves = told_call (done (rust.read_internal addr c ∷ [])) x.given x.ends })
  reply_same (block_asked lent block) answer its h = by_rom (λ r. block_asked r block) lent (each (rom_fits (record_of l.state) (length lent)) (_ ∷ _ ∷ []) (not-false _ h.1.1.0) 0) its answer h
      (λ h. let x = block_told_same rom c l here block answer (number_long (block_asked rom block) answer h) in
      record { next = x.given.controller; same = (x, ended _ x.given x.ends); leaves = told_call (block_data c.memory block) x.given x.ends })
  reply_same (still_asked flash) picture its h =
      record { next = c; same = (ap (λ (x : Changed). x.slice) (still_of_lem l.state l.ram picture flash bus ((still_ordered l.state (length l.ram) (length picture) flash).none_accepts h)), refl); leaves = s }
  reply_same file_asked file its h =
      record { next = c; same = (save_scr_same bus l.ram l.a l.b l.border rom c here.machine here.related l.state file ((save_scr_ordered l.state (length l.ram) (length file)).none_accepts h), refl); leaves = s }
  reply_same (snapshot_asked registers) file its h =
      record { next = c; same = (ap (λ (x : Changed). x.slice) (export_is l.state l.ram file registers ((save_sna_numbered l.state l.ram file registers).none_is_zero h)), refl); leaves = s }
  reply_same (help helper n) answer its h = record { next = c; same = (helped_same helper n answer (eqb-true (length answer) number_length (not-false _ h.0)), refl); leaves = s }

  -- ---- ONE CALL, accepted, on the buffers that hold the Rust's machine.
  pub one_call : (k : Call) → NotStarted k 0 → Typed k → OwnRom rom k → NoneHolds (causes_of k l) → SameCall rom k c l (performed k l)
  unfolding performed
  one_call (start_again how) first typed its h = absurd (first refl)
  one_call (take_time t answer) first typed its h =
      let x = timed_same t answer typed h in
      record { next = x.given.controller; answer = (x, ended _ x.given x.ends); leaves = timed_call_lem _ _ _ x }
  one_call (write_byte addr value) first typed its h =
      let x = write_internal_same bus l.ram l.a l.b l.border rom c here.machine here.related l.state addr value ((write_ordered l.state (length l.ram)).none_accepts h) in
      record { next = x.given.controller; answer = ended _ x.given x.ends; leaves = ram_call _ x.given x.related }
  one_call (write_paging value answer) first typed its h =
      let x = write_7ffd_same bus l.ram l.a l.b l.border rom c here.machine here.related l.state value answer typed ((told_ordered l.state (length answer)).none_accepts h) in
      let move = x.2 in
      record {
        next = move.given.controller;
        answer = (x.1, ended _ move.given move.ends);
        leaves = record_call (with_paging (paging_after (paging.write7ffd m bus.paging value) bus.paging) bus) _ here.machine x.0 move.given move.sound move.related;
      }
  one_call reset_passed first typed its h =
      let x = reset_same bus l.ram l.a l.b l.border rom c here.machine here.related l.state ((state_ordered l.state).none_accepts h) in
      let move = x.1 in
      record {
        next = move.given.controller;
        answer = ended _ move.given move.ends;
        leaves = record_call (with_passed 0 bus) _ here.machine x.0 move.given move.sound move.related;
      }
  one_call (load_ram bytes page) first typed its h =
      let x = load_page_same bus l.ram l.a l.b l.border rom c here.machine here.related l.state bytes page
      ((load_ordered l.state (length l.ram) (length bytes) page).none_accepts h) in
      record { next = x.given.controller; answer = ended _ x.given x.ends; leaves = ram_call _ x.given x.related }
  one_call (load_screen file page) first typed its h =
      let x = load_scr_same bus l.ram l.a l.b l.border rom c here.machine here.related l.state file page
      ((load_scr_ordered l.state (length l.ram) (length file) page).none_accepts h) in
      record { next = x.given.controller; answer = ended _ x.given x.ends; leaves = ram_call _ x.given x.related }
  one_call (ask q out) first typed its h = let x = reply_same q out its h in record { next = x.next; answer = x.same; leaves = x.leaves }

-- ---- ANY CALLS, whatever each is lent, from the buffers of a sound machine that hold the Rust's.
module _ (rom : List ℕ) (m : ZXMachine) where
  pub all_same : (cs : List Made) (w : World) → SoundWorld m w → Sized m w → Obeyed cs (lent_by m w) → AllTyped cs → NoSecondStart cs → OneRom rom cs
      → (c : ZXController) → SameLent rom c (lent_by m w) → AllSame rom cs c (lent_by m w)
  all_same [] w sound sized obeyed typed first its c s = s
  all_same (k ∷ cs) w sound sized obeyed typed first its c s =
      let l = lent_by m w in
      let part = lent_of k.lending l in
      let code = ap (λ (r : Result). r.code) obeyed.0 in (
        subst (λ (r : Result). Numbered r.code (causes_of k.call part)) (sym obeyed.0) (call_numbered k.call part),
        λ z.
            let started = subst (NotStarted k.call) z first.0 in
            let same : left_on k l ≡ performed k.call l =
            ap (λ (r : Result). result r.code (handed_back k.lending l r.slices) r.filled) obeyed.0
            ∙ as_whole m w sound sized k.lending k.call started typed.0 (sym code ∙ z) in
            let none = (call_numbered k.call l).zero_by_none (ap (λ (r : Result). r.code) (sym same) ∙ z) in
            let a = acted m w sound sized k.call started typed.0 none in
            let x = one_call rom c l s k.call started typed.0 its.0 none in
            let w' = world_after m (ops_of m k.call w.core) w in
            let after : buffers_after k l ≡ lent_by m w' = ap (λ (r : Result). r.slices) same ∙ a.slices in (
              record {
                next = x.next;
                answer = subst (SameAnswer rom k.call c x.next l) (sym same) x.answer;
                leaves = subst (λ (r : Result). SameLent rom x.next r.slices) (sym same) x.leaves;
              },
              subst (AllSame rom cs x.next) (sym after)
                  (all_same cs w' a.kept.sound (sized_kept m w w' sized a.kept.lengths) (subst (Obeyed cs) after obeyed.1) typed.1 first.1 its.1 x.next
                  (subst (SameLent rom x.next) a.slices x.leaves)),
            ),
        λ z.
            let refused : (performed k.call part).code ≡ 0 → ⊥ = λ e. z (code ∙ e) in
            let after : buffers_after k l ≡ l = ap (λ (r : Result). handed_back k.lending l r.slices) obeyed.0 ∙ as_refused k.lending l k.call refused in (
              record {
                buffers = after;
                filled = ap (λ (r : Result). r.filled) (obeyed.0 ∙ call_refused part k.call refused) ∙ ap (refused_filled k.call) (sym code);
              },
              subst (AllSame rom cs c) (sym after) (all_same cs w sound sized (subst (Obeyed cs) after obeyed.1) typed.1 first.1 its.1 c s),
            ),
      )

-- A START OR AN IMPORT, AND THEN ANY CALLS: those of the Rust, from any controller that holds what it left.
pub from_held : (how : Start) (l : Lent) (rom : List ℕ) → Typed (start_again how) → (started_by how l).code ≡ 0 → (cs : List Made) → Obeyed cs (started_by how l).slices
    → AllTyped cs → NoSecondStart cs → OneRom rom cs → (c : ZXController) → SameLent rom c (started_by how l).slices → AllSame rom cs c (started_by how l).slices
from_held how l rom typed z cs obeyed all first its c s =
    let e = start_left how l z in
    subst (AllSame rom cs c) (sym e)
    (all_same rom (machine_of (asked_machine how)) cs (started_world how) (begun_sound how l typed z) (begun_sized how l z) (subst (Obeyed cs) e obeyed) all first its c
    (subst (SameLent rom c) e s))

-- and there is one
pub held_by_some_lem : (how : Start) (l : Lent) (rom : List ℕ) → Typed (start_again how) → length rom ≡ (specs_of (machine_of (asked_machine how))).rom → (started_by how l).code ≡ 0
    → (c : ZXController) × SameLent rom c (started_by how l).slices
held_by_some_lem how l rom typed long z =
    let m = machine_of (asked_machine how) in
    let w = started_world how in
    subst (λ (x : Lent). (c : ZXController) × SameLent rom c x) (sym (start_left how l z))
    (some_lent (bus_of m w) (lent_by m w) rom (held_encode (bus_of m w) (facts_sound (bus_of m w) (begun_sound how l typed z))) (begun_sized how l z).ram long)

-- EITHER START, AND THEN ANY CALLS: those of the Rust, once its new controller's beam has the start's colour.
pub from_any_start : (how : Start) → Clears how → (l : Lent) (rom : List ℕ) → Typed (start_again how) → length rom ≡ (specs_of (machine_of (asked_machine how))).rom
    → (started_by how l).code ≡ 0 → (s : SameBeam (asked_machine how) (first_colour how) rom (started_by how l)) × ((cs : List Made) → Obeyed cs (started_by how l).slices
    → AllTyped cs → NoSecondStart cs → OneRom rom cs → AllSame rom cs (with_rom rom (set_beam s.color (new s.machine))) (started_by how l).slices)
from_any_start how clears l rom typed long z =
    let s = beam_same how clears l rom long z in
    (s, λ cs obeyed all first its. from_held how l rom typed z cs obeyed all first its (with_rom rom (set_beam s.color (new s.machine))) s.leaves)

-- A START WITH COLOUR 7, AND THEN ANY CALLS: those of the Rust from its new controller on.
pub from_start : (l : Lent) (number : ℕ) (rom : List ℕ) → length rom ≡ (specs_of (machine_of number)).rom → (start_colour l number 7).code ≡ 0
    → (s : SameStart number rom (start_colour l number 7)) × ((cs : List Made) → Obeyed cs (start_colour l number 7).slices → AllTyped cs
    → NoSecondStart cs → OneRom rom cs → AllSame rom cs (with_rom rom (new s.machine)) (start_colour l number 7).slices)
from_start l number rom long z =
    let x = start_colour l number 7 in
    let same = start_same l number rom long z in
    let few = known (colour_start number 7) l z in (
      same,
      λ cs obeyed typed first its.
          from_held (colour_start number 7) l rom (omega arith, omega arith) z cs obeyed typed first its (with_rom rom (new same.machine)) same.leaves,
    )
