-- WHATEVER IS LENT: an accepted call does to the machine's buffers what it does when it is lent them whole, and answers the same; a refused one
-- leaves them as they were.
-- Assumes nothing.
use Prim.Native.Nat.{ℕ}
use mathlib.Core.Bool.{Bool, true, false, not, ◌&&◌}
use mathlib.Core.List.{List, []}
use mathlib.Core.Path.{◌≡◌, refl, sym, ◌∙◌, ap, subst}
use lib.Dec.{eqb}
use lib.ListN.{length}
use borrow.Author.Tests.{not-false, eqb-true}
use Rattle.laws.proofs.Cases.{and_left}
use Rattle.machine.specs.declared.ZXMachine.{ZXMachine}
use Rattle.record.specs.Record.{record_length, record_of}
use Rattle.bus.specs.World.{World, Sized}
use Rattle.bus.specs.Time.{world_after}
use Rattle.bus.proofs.Kept.{SoundWorld}
use Rattle.judgement.specs.Judges.{ram_fits}
use Rattle.contracts.specs.Timed.{Lent, lent_by}
use Rattle.contracts.specs.Plain.{Told, Changed, Repaged, write_internal, write7ffd_call, reset_frames, load_page, load_scr}
use Rattle.contracts.specs.Calls.{Call, start_again, take_time, write_byte, write_paging, reset_passed, load_ram, load_screen, ask, Result, result, with_ram, with_state, ops_of, replied, performed, Portions, lent_of, handed_back, NotStarted}
use Rattle.contracts.proofs.Ranges.{Typed}
use Rattle.contracts.proofs.Calls.{call_numbered, call_refused}
use Rattle.contracts.proofs.Lending.{untouched, ram_changed, state_changed, lent_whole, handed_whole}
use Rattle.contracts.proofs.Wholes.{timed_whole, reply_whole, state_whole, bus_is, ram_long_lem, ram_whole}
use Rattle.contracts.proofs.Acts.{Acted, acted}

module _ (m : ZXMachine) (w : World) (sound : SoundWorld m w) (sized : Sized m w) (n : Portions) where
  abbrev l : Lent
  l = lent_by m w

  abbrev part : Lent
  part = lent_of n l

  -- the buffers when a call's slices have come back
  abbrev pub back : Result → Result
  back r = result r.code (handed_back n l r.slices) r.filled

  -- what none of the causes leaves, of an accepted call on the whole buffers
  whole_acted : (k : Call) → NotStarted k 0 → Typed k → (performed k l).code ≡ 0 → Acted m w sound sized k
  whole_acted k first typed z = acted m w sound sized k first typed ((call_numbered k l).zero_by_none z)

  -- a call that changes RAM alone, and one that changes the record alone
  ram_back : (k : Call) (xs : List ℕ) → Acted m w sound sized k → (performed k l).slices ≡ with_ram l xs → length part.ram ≡ length l.ram
      → handed_back n l (with_ram part xs) ≡ with_ram l xs
  ram_back k xs a e long = ram_changed n l xs long (ap (λ (x : Lent). length x.ram) (sym e ∙ a.slices) ∙ a.kept.lengths.ram)

  -- A CALL THAT CHANGES RAM ALONE, by its definition d of record and RAM, which it was lent whole
  ram_as_whole : (k : Call) (d : List ℕ → List ℕ → Changed)
      → ((x : Lent) → performed k x ≡ result (d x.state x.ram).code (with_ram x (d x.state x.ram).slice) [])
      → NotStarted k 0 → Typed k → not (eqb (length part.state) record_length) ≡ false → ram_fits (record_of part.state) (length part.ram) ≡ true
      → (performed k part).code ≡ 0 → back (performed k part) ≡ performed k l
  ram_as_whole k d is first typed h fit z =
      let bus = bus_is m w sound sized n h in
      let same : d part.state part.ram ≡ d l.state l.ram =
      λ i. d (state_whole m w sound sized n h i) (ram_whole m w sound sized n (record_of part.state) bus fit i) in
      let c = d l.state l.ram in
      let code : (performed k l).code ≡ 0 =
      ap (λ (r : Result). r.code) (is l) ∙ ap (λ (x : Changed). x.code) (sym same) ∙ ap (λ (r : Result). r.code) (sym (is part)) ∙ z in
      let a = whole_acted k first typed code in
      ap back (is part)
      ∙ ap (λ (x : Changed). back (result x.code (with_ram part x.slice) [])) same
      ∙ ap (λ (x : Lent). result c.code x [])
      (ram_back k c.slice a (ap (λ (r : Result). r.slices) (is l)) (ram_long_lem m w sound sized n (record_of part.state) bus fit))
      ∙ sym (is l)

  -- RAM's length is the first of the lengths that such a call tests
  ram_first : (other : Bool) → not (ram_fits (record_of part.state) (length part.ram) && other) ≡ false
      → ram_fits (record_of part.state) (length part.ram) ≡ true
  ram_first other h = and_left (ram_fits (record_of part.state) (length part.ram)) other (not-false _ h)

  state_back : (k : Call) (xs : List ℕ) → Acted m w sound sized k → (performed k l).slices ≡ with_state l xs → length part.state ≡ length l.state
      → handed_back n l (with_state part xs) ≡ with_state l xs
  state_back k xs a e long = state_changed n l xs long (ap (λ (x : Lent). length x.state) (sym e ∙ a.slices))

  -- ACCEPTED.
  pub as_whole : (k : Call) → NotStarted k 0 → Typed k → (performed k part).code ≡ 0 → back (performed k part) ≡ performed k l
  unfolding performed
  as_whole (start_again how) first typed z = absurd (first refl)
  as_whole (take_time t answer) first typed z =
      let whole = timed_whole m w sound sized n t answer ((call_numbered (take_time t answer) part).zero_by_none z) in
      let same = lent_whole n l whole in
      let a = whole_acted (take_time t answer) first typed (subst (λ (x : Lent). (performed (take_time t answer) x).code ≡ 0) same z) in
      ap (λ (x : Lent). back (performed (take_time t answer) x)) same
      ∙ ap (λ (x : Lent). result (performed (take_time t answer) l).code x (performed (take_time t answer) l).filled)
      (ap (handed_back n l) a.slices ∙ handed_whole n m w (world_after m (ops_of m (take_time t answer) w.core) w) whole a.kept.lengths ∙ sym a.slices)
  as_whole (write_byte addr value) first typed z =
      let h = (call_numbered (write_byte addr value) part).zero_by_none z in
      ram_as_whole (write_byte addr value) (λ state ram. write_internal state ram addr value) (λ x. refl) first typed h.0 (not-false _ h.1.1.0) z
  as_whole (write_paging value answer) first typed z =
      let h = (call_numbered (write_paging value answer) part).zero_by_none z in
      let same : write7ffd_call part.state value answer ≡ write7ffd_call l.state value answer =
      λ i. write7ffd_call (state_whole m w sound sized n h.0 i) value answer in
      let c = write7ffd_call l.state value answer in
      let a = whole_acted (write_paging value answer) first typed (ap (λ (x : Repaged). x.code) (sym same) ∙ z) in
      ap (λ (x : Repaged). back (result x.code (with_state part x.state) x.answer)) same
      ∙ ap (λ (x : Lent). result c.code x c.answer)
      (state_back (write_paging value answer) c.state a refl (eqb-true (length part.state) record_length (not-false _ h.0)))
  as_whole reset_passed first typed z =
      let h = (call_numbered reset_passed part).zero_by_none z in
      let same : reset_frames part.state ≡ reset_frames l.state = λ i. reset_frames (state_whole m w sound sized n h.0 i) in
      let c = reset_frames l.state in
      let a = whole_acted reset_passed first typed (ap (λ (x : Changed). x.code) (sym same) ∙ z) in
      ap (λ (x : Changed). back (result x.code (with_state part x.slice) [])) same
      ∙ ap (λ (x : Lent). result c.code x []) (state_back reset_passed c.slice a refl (eqb-true (length part.state) record_length (not-false _ h.0)))
  as_whole (load_ram bytes page) first typed z =
      let h = (call_numbered (load_ram bytes page) part).zero_by_none z in
      ram_as_whole (load_ram bytes page) (λ state ram. load_page state ram bytes page) (λ x. refl) first typed h.0 (ram_first _ h.1.1.0) z
  as_whole (load_screen file page) first typed z =
      let h = (call_numbered (load_screen file page) part).zero_by_none z in
      ram_as_whole (load_screen file page) (λ state ram. load_scr state ram file page) (λ x. refl) first typed h.0 (ram_first _ h.1.1.0) z
  as_whole (ask q out) first typed z =
      let same = reply_whole m w sound sized n q out ((call_numbered (ask q out) part).zero_by_none z) in
      ap (λ (x : Told). back (result x.code part x.answer)) same
      ∙ ap (λ (x : Lent). result (replied q l out).code x (replied q l out).answer) (untouched n l)

-- REFUSED, on any buffers, sound or not: they are as they were.
pub as_refused : (n : Portions) (l : Lent) (k : Call) → ((performed k (lent_of n l)).code ≡ 0 → ⊥) → handed_back n l (performed k (lent_of n l)).slices ≡ l
as_refused n l k z = ap (λ (r : Result). handed_back n l r.slices) (call_refused (lent_of n l) k z) ∙ untouched n l
