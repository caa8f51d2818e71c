-- "Bad input gets the first, in the stated order, of the numbered refusals whose condition holds; good input gets none": proved once over any
-- list of causes, and then of every judgement, with all its causes in one list.
-- Assumes nothing.
use Prim.Native.Nat.{ℕ}
use mathlib.Core.Path.{◌≡◌, refl, sym, ap, subst, ◌∙◌}
use mathlib.Core.Bool.{Bool, true, false, cond, not}
use mathlib.Core.List.{List, [], ◌∷◌, ◌++◌}
use lib.Dec.{eqb}
use lib.ListN.{length}
use Rattle.std.specs.Prelude.{Result, Ok, Err}
use Rattle.record.specs.declared.Bus.{Bus}
use Rattle.record.specs.declared.BadRecord.TheVariants as bad
use Rattle.record.specs.Record.{record_length, record_of, sound_bytes, held_by, machine_of, start_record}
use Rattle.snapshot.specs.Kept.{snapshot_record}
use Rattle.judgement.specs.declared.Refusal.{Refusal}
use Rattle.judgement.specs.Refusals.{Cause, judged, judged_held, judge}
use Rattle.judgement.specs.Judges.{above, start_causes, start_colour_causes, judge_start, wait_causes, judge_wait, port_causes, judge_port, no_causes, judge_state, told_causes, judge_told, read_causes, judge_read, write_causes, judge_write, load_causes, judge_load, ram_page_causes, judge_ram_page, block_causes, judge_block, shown_causes, judge_shown, still_causes, save_scr_causes, load_scr_causes, judge_still, judge_save_scr, judge_load_scr, load_sna_causes, judge_load_sna, save_sna_causes, judge_save_sna}
use Rattle.judgement.specs.Order.{NoneHolds, FirstHolds, all_causes, document_order, numbers_of, stand_in, Ordered}

-- ---- any list of causes
here : (c : Cause) (cs : List Cause) → c.holds ≡ true → FirstHolds (c ∷ cs) c.refusal
here c cs h = record { before = []; this = c; after = cs; split = refl; none_before = tt; holds = h; refusal = refl }

later : (c : Cause) (cs : List Cause) (e : Refusal) → c.holds ≡ false → FirstHolds cs e → FirstHolds (c ∷ cs) e
later c cs e n f =
    record {
      before = c ∷ f.before;
      this = f.this;
      after = f.after;
      split = ap (λ (l : List Cause). c ∷ l) f.split;
      none_before = (n, f.none_before);
      holds = f.holds;
      refusal = f.refusal;
    }

first_of : (c : Cause) (cs : List Cause) (v : Result Bus Refusal) (e : Refusal) → (v ≡ Err e → FirstHolds cs e) → (t : Bool) → c.holds ≡ t
    → cond t (Err c.refusal) v ≡ Err e → FirstHolds (c ∷ cs) e
first_of c cs v e f true h q = let same : c.refusal ≡ e = cc in subst (λ (x : Refusal). FirstHolds (c ∷ cs) x) same (here c cs h)
first_of c cs v e f false h q = later c cs e h (f q)

-- a refusal is that of the first cause that holds
pub refused_by_first_lem : (causes : List Cause) (bus : Bus) (e : Refusal) → judged causes bus ≡ Err e → FirstHolds causes e
unfolding judged
refused_by_first_lem [] bus e p = cc
refused_by_first_lem (c ∷ cs) bus e p = first_of c cs (judged cs bus) e (λ q. refused_by_first_lem cs bus e q) c.holds refl p

-- causes that do not hold are passed over
passed_over : (before cs : List Cause) (bus : Bus) → NoneHolds before → judged (before ++ cs) bus ≡ judged cs bus
unfolding judged
passed_over [] cs bus n = refl
passed_over (c ∷ before) cs bus n = rw n.0 (passed_over before cs bus n.1)

-- the first cause that holds refuses
pub first_refuses_lem : (causes : List Cause) (bus : Bus) (e : Refusal) → FirstHolds causes e → judged causes bus ≡ Err e
unfolding judged
first_refuses_lem causes bus e f =
    ap (λ (cs : List Cause). judged cs bus) f.split
    ∙ passed_over f.before (f.this ∷ f.after) bus f.none_before
    ∙ rw f.holds (ap Err f.refusal)

none_of : (c : Cause) (cs : List Cause) (v : Result Bus Refusal) (bus b : Bus) → (v ≡ Ok b → NoneHolds cs × (b ≡ bus)) → (t : Bool) → c.holds ≡ t
    → cond t (Err c.refusal) v ≡ Ok b → NoneHolds (c ∷ cs) × (b ≡ bus)
none_of c cs v bus b f true h q = cc
none_of c cs v bus b f false h q = let r = f q in ((h, r.0), r.1)

-- an accepted call has no cause that holds
pub accepted_by_none_lem : (causes : List Cause) (bus b : Bus) → judged causes bus ≡ Ok b → NoneHolds causes × (b ≡ bus)
unfolding judged
accepted_by_none_lem [] bus b p = (tt, cc)
accepted_by_none_lem (c ∷ cs) bus b p = none_of c cs (judged cs bus) bus b (λ q. accepted_by_none_lem cs bus b q) c.holds refl p

-- where no cause holds the call is accepted
pub none_accepts_lem : (causes : List Cause) (bus : Bus) → NoneHolds causes → judged causes bus ≡ Ok bus
unfolding judged
none_accepts_lem [] bus n = refl
none_accepts_lem (c ∷ cs) bus n = rw n.0 (none_accepts_lem cs bus n.1)

-- ---- a whole judgement
held_in_order : (l t : Bool) (bus : Bus) (causes : Bus → List Cause)
    → judged_held (cond l (cond t (Ok bus) (Err bad.Unsound)) (Err bad.WrongLength)) causes
    ≡ cond (not l) (judged_held (Err bad.WrongLength) causes) (cond (not t) (judged_held (Err bad.Unsound) causes) (judged (causes bus) bus))
held_in_order true true bus causes = refl
held_in_order true false bus causes = refl
held_in_order false t bus causes = refl

-- the record's length and soundness, and then the call's own causes, are one list: a judgement is judged by it
pub in_order : (state : List ℕ) (causes : Bus → List Cause) → judge state causes ≡ judged (all_causes state causes) (record_of state)
unfolding held_by judged
in_order state causes = held_in_order (eqb (length state) record_length) (sound_bytes state) (record_of state) causes

-- a verdict by a list that stands in document 01's order
pub by_list : (v : Result Bus Refusal) (causes : List Cause) (bus : Bus) → v ≡ judged causes bus → stand_in (numbers_of causes) document_order ≡ true → Ordered v causes bus
by_list v causes bus p s =
    record {
      stand = s;
      refused_by_first = λ e q. refused_by_first_lem causes bus e (sym p ∙ q);
      first_refuses = λ e f. p ∙ first_refuses_lem causes bus e f;
      accepted_by_none = λ b q. accepted_by_none_lem causes bus b (sym p ∙ q);
      none_accepts = λ n. p ∙ none_accepts_lem causes bus n;
    }

-- a judgement is judged by all its causes
judge_ordered : (state : List ℕ) (causes : Bus → List Cause) → stand_in (numbers_of (all_causes state causes)) document_order ≡ true
    → Ordered (judge state causes) (all_causes state causes) (record_of state)
judge_ordered state causes s = by_list (judge state causes) (all_causes state causes) (record_of state) (in_order state causes) s

-- ---- every judgement is judged by its causes, which stand in document 01's order
-- a start judges no record, so that its own causes are all
module _ (state ram a b border machine : ℕ) where
  pub start_colour_ordered : (colour : ℕ)
      → Ordered (judge_start state ram a b border machine colour) (start_colour_causes state ram a b border machine colour) (start_record (machine_of machine) colour)
  unfolding judge_start stand_in
  start_colour_ordered colour =
      by_list (judge_start state ram a b border machine colour) (start_colour_causes state ram a b border machine colour) (start_record (machine_of machine) colour) refl refl

  -- a start whose colour is always one of the eight has only the others
  pub start_ordered : (colour : ℕ) → (above 7 colour).holds ≡ false
      → Ordered (judge_start state ram a b border machine colour) (start_causes state ram a b border machine) (start_record (machine_of machine) colour)
  unfolding judge_start judged stand_in
  start_ordered colour h =
      by_list (judge_start state ram a b border machine colour) (start_causes state ram a b border machine) (start_record (machine_of machine) colour) (rw h) refl

-- nor does an import
pub load_sna_ordered : (state ram registers a b border machine : ℕ) (file : List ℕ)
    → Ordered (judge_load_sna state ram registers a b border machine file) (load_sna_causes state ram registers a b border machine file) (snapshot_record (machine_of machine) file)
unfolding judge_load_sna stand_in
load_sna_ordered state ram registers a b border machine file =
    by_list (judge_load_sna state ram registers a b border machine file) (load_sna_causes state ram registers a b border machine file) (snapshot_record (machine_of machine) file) refl refl

module _ (state : List ℕ) where
  pub wait_ordered : (ram a b border clocks answer : ℕ) → Ordered (judge_wait state ram a b border clocks answer) (all_causes state (wait_causes ram a b border clocks answer)) (record_of state)
  unfolding judge_wait stand_in
  wait_ordered ram a b border clocks answer = judge_ordered state (wait_causes ram a b border clocks answer) refl

  pub port_ordered : (devices : List ℕ) (ram a b border answer : ℕ) → Ordered (judge_port state devices ram a b border answer) (all_causes state (port_causes devices ram a b border answer)) (record_of state)
  unfolding judge_port stand_in
  port_ordered devices ram a b border answer = judge_ordered state (port_causes devices ram a b border answer) refl

  pub state_ordered : Ordered (judge_state state) (all_causes state no_causes) (record_of state)
  unfolding judge_state stand_in
  state_ordered = judge_ordered state no_causes refl

  pub told_ordered : (answer : ℕ) → Ordered (judge_told state answer) (all_causes state (told_causes answer)) (record_of state)
  unfolding judge_told stand_in
  told_ordered answer = judge_ordered state (told_causes answer) refl

  pub read_ordered : (rom ram answer : ℕ) → Ordered (judge_read state rom ram answer) (all_causes state (read_causes rom ram answer)) (record_of state)
  unfolding judge_read stand_in
  read_ordered rom ram answer = judge_ordered state (read_causes rom ram answer) refl

  pub write_ordered : (ram : ℕ) → Ordered (judge_write state ram) (all_causes state (write_causes ram)) (record_of state)
  unfolding judge_write stand_in
  write_ordered ram = judge_ordered state (write_causes ram) refl

  pub load_ordered : (ram bytes page : ℕ) → Ordered (judge_load state ram bytes page) (all_causes state (load_causes ram bytes page)) (record_of state)
  unfolding judge_load stand_in
  load_ordered ram bytes page = judge_ordered state (load_causes ram bytes page) refl

  pub ram_page_ordered : (ram page : ℕ) (fits : Bool) → Ordered (judge_ram_page state ram page fits) (all_causes state (ram_page_causes ram page fits)) (record_of state)
  unfolding judge_ram_page stand_in
  ram_page_ordered ram page fits = judge_ordered state (ram_page_causes ram page fits) refl

  pub block_ordered : (rom ram block : ℕ) (fits : Bool) → Ordered (judge_block state rom ram block fits) (all_causes state (block_causes rom ram block fits)) (record_of state)
  unfolding judge_block stand_in
  block_ordered rom ram block fits = judge_ordered state (block_causes rom ram block fits) refl

  pub shown_ordered : (a b : ℕ) (fits : Bool) → Ordered (judge_shown state a b fits) (all_causes state (shown_causes a b fits)) (record_of state)
  unfolding judge_shown stand_in
  shown_ordered a b fits = judge_ordered state (shown_causes a b fits) refl

  pub still_ordered : (ram picture flash : ℕ) → Ordered (judge_still state ram picture flash) (all_causes state (still_causes ram picture flash)) (record_of state)
  unfolding judge_still stand_in
  still_ordered ram picture flash = judge_ordered state (still_causes ram picture flash) refl

  pub save_scr_ordered : (ram file : ℕ) → Ordered (judge_save_scr state ram file) (all_causes state (save_scr_causes ram file)) (record_of state)
  unfolding judge_save_scr stand_in
  save_scr_ordered ram file = judge_ordered state (save_scr_causes ram file) refl

  pub load_scr_ordered : (ram file page : ℕ) → Ordered (judge_load_scr state ram file page) (all_causes state (load_scr_causes ram file page)) (record_of state)
  unfolding judge_load_scr stand_in
  load_scr_ordered ram file page = judge_ordered state (load_scr_causes ram file page) refl

  pub save_sna_ordered : (ram file registers : ℕ) → Ordered (judge_save_sna state ram file registers) (all_causes state (save_sna_causes ram file registers)) (record_of state)
  unfolding judge_save_sna stand_in
  save_sna_ordered ram file registers = judge_ordered state (save_sna_causes ram file registers) refl
