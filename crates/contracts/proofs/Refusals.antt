-- REFUSALS: of every call of the C surface, that the number it returns is the first, in document 01's order, whose condition holds, and 0
-- exactly when none holds (`-numbered`); and that where it is not 0 nothing is altered: the slices are as they were, and the answer has the
-- number and then zeros, or is untouched if its length is wrong (`-unaltered`).
-- Assumes nothing.
use Prim.Native.Nat.{ℕ}
use mathlib.Core.Path.{◌≡◌, refl, sym, ap, ◌∙◌}
use mathlib.Core.Bool.{Bool, true, false, cond, not}
use mathlib.Core.List.{List, [], ◌∷◌}
use native.Mathlib.Omega.{arith}
use lib.Dec.{leb}
use lib.ListN.{length, get_or}
use Rattle.std.specs.Prelude.{Result, Ok, Err}
use Rattle.machine.specs.declared.ZXMachine.{ZXMachine}
use Rattle.machine.specs.declared.ZXMachine.TheVariants.{Sinclair48K}
use Rattle.record.specs.declared.Bus.{Bus}
use Rattle.record.specs.Record.{machine_of, start_record}
use Rattle.bus.specs.World.{Core, started}
use Rattle.bus.specs.Turns.{Part}
use Rattle.std.specs.Prelude.{Option, Some, None}
use Rattle.screen.specs.declared.ZXColor.{ZXColor}
use Rattle.screen.specs.Address.{is_attribute}
use Rattle.screen.specs.Colour.{colour_of, colour_number}
use Rattle.judgement.specs.declared.Refusal.{Refusal}
use Rattle.judgement.specs.declared.Refusal.TheVariants.{BadMachine, BadLength, Unsound, BadFlag, LongWait, FramesFull, BadPage, NoVideoPage, BadNumber, WrongSize, UnequalCopies}
use Rattle.judgement.specs.Refusals.{refusal_number, Cause, cause, judged}
use Rattle.judgement.specs.Judges.{number_fits, unless, no_causes, wait_causes, port_causes, told_causes, read_causes, write_causes, load_causes, ram_page_causes, block_causes, shown_causes, still_causes, save_scr_causes, load_scr_causes, save_sna_causes, judge_state, judge_told, judge_read, judge_write, judge_load, judge_ram_page, judge_block, judge_shown, judge_still, judge_save_scr, judge_load_scr, judge_save_sna}
use Rattle.judgement.specs.Answers.{refused_answer, timed_length, number_length}
use Rattle.judgement.specs.Order.{Ordered, Numbered, document_order, numbers_of, stand_in, all_causes}
use Rattle.judgement.proofs.Order.{by_list, start_ordered, start_colour_ordered, state_ordered, wait_ordered, port_ordered, told_ordered, read_ordered, write_ordered, load_ordered, ram_page_ordered, block_ordered, shown_ordered, still_ordered, save_scr_ordered, load_scr_ordered, load_sna_ordered, save_sna_ordered}
use Rattle.contracts.specs.Timed.{Lent, Outcome, timed_call, judge_wait_of, judge_port_of, wait_internal, wait_at, read_io, write_io, lent_by, begun, judge_start_of, black, start, start_colour}
use Rattle.contracts.specs.Plain.{code_of, Told, told, tell, Changed, change, Repaged, repage, read_internal, write_internal, write7ffd_call, read7ffd, int_active, frames_count, reset_frames, load_page, save_scr, load_scr, still_picture, ram_page_told, block_told, shown_told}
use Rattle.contracts.specs.Snapshots.{judge_load_sna_of, imported_world, load_sna, save_sna}
use Rattle.contracts.specs.Calls.{plain_start, colour_start, snapshot_start, start_causes_of, helper_causes}
use Rattle.contracts.specs.Helpers.{help, helper_call, colour_helped, bitmap_line_addr, bitmap_line_rel, bitmap_col_rel, attr_row_rel, attr_col_rel, color_from_bits}

-- ---- numbers: a refusal is known by its number, which is not 0
refusal_of : ℕ → Refusal
refusal_of n = get_or (Unsound ∷ BadMachine ∷ BadLength ∷ Unsound ∷ BadFlag ∷ LongWait ∷ FramesFull ∷ BadPage ∷ BadNumber ∷ NoVideoPage ∷ WrongSize ∷ UnequalCopies ∷ []) n Unsound

known : (e : Refusal) → refusal_of (refusal_number e) ≡ e
unfolding refusal_of
known BadMachine = refl
known BadLength = refl
known Unsound = refl
known BadFlag = refl
known LongWait = refl
known FramesFull = refl
known BadPage = refl
known NoVideoPage = refl
known BadNumber = refl
known WrongSize = refl
known UnequalCopies = refl

same_refusal : (e f : Refusal) → refusal_number e ≡ refusal_number f → e ≡ f
same_refusal e f p = sym (known e) ∙ ap refusal_of p ∙ known f

-- the refusals have the numbers 1 to 11
pub not_zero : (e : Refusal) → refusal_number e ≡ 0 → ⊥
not_zero BadMachine p = omega arith
not_zero BadLength p = omega arith
not_zero Unsound p = omega arith
not_zero BadFlag p = omega arith
not_zero LongWait p = omega arith
not_zero FramesFull p = omega arith
not_zero BadPage p = omega arith
not_zero NoVideoPage p = omega arith
not_zero BadNumber p = omega arith
not_zero WrongSize p = omega arith
not_zero UnequalCopies p = omega arith

zero_accepts : (v : Result Bus Refusal) → code_of v ≡ 0 → (bus : Bus) × (v ≡ Ok bus)
zero_accepts (Err e) p = absurd (not_zero e p)
zero_accepts (Ok bus) p = (bus, refl)

number_refuses : (v : Result Bus Refusal) (e : Refusal) → code_of v ≡ refusal_number e → v ≡ Err e
number_refuses (Err f) e p = ap Err (same_refusal f e p)
number_refuses (Ok bus) e p = absurd (not_zero e (sym p))

-- the number of an ordered verdict
numbered : (v : Result Bus Refusal) (causes : List Cause) (bus : Bus) (code : ℕ) → code ≡ code_of v → Ordered v causes bus → Numbered code causes
numbered v causes bus code c o =
    record {
      stand = o.stand;
      zero_by_none = λ p. let a = zero_accepts v (sym c ∙ p) in (o.accepted_by_none a.0 a.1).0;
      none_is_zero = λ n. c ∙ ap code_of (o.none_accepts n);
      number_by_first = λ e p. o.refused_by_first e (number_refuses v e (sym c ∙ p));
      first_is_number = λ e f. c ∙ ap code_of (o.first_refuses e f);
    }

-- ---- each form of a call, by its verdict
module _ (part : ZXMachine → Part) (value : ZXMachine → Core → ℕ) (l : Lent) (answer : List ℕ) where
  timed_code : (v : Result Bus Refusal) (o : Outcome) → o ≡ timed_call part value l answer v → o.code ≡ code_of v
  unfolding timed_call
  timed_code (Err e) o p = ap (λ (x : Outcome). x.code) p
  timed_code (Ok bus) o p = ap (λ (x : Outcome). x.code) p

  timed_kept : (v : Result Bus Refusal) (o : Outcome) → o ≡ timed_call part value l answer v → (o.code ≡ 0 → ⊥)
      → (o.slices ≡ l) × (o.answer ≡ refused_answer timed_length o.code answer)
  unfolding timed_call
  timed_kept (Err e) o p n = rw p (refl, refl)
  timed_kept (Ok bus) o p n = absurd (n (ap (λ (x : Outcome). x.code) p))

module _ (number : Bus → ℕ) (answer : List ℕ) where
  told_code : (v : Result Bus Refusal) (o : Told) → o ≡ tell number answer v → o.code ≡ code_of v
  told_code (Err e) o p = ap (λ (x : Told). x.code) p
  told_code (Ok bus) o p = ap (λ (x : Told). x.code) p

  told_kept : (v : Result Bus Refusal) (o : Told) → o ≡ tell number answer v → (o.code ≡ 0 → ⊥) → o.answer ≡ refused_answer number_length o.code answer
  told_kept (Err e) o p n = rw p
  told_kept (Ok bus) o p n = absurd (n (ap (λ (x : Told). x.code) p))

module _ (new : Bus → List ℕ) (old : List ℕ) where
  changed_code : (v : Result Bus Refusal) (o : Changed) → o ≡ change new old v → o.code ≡ code_of v
  changed_code (Err e) o p = ap (λ (x : Changed). x.code) p
  changed_code (Ok bus) o p = ap (λ (x : Changed). x.code) p

  changed_kept : (v : Result Bus Refusal) (o : Changed) → o ≡ change new old v → (o.code ≡ 0 → ⊥) → o.slice ≡ old
  changed_kept (Err e) o p n = rw p
  changed_kept (Ok bus) o p n = absurd (n (ap (λ (x : Changed). x.code) p))

module _ (value : ℕ) (state answer : List ℕ) where
  repaged_code : (v : Result Bus Refusal) (o : Repaged) → o ≡ repage value state answer v → o.code ≡ code_of v
  repaged_code (Err e) o p = ap (λ (x : Repaged). x.code) p
  repaged_code (Ok bus) o p = ap (λ (x : Repaged). x.code) p

  repaged_kept : (v : Result Bus Refusal) (o : Repaged) → o ≡ repage value state answer v → (o.code ≡ 0 → ⊥)
      → (o.state ≡ state) × (o.answer ≡ refused_answer number_length o.code answer)
  repaged_kept (Err e) o p n = rw p (refl, refl)
  repaged_kept (Ok bus) o p n = absurd (n (ap (λ (x : Repaged). x.code) p))

-- ---- every call
pub wait_internal_numbered : (l : Lent) (clocks : ℕ) (answer : List ℕ) → Numbered (wait_internal l clocks answer).code (all_causes l.state (wait_causes (length l.ram) (length l.a) (length l.b) (length l.border) clocks (length answer)))
unfolding wait_internal
wait_internal_numbered l clocks answer = numbered (judge_wait_of l clocks answer) _ _ _ (timed_code _ _ _ _ (judge_wait_of l clocks answer) (wait_internal l clocks answer) refl) (wait_ordered l.state (length l.ram) (length l.a) (length l.b) (length l.border) clocks (length answer))

pub wait_internal_unaltered : (l : Lent) (clocks : ℕ) (answer : List ℕ) → ((wait_internal l clocks answer).code ≡ 0 → ⊥) → ((wait_internal l clocks answer).slices ≡ l) × ((wait_internal l clocks answer).answer ≡ refused_answer timed_length (wait_internal l clocks answer).code answer)
unfolding wait_internal
wait_internal_unaltered l clocks answer n = timed_kept _ _ _ _ (judge_wait_of l clocks answer) (wait_internal l clocks answer) refl n

pub wait_at_numbered : (l : Lent) (addr clocks : ℕ) (answer : List ℕ) → Numbered (wait_at l addr clocks answer).code (all_causes l.state (wait_causes (length l.ram) (length l.a) (length l.b) (length l.border) clocks (length answer)))
unfolding wait_at
wait_at_numbered l addr clocks answer = numbered (judge_wait_of l clocks answer) _ _ _ (timed_code _ _ _ _ (judge_wait_of l clocks answer) (wait_at l addr clocks answer) refl) (wait_ordered l.state (length l.ram) (length l.a) (length l.b) (length l.border) clocks (length answer))

pub wait_at_unaltered : (l : Lent) (addr clocks : ℕ) (answer : List ℕ) → ((wait_at l addr clocks answer).code ≡ 0 → ⊥) → ((wait_at l addr clocks answer).slices ≡ l) × ((wait_at l addr clocks answer).answer ≡ refused_answer timed_length (wait_at l addr clocks answer).code answer)
unfolding wait_at
wait_at_unaltered l addr clocks answer n = timed_kept _ _ _ _ (judge_wait_of l clocks answer) (wait_at l addr clocks answer) refl n

pub read_io_numbered : (l : Lent) (devices : List ℕ) (port : ℕ) (answer : List ℕ) → Numbered (read_io l devices port answer).code (all_causes l.state (port_causes devices (length l.ram) (length l.a) (length l.b) (length l.border) (length answer)))
unfolding read_io
read_io_numbered l devices port answer = numbered (judge_port_of l devices answer) _ _ _ (timed_code _ _ _ _ (judge_port_of l devices answer) (read_io l devices port answer) refl) (port_ordered l.state devices (length l.ram) (length l.a) (length l.b) (length l.border) (length answer))

pub read_io_unaltered : (l : Lent) (devices : List ℕ) (port : ℕ) (answer : List ℕ) → ((read_io l devices port answer).code ≡ 0 → ⊥) → ((read_io l devices port answer).slices ≡ l) × ((read_io l devices port answer).answer ≡ refused_answer timed_length (read_io l devices port answer).code answer)
unfolding read_io
read_io_unaltered l devices port answer n = timed_kept _ _ _ _ (judge_port_of l devices answer) (read_io l devices port answer) refl n

pub write_io_numbered : (l : Lent) (devices : List ℕ) (port value : ℕ) (answer : List ℕ) → Numbered (write_io l devices port value answer).code (all_causes l.state (port_causes devices (length l.ram) (length l.a) (length l.b) (length l.border) (length answer)))
unfolding write_io
write_io_numbered l devices port value answer = numbered (judge_port_of l devices answer) _ _ _ (timed_code _ _ _ _ (judge_port_of l devices answer) (write_io l devices port value answer) refl) (port_ordered l.state devices (length l.ram) (length l.a) (length l.b) (length l.border) (length answer))

pub write_io_unaltered : (l : Lent) (devices : List ℕ) (port value : ℕ) (answer : List ℕ) → ((write_io l devices port value answer).code ≡ 0 → ⊥) → ((write_io l devices port value answer).slices ≡ l) × ((write_io l devices port value answer).answer ≡ refused_answer timed_length (write_io l devices port value answer).code answer)
unfolding write_io
write_io_unaltered l devices port value answer n = timed_kept _ _ _ _ (judge_port_of l devices answer) (write_io l devices port value answer) refl n

pub read_internal_numbered : (state rom ram : List ℕ) (addr : ℕ) (answer : List ℕ) → Numbered (read_internal state rom ram addr answer).code (all_causes state (read_causes (length rom) (length ram) (length answer)))
unfolding read_internal
read_internal_numbered state rom ram addr answer = numbered (judge_read state (length rom) (length ram) (length answer)) _ _ _ (told_code _ _ (judge_read state (length rom) (length ram) (length answer)) (read_internal state rom ram addr answer) refl) (read_ordered state (length rom) (length ram) (length answer))

pub read_internal_unaltered : (state rom ram : List ℕ) (addr : ℕ) (answer : List ℕ) → ((read_internal state rom ram addr answer).code ≡ 0 → ⊥) → (read_internal state rom ram addr answer).answer ≡ refused_answer number_length (read_internal state rom ram addr answer).code answer
unfolding read_internal
read_internal_unaltered state rom ram addr answer n = told_kept _ _ (judge_read state (length rom) (length ram) (length answer)) (read_internal state rom ram addr answer) refl n

pub write_internal_numbered : (state ram : List ℕ) (addr value : ℕ) → Numbered (write_internal state ram addr value).code (all_causes state (write_causes (length ram)))
unfolding write_internal
write_internal_numbered state ram addr value = numbered (judge_write state (length ram)) _ _ _ (changed_code _ _ (judge_write state (length ram)) (write_internal state ram addr value) refl) (write_ordered state (length ram))

pub write_internal_unaltered : (state ram : List ℕ) (addr value : ℕ) → ((write_internal state ram addr value).code ≡ 0 → ⊥) → (write_internal state ram addr value).slice ≡ ram
unfolding write_internal
write_internal_unaltered state ram addr value n = changed_kept _ _ (judge_write state (length ram)) (write_internal state ram addr value) refl n

pub load_page_numbered : (state ram bytes : List ℕ) (page : ℕ) → Numbered (load_page state ram bytes page).code (all_causes state (load_causes (length ram) (length bytes) page))
unfolding load_page
load_page_numbered state ram bytes page = numbered (judge_load state (length ram) (length bytes) page) _ _ _ (changed_code _ _ (judge_load state (length ram) (length bytes) page) (load_page state ram bytes page) refl) (load_ordered state (length ram) (length bytes) page)

pub load_page_unaltered : (state ram bytes : List ℕ) (page : ℕ) → ((load_page state ram bytes page).code ≡ 0 → ⊥) → (load_page state ram bytes page).slice ≡ ram
unfolding load_page
load_page_unaltered state ram bytes page n = changed_kept _ _ (judge_load state (length ram) (length bytes) page) (load_page state ram bytes page) refl n

pub load_scr_numbered : (state ram file : List ℕ) (page : ℕ) → Numbered (load_scr state ram file page).code (all_causes state (load_scr_causes (length ram) (length file) page))
unfolding load_scr
load_scr_numbered state ram file page = numbered (judge_load_scr state (length ram) (length file) page) _ _ _ (changed_code _ _ (judge_load_scr state (length ram) (length file) page) (load_scr state ram file page) refl) (load_scr_ordered state (length ram) (length file) page)

pub load_scr_unaltered : (state ram file : List ℕ) (page : ℕ) → ((load_scr state ram file page).code ≡ 0 → ⊥) → (load_scr state ram file page).slice ≡ ram
unfolding load_scr
load_scr_unaltered state ram file page n = changed_kept _ _ (judge_load_scr state (length ram) (length file) page) (load_scr state ram file page) refl n

pub save_scr_numbered : (state ram file : List ℕ) → Numbered (save_scr state ram file).code (all_causes state (save_scr_causes (length ram) (length file)))
unfolding save_scr
save_scr_numbered state ram file = numbered (judge_save_scr state (length ram) (length file)) _ _ _ (changed_code _ _ (judge_save_scr state (length ram) (length file)) (save_scr state ram file) refl) (save_scr_ordered state (length ram) (length file))

pub save_scr_unaltered : (state ram file : List ℕ) → ((save_scr state ram file).code ≡ 0 → ⊥) → (save_scr state ram file).slice ≡ file
unfolding save_scr
save_scr_unaltered state ram file n = changed_kept _ _ (judge_save_scr state (length ram) (length file)) (save_scr state ram file) refl n

pub save_sna_code : (state ram file registers : List ℕ) → (save_sna state ram file registers).code ≡ code_of (judge_save_sna state (length ram) (length file) (length registers))
unfolding save_sna
save_sna_code state ram file registers = changed_code _ _ (judge_save_sna state (length ram) (length file) (length registers)) (save_sna state ram file registers) refl

pub save_sna_numbered : (state ram file registers : List ℕ) → Numbered (save_sna state ram file registers).code (all_causes state (save_sna_causes (length ram) (length file) (length registers)))
unfolding save_sna
save_sna_numbered state ram file registers = numbered (judge_save_sna state (length ram) (length file) (length registers)) _ _ _ (save_sna_code state ram file registers) (save_sna_ordered state (length ram) (length file) (length registers))

pub save_sna_unaltered : (state ram file registers : List ℕ) → ((save_sna state ram file registers).code ≡ 0 → ⊥) → (save_sna state ram file registers).slice ≡ file
unfolding save_sna
save_sna_unaltered state ram file registers n = changed_kept _ _ (judge_save_sna state (length ram) (length file) (length registers)) (save_sna state ram file registers) refl n

pub write_7ffd_numbered : (state : List ℕ) (value : ℕ) (answer : List ℕ) → Numbered (write7ffd_call state value answer).code (all_causes state (told_causes (length answer)))
unfolding write7ffd_call
write_7ffd_numbered state value answer = numbered (judge_told state (length answer)) _ _ _ (repaged_code _ _ _ (judge_told state (length answer)) (write7ffd_call state value answer) refl) (told_ordered state (length answer))

pub write_7ffd_unaltered : (state : List ℕ) (value : ℕ) (answer : List ℕ) → ((write7ffd_call state value answer).code ≡ 0 → ⊥) → ((write7ffd_call state value answer).state ≡ state) × ((write7ffd_call state value answer).answer ≡ refused_answer number_length (write7ffd_call state value answer).code answer)
unfolding write7ffd_call
write_7ffd_unaltered state value answer n = repaged_kept _ _ _ (judge_told state (length answer)) (write7ffd_call state value answer) refl n

pub read_7ffd_numbered : (state answer : List ℕ) → Numbered (read7ffd state answer).code (all_causes state (told_causes (length answer)))
unfolding read7ffd
read_7ffd_numbered state answer = numbered (judge_told state (length answer)) _ _ _ (told_code _ _ (judge_told state (length answer)) (read7ffd state answer) refl) (told_ordered state (length answer))

pub read_7ffd_unaltered : (state answer : List ℕ) → ((read7ffd state answer).code ≡ 0 → ⊥) → (read7ffd state answer).answer ≡ refused_answer number_length (read7ffd state answer).code answer
unfolding read7ffd
read_7ffd_unaltered state answer n = told_kept _ _ (judge_told state (length answer)) (read7ffd state answer) refl n

pub int_active_numbered : (state answer : List ℕ) → Numbered (int_active state answer).code (all_causes state (told_causes (length answer)))
unfolding int_active
int_active_numbered state answer = numbered (judge_told state (length answer)) _ _ _ (told_code _ _ (judge_told state (length answer)) (int_active state answer) refl) (told_ordered state (length answer))

pub int_active_unaltered : (state answer : List ℕ) → ((int_active state answer).code ≡ 0 → ⊥) → (int_active state answer).answer ≡ refused_answer number_length (int_active state answer).code answer
unfolding int_active
int_active_unaltered state answer n = told_kept _ _ (judge_told state (length answer)) (int_active state answer) refl n

pub frames_count_numbered : (state answer : List ℕ) → Numbered (frames_count state answer).code (all_causes state (told_causes (length answer)))
unfolding frames_count
frames_count_numbered state answer = numbered (judge_told state (length answer)) _ _ _ (told_code _ _ (judge_told state (length answer)) (frames_count state answer) refl) (told_ordered state (length answer))

pub frames_count_unaltered : (state answer : List ℕ) → ((frames_count state answer).code ≡ 0 → ⊥) → (frames_count state answer).answer ≡ refused_answer number_length (frames_count state answer).code answer
unfolding frames_count
frames_count_unaltered state answer n = told_kept _ _ (judge_told state (length answer)) (frames_count state answer) refl n

pub reset_frames_numbered : (state : List ℕ) → Numbered (reset_frames state).code (all_causes state no_causes)
unfolding reset_frames
reset_frames_numbered state = numbered (judge_state state) _ _ _ (changed_code _ _ (judge_state state) (reset_frames state) refl) (state_ordered state)

pub reset_frames_unaltered : (state : List ℕ) → ((reset_frames state).code ≡ 0 → ⊥) → (reset_frames state).slice ≡ state
unfolding reset_frames
reset_frames_unaltered state n = changed_kept _ _ (judge_state state) (reset_frames state) refl n

pub ram_page_numbered : (state ram : List ℕ) (page : ℕ) (answer : List ℕ) → Numbered (ram_page_told state ram page answer).code (all_causes state (ram_page_causes (length ram) page (number_fits (length answer))))
unfolding ram_page_told
ram_page_numbered state ram page answer = numbered (judge_ram_page state (length ram) page (number_fits (length answer))) _ _ _ (told_code _ _ (judge_ram_page state (length ram) page (number_fits (length answer))) (ram_page_told state ram page answer) refl) (ram_page_ordered state (length ram) page (number_fits (length answer)))

pub ram_page_unaltered : (state ram : List ℕ) (page : ℕ) (answer : List ℕ) → ((ram_page_told state ram page answer).code ≡ 0 → ⊥) → (ram_page_told state ram page answer).answer ≡ refused_answer number_length (ram_page_told state ram page answer).code answer
unfolding ram_page_told
ram_page_unaltered state ram page answer n = told_kept _ _ (judge_ram_page state (length ram) page (number_fits (length answer))) (ram_page_told state ram page answer) refl n

pub block_numbered : (state rom ram : List ℕ) (number : ℕ) (answer : List ℕ) → Numbered (block_told state rom ram number answer).code (all_causes state (block_causes (length rom) (length ram) number (number_fits (length answer))))
unfolding block_told
block_numbered state rom ram number answer = numbered (judge_block state (length rom) (length ram) number (number_fits (length answer))) _ _ _ (told_code _ _ (judge_block state (length rom) (length ram) number (number_fits (length answer))) (block_told state rom ram number answer) refl) (block_ordered state (length rom) (length ram) number (number_fits (length answer)))

pub block_unaltered : (state rom ram : List ℕ) (number : ℕ) (answer : List ℕ) → ((block_told state rom ram number answer).code ≡ 0 → ⊥) → (block_told state rom ram number answer).answer ≡ refused_answer number_length (block_told state rom ram number answer).code answer
unfolding block_told
block_unaltered state rom ram number answer n = told_kept _ _ (judge_block state (length rom) (length ram) number (number_fits (length answer))) (block_told state rom ram number answer) refl n

pub shown_picture_numbered : (state a b answer : List ℕ) → Numbered (shown_told state a b answer).code (all_causes state (shown_causes (length a) (length b) (number_fits (length answer))))
unfolding shown_told
shown_picture_numbered state a b answer = numbered (judge_shown state (length a) (length b) (number_fits (length answer))) _ _ _ (told_code _ _ (judge_shown state (length a) (length b) (number_fits (length answer))) (shown_told state a b answer) refl) (shown_ordered state (length a) (length b) (number_fits (length answer)))

pub shown_picture_unaltered : (state a b answer : List ℕ) → ((shown_told state a b answer).code ≡ 0 → ⊥) → (shown_told state a b answer).answer ≡ refused_answer number_length (shown_told state a b answer).code answer
unfolding shown_told
shown_picture_unaltered state a b answer n = told_kept _ _ (judge_shown state (length a) (length b) (number_fits (length answer))) (shown_told state a b answer) refl n

pub still_picture_numbered : (state ram picture : List ℕ) (flash : ℕ) → Numbered (still_picture state ram picture flash).code (all_causes state (still_causes (length ram) (length picture) flash))
unfolding still_picture
still_picture_numbered state ram picture flash = numbered (judge_still state (length ram) (length picture) flash) _ _ _ (changed_code _ _ (judge_still state (length ram) (length picture) flash) (still_picture state ram picture flash) refl) (still_ordered state (length ram) (length picture) flash)

pub still_picture_unaltered : (state ram picture : List ℕ) (flash : ℕ) → ((still_picture state ram picture flash).code ≡ 0 → ⊥) → (still_picture state ram picture flash).slice ≡ picture
unfolding still_picture
still_picture_unaltered state ram picture flash n = changed_kept _ _ (judge_still state (length ram) (length picture) flash) (still_picture state ram picture flash) refl n

-- an answer of the wrong length is left alone
left_alone : (answer : List ℕ) (n : ℕ) → number_fits (length answer) ≡ false → answer ≡ refused_answer number_length n answer
unfolding refused_answer
left_alone answer n e = rw e

-- ---- a call without a record to judge: the numbers of two causes, whatever record a verdict would hold
two_numbered : (causes : List Cause) (code : ℕ) (bus : Bus) → code ≡ code_of (judged causes bus) → stand_in (numbers_of causes) document_order ≡ true → Numbered code causes
two_numbered causes code bus c s = numbered (judged causes bus) causes bus code c (by_list (judged causes bus) causes bus refl s)

-- ---- start
module _ (l new : Lent) where
  pub begun_code : (v : Result Bus Refusal) → (begun l new v).code ≡ code_of v
  unfolding begun
  begun_code (Err e) = refl
  begun_code (Ok bus) = refl

  begun_kept : (v : Result Bus Refusal) → ((begun l new v).code ≡ 0 → ⊥) → (begun l new v).slices ≡ l
  unfolding begun
  begun_kept (Err e) n = refl
  begun_kept (Ok bus) n = absurd (n refl)

  -- an accepted one leaves the new slices
  pub begun_left : (v : Result Bus Refusal) → (begun l new v).code ≡ 0 → (begun l new v).slices ≡ new
  unfolding begun
  begun_left (Err e) z = absurd (not_zero e z)
  begun_left (Ok bus) z = refl

module _ (l : Lent) (machine : ℕ) where
  -- the slices of the machine as it begins
  abbrev new_lent : ℕ → Lent
  new_lent colour = lent_by (machine_of machine) (started (machine_of machine) colour)

  start_code : (colour : ℕ) → (start_colour l machine colour).code ≡ code_of (judge_start_of l machine colour)
  unfolding start_colour
  start_code colour = begun_code l (new_lent colour) (judge_start_of l machine colour)

  pub start_numbered : Numbered (start l machine).code (start_causes_of (plain_start machine) l)
  start_numbered = numbered (judge_start_of l machine black) _ _ _ (start_code black) (start_ordered (length l.state) (length l.ram) (length l.a) (length l.b) (length l.border) machine black refl)

  pub start_colour_numbered : (colour : ℕ) → Numbered (start_colour l machine colour).code (start_causes_of (colour_start machine colour) l)
  start_colour_numbered colour =
      numbered (judge_start_of l machine colour) _ _ _ (start_code colour)
      (start_colour_ordered (length l.state) (length l.ram) (length l.a) (length l.b) (length l.border) machine colour)

  pub start_colour_unaltered : (colour : ℕ) → ((start_colour l machine colour).code ≡ 0 → ⊥) → (start_colour l machine colour).slices ≡ l
  unfolding start_colour
  start_colour_unaltered colour n = begun_kept l (new_lent colour) (judge_start_of l machine colour) n

  pub start_unaltered : ((start l machine).code ≡ 0 → ⊥) → (start l machine).slices ≡ l
  start_unaltered n = start_colour_unaltered black n

-- ---- an import
-- the registers go by the same verdict
registers_kept : (l new : Lent) (filled registers : List ℕ) (v : Result Bus Refusal) → ((begun l new v).code ≡ 0 → ⊥) → (change (λ bus. filled) registers v).slice ≡ registers
unfolding begun
registers_kept l new filled registers (Err e) n = refl
registers_kept l new filled registers (Ok bus) n = absurd (n refl)

module _ (l : Lent) (file registers : List ℕ) (machine : ℕ) where
  abbrev imported_lent : Lent
  imported_lent = lent_by (machine_of machine) (imported_world (machine_of machine) file)

  pub load_sna_numbered : Numbered (load_sna l file registers machine).code (start_causes_of (snapshot_start machine file registers) l)
  unfolding load_sna
  load_sna_numbered =
      numbered (judge_load_sna_of l file registers machine) _ _ _ (begun_code l imported_lent (judge_load_sna_of l file registers machine))
      (load_sna_ordered (length l.state) (length l.ram) (length registers) (length l.a) (length l.b) (length l.border) machine file)

  -- "Nothing is written when refused, `registers` included."
  pub load_sna_unaltered : ((load_sna l file registers machine).code ≡ 0 → ⊥)
      → ((load_sna l file registers machine).slices ≡ l) × ((load_sna l file registers machine).registers ≡ registers)
  unfolding load_sna
  load_sna_unaltered n =
      (begun_kept l imported_lent (judge_load_sna_of l file registers machine) n, registers_kept l imported_lent _ registers (judge_load_sna_of l file registers machine) n)

-- ---- the helpers
-- a helper that answers within its range only
abbrev ranged : Bool → ℕ → Option ℕ
ranged t k = cond t (Some k) None

helper_code : (t f : Bool) (k : ℕ) (answer : List ℕ) (bus : Bus)
    → (cond f (help (ranged t k) answer) (told (refusal_number BadLength) answer)).code ≡ code_of (judged (unless f ∷ cause BadNumber (not t) ∷ []) bus)
unfolding judged
helper_code true true k answer bus = refl
helper_code false true k answer bus = refl
helper_code t false k answer bus = refl

helper_numbered : (t : Bool) (k : ℕ) (answer : List ℕ) → Numbered (helper_call (ranged t k) answer).code (helper_causes t answer)
unfolding helper_call stand_in
helper_numbered t k answer =
    let bus = start_record Sinclair48K 0 in
    two_numbered _ _ bus (helper_code t (number_fits (length answer)) k answer bus) refl

pub helper_unaltered : (h : Option ℕ) (answer : List ℕ) → ((helper_call h answer).code ≡ 0 → ⊥)
    → (helper_call h answer).answer ≡ refused_answer number_length (helper_call h answer).code answer
unfolding helper_call
helper_unaltered h answer n = by h (number_fits (length answer)) refl n where
  by : (h : Option ℕ) (f : Bool) → number_fits (length answer) ≡ f → ((cond f (help h answer) (told (refusal_number BadLength) answer)).code ≡ 0 → ⊥)
      → (cond f (help h answer) (told (refusal_number BadLength) answer)).answer
      ≡ refused_answer number_length (cond f (help h answer) (told (refusal_number BadLength) answer)).code answer
  by (Some k) true e n = absurd (n refl)
  by None true e n = refl
  by h false e n = left_alone answer (refusal_number BadLength) e

pub bitmap_line_addr_numbered : (line : ℕ) (answer : List ℕ) → Numbered (bitmap_line_addr line answer).code (helper_causes (leb line 191) answer)
bitmap_line_addr_numbered line answer = helper_numbered (leb line 191) _ answer

pub bitmap_line_rel_numbered : (addr : ℕ) (answer : List ℕ) → Numbered (bitmap_line_rel addr answer).code (helper_causes (leb addr 0x17FF) answer)
bitmap_line_rel_numbered addr answer = helper_numbered (leb addr 0x17FF) _ answer

pub bitmap_col_rel_numbered : (addr : ℕ) (answer : List ℕ) → Numbered (bitmap_col_rel addr answer).code (helper_causes (leb addr 0x17FF) answer)
bitmap_col_rel_numbered addr answer = helper_numbered (leb addr 0x17FF) _ answer

pub attr_row_rel_numbered : (addr : ℕ) (answer : List ℕ) → Numbered (attr_row_rel addr answer).code (helper_causes (is_attribute addr) answer)
attr_row_rel_numbered addr answer = helper_numbered (is_attribute addr) _ answer

pub attr_col_rel_numbered : (addr : ℕ) (answer : List ℕ) → Numbered (attr_col_rel addr answer).code (helper_causes (is_attribute addr) answer)
attr_col_rel_numbered addr answer = helper_numbered (is_attribute addr) _ answer

colour_ranged : (t : Bool) (c : ZXColor) → colour_helped (cond t (Some c) None) ≡ ranged t (colour_number c)
colour_ranged true c = refl
colour_ranged false c = refl

pub color_from_bits_numbered : (bits : ℕ) (answer : List ℕ) → Numbered (color_from_bits bits answer).code (helper_causes (leb bits 7) answer)
color_from_bits_numbered bits answer = rw (colour_ranged (leb bits 7) (colour_of bits)) (helper_numbered (leb bits 7) _ answer)
