-- EACH STEP OF A RUN IS ITS DEFINITION: whatever number and whatever exit the contract of a function admits, they are those of the call's definition; and the
-- call's numbers are in the ranges of the function's own types.
-- Assumes nothing.
use Prim.Native.Nat.{ℕ}
use mathlib.Core.List.{List, [], ◌∷◌}
use mathlib.Core.Path.{◌≡◌, sym, ◌∙◌, ap}
use contract.Lifetimes.{Lfts}
use Rattle.contracts.specs.Timed.{Lent, lent, Outcome, outcome}
use Rattle.contracts.specs.Plain.{told, Changed, Repaged}
use Rattle.contracts.specs.Snapshots.{Imported}
use Rattle.contracts.specs.Calls.{Start, plain_start, colour_start, snapshot_start, started_by, plain, mreq, no_mreq, port_in, port_out, Helper, line_addr, line_of, column_of, attr_row_of, attr_column_of, colour_bits, Question, byte_read, paging_read, interrupt_asked, frames_asked, page_asked, block_asked, shown_asked, still_asked, file_asked, snapshot_asked, help, Call, start_again, take_time, write_byte, write_paging, reset_passed, load_ram, load_screen, ask, Result, result, with_ram, with_state, waited, helped_by, replied, performed, lent_of, Made, buffers_after, Obeyed}
use Rattle.contracts.proofs.Ranges.{TypedQuestion, Typed, AllTyped}
use Rattle.contracts.specs.Helpers.{helper_call}
use Rattle.runs.specs.Run.{Slice, slice, Where, HelperAdmits, Replies, Steps, Run, Begins}
use Rattle.runs.proofs.HelperRange.{help_range}

-- ---- the ranges of a call's numbers
ask_range : (q : Question) (at : ℕ → Where) (l : Lent) (out : List ℕ) (code : ℕ) (filled : List ℕ) → Replies q at l out code filled → TypedQuestion q
ask_range (byte_read rom addr) at l out code filled s = s.1.0.1.1.1.0.1
ask_range paging_read at l out code filled s = tt
ask_range interrupt_asked at l out code filled s = tt
ask_range frames_asked at l out code filled s = tt
ask_range (page_asked page) at l out code filled s = s.1.0.1.1.0.1
ask_range (block_asked rom block) at l out code filled s = s.1.0.1.1.1.0.1
ask_range shown_asked at l out code filled s = tt
ask_range (still_asked flash) at l out code filled s = s.1.0.1.1.1.0.1
ask_range file_asked at l out code filled s = tt
ask_range (snapshot_asked registers) at l out code filled s = tt
ask_range (help h n) at l out code filled s = help_range h s.0 n (slice at 0 out) code (slice at 0 filled) s.1

in_range_lem : (k : Call) (at : ℕ → Where) (l : Lent) (r : Result) → Steps k at l r → Typed k
in_range_lem (start_again (plain_start machine)) at l r s = s.1.0.1.1.1.1.1.0.1
in_range_lem (start_again (colour_start machine colour)) at l r s = (s.1.0.1.1.1.1.1.0.1, s.1.0.1.1.1.1.1.1.0.1)
in_range_lem (start_again (snapshot_start machine file registers)) at l r s = (s.1.0.1.1.1.1.1.1.1.0.1, s.2)
in_range_lem (take_time (plain n) answer) at l r s = s.1.0.1.1.1.1.1.0.1
in_range_lem (take_time (mreq addr n) answer) at l r s = (s.1.0.1.1.1.1.1.0.1, s.1.0.1.1.1.1.1.1.0.1)
in_range_lem (take_time (no_mreq addr n) answer) at l r s = (s.1.0.1.1.1.1.1.0.1, s.1.0.1.1.1.1.1.1.0.1)
in_range_lem (take_time (port_in devices port) answer) at l r s = s.1.0.1.1.1.1.1.1.0.1
in_range_lem (take_time (port_out devices port value) answer) at l r s = (s.1.0.1.1.1.1.1.1.0.1, s.1.0.1.1.1.1.1.1.1.0.1)
in_range_lem (write_byte addr value) at l r s = (s.1.0.1.1.0.1, s.1.0.1.1.1.0.1)
in_range_lem (write_paging value answer) at l r s = s.1.0.1.0.1
in_range_lem reset_passed at l r s = tt
in_range_lem (load_ram bytes page) at l r s = s.1.0.1.1.1.0.1
in_range_lem (load_screen file page) at l r s = s.1.0.1.1.1.0.1
in_range_lem (ask q out) at l r s = ask_range q at l out r.code r.filled s.0

-- ---- what is returned and left
helper_is : (h : Helper) (κs : Lfts 1) (n : ℕ) (answer : Slice) (code : ℕ) (answer' : Slice) → HelperAdmits h κs n answer code answer'
    → told code answer'.now ≡ helper_call (helped_by h n) answer.now
helper_is line_addr κs n answer code answer' s = s.1
helper_is line_of κs n answer code answer' s = s.1
helper_is column_of κs n answer code answer' s = s.1
helper_is attr_row_of κs n answer code answer' s = s.1
helper_is attr_column_of κs n answer code answer' s = s.1
helper_is colour_bits κs n answer code answer' s = s.1

reply_is : (q : Question) (at : ℕ → Where) (l : Lent) (out : List ℕ) (code : ℕ) (filled : List ℕ) → Replies q at l out code filled
    → told code filled ≡ replied q l out
unfolding replied
reply_is (byte_read rom addr) at l out code filled s = s.1.1
reply_is paging_read at l out code filled s = s.1.1
reply_is interrupt_asked at l out code filled s = s.1.1
reply_is frames_asked at l out code filled s = s.1.1
reply_is (page_asked page) at l out code filled s = s.1.1
reply_is (block_asked rom block) at l out code filled s = s.1.1
reply_is shown_asked at l out code filled s = s.1.1
reply_is (still_asked flash) at l out code filled s = ap (λ (c : Changed). told c.code c.slice) s.1.1
reply_is file_asked at l out code filled s = ap (λ (c : Changed). told c.code c.slice) s.1.1
reply_is (snapshot_asked registers) at l out code filled s = ap (λ (c : Changed). told c.code c.slice) s.1.1
reply_is (help h n) at l out code filled s = helper_is h s.0 n (slice at 0 out) code (slice at 0 filled) s.1

-- a timed call is lent RAM to read alone
timed_is : (r : Result) (l : Lent) (o : Outcome) → r.slices.ram ≡ l.ram
    → outcome r.code (lent r.slices.state l.ram r.slices.a r.slices.b r.slices.border) r.filled ≡ o
    → r ≡ result o.code o.slices o.answer
timed_is r l o e p =
    (λ i. result r.code (lent r.slices.state (e i) r.slices.a r.slices.b r.slices.border) r.filled)
    ∙ ap (λ (x : Outcome). result x.code x.slices x.answer) p

step_is : (k : Call) (at : ℕ → Where) (l : Lent) (r : Result) → Steps k at l r → r ≡ performed k l
unfolding performed waited
step_is (start_again (plain_start machine)) at l r s = λ i. result (s.1.1 i).code (s.1.1 i).slices (s.2 i)
step_is (start_again (colour_start machine colour)) at l r s = λ i. result (s.1.1 i).code (s.1.1 i).slices (s.2 i)
step_is (start_again (snapshot_start machine file registers)) at l r s = ap (λ (x : Imported). result x.code x.slices x.registers) s.1.1
step_is (take_time (plain n) answer) at l r s = timed_is r l _ s.2 s.1.1
step_is (take_time (mreq addr n) answer) at l r s = timed_is r l _ s.2 s.1.1
step_is (take_time (no_mreq addr n) answer) at l r s = timed_is r l _ s.2 s.1.1
step_is (take_time (port_in devices port) answer) at l r s = timed_is r l _ s.2 s.1.1
step_is (take_time (port_out devices port value) answer) at l r s = timed_is r l _ s.2 s.1.1
step_is (write_byte addr value) at l r s =
    (λ i. result r.code (s.2 i) (s.3 i)) ∙ ap (λ (c : Changed). result c.code (with_ram l c.slice) []) s.1.1
step_is (write_paging value answer) at l r s =
    (λ i. result r.code (s.2 i) r.filled) ∙ ap (λ (c : Repaged). result c.code (with_state l c.state) c.answer) s.1.1
step_is reset_passed at l r s =
    (λ i. result r.code (s.2 i) (s.3 i)) ∙ ap (λ (c : Changed). result c.code (with_state l c.slice) []) s.1.1
step_is (load_ram bytes page) at l r s =
    (λ i. result r.code (s.2 i) (s.3 i)) ∙ ap (λ (c : Changed). result c.code (with_ram l c.slice) []) s.1.1
step_is (load_screen file page) at l r s =
    (λ i. result r.code (s.2 i) (s.3 i)) ∙ ap (λ (c : Changed). result c.code (with_ram l c.slice) []) s.1.1
step_is (ask q out) at l r s =
    let e = reply_is q at l out r.code r.filled s.0 in
    λ i. result (e i).code (s.1 i) (e i).answer

-- A RUN OBEYS: every call has what its definition says, and numbers of the functions' own types.
pub run_obeys : (cs : List Made) (l : Lent) → Run cs l → Obeyed cs l
run_obeys [] l r = tt
run_obeys (c ∷ cs) l r = (step_is c.call r.0.0 (lent_of c.lending l) c.result r.0.1, run_obeys cs (buffers_after c l) r.1)

pub run_typed : (cs : List Made) (l : Lent) → Run cs l → AllTyped cs
run_typed [] l r = tt
run_typed (c ∷ cs) l r = (in_range_lem c.call r.0.0 (lent_of c.lending l) c.result r.0.1, run_typed cs (buffers_after c l) r.1)

-- and it begins with what an accepted start leaves
pub run_begins : (how : Start) (before after : Lent) → Begins how before after
    → Typed (start_again how) × ((started_by how before).code ≡ 0) × ((started_by how before).slices ≡ after)
unfolding performed
run_begins how before after b =
    let r = result 0 after b.0 in
    let e = step_is (start_again how) b.1.0 before r b.1.1 in
    (in_range_lem (start_again how) b.1.0 before r b.1.1, ap (λ (r : Result). r.code) (sym e), ap (λ (r : Result). r.slices) (sym e))
