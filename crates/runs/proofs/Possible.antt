-- A RUN CAN ALWAYS GO ON: on any buffers, wherever the firmware has them, each call whose numbers are of its function's types has a step, the one of its
-- definition. So what is said of all runs is not said of nothing.
-- Assumes nothing.
use Prim.Native.Nat.{ℕ, ◌<◌, ◌^◌, ◌*◌}
use mathlib.Core.Bool.{Bool, true, false}
use mathlib.Core.List.{List, [], ◌∷◌}
use mathlib.Core.Path.{◌≡◌, refl, sym, ◌∙◌, ap}
use native.Mathlib.Omega.{arith}
use lib.Dec.{eqb}
use lib.ListN.{length}
use borrow.Author.Tests.{eqb-true, eqb-false, ltb-false}
use Rattle.std.specs.Prelude.{Result as StdResult, Ok, Err}
use Rattle.machine.specs.declared.ZXMachine.{ZXMachine}
use Rattle.machine.specs.Limits.{longest_wait}
use Rattle.record.specs.declared.Bus.{Bus}
use Rattle.ports.specs.Devices.{devices_of}
use Rattle.bus.specs.World.{Core, World}
use Rattle.bus.specs.Time.{Op, does, world_after}
use Rattle.bus.specs.Turns.{Part, fresh}
use Rattle.bus.proofs.Runs.{ran_world}
use Rattle.bus.proofs.TimedCalls.{AllInCall, op_ram, address_timed, read_timed, write_timed}
use Rattle.judgement.specs.declared.Refusal.{Refusal}
use Rattle.judgement.specs.Order.{NoneHolds}
use Rattle.contracts.specs.Timed.{Lent, lent_world, lent, outcome, timed_call, judge_wait_of, judge_port_of, wait_internal, wait_at, read_io, write_io}
use Rattle.contracts.specs.Calls.{Start, plain_start, colour_start, snapshot_start, TimedCall, plain, mreq, no_mreq, port_in, port_out, Helper, line_addr, line_of, column_of, attr_row_of, attr_column_of, colour_bits, Question, byte_read, paging_read, interrupt_asked, frames_asked, page_asked, block_asked, shown_asked, still_asked, file_asked, snapshot_asked, help, Call, start_again, take_time, write_byte, write_paging, reset_passed, load_ram, load_screen, ask, Result, waited, timed_ops, helped_by, replied, performed, timed_causes}
use Rattle.contracts.proofs.Ranges.{TypedQuestion, Typed}
use Rattle.contracts.proofs.Acts.{timed_value}
use Rattle.contracts.specs.Helpers.{helper_call}
use Rattle.contracts.proofs.Calls.{call_numbered, call_refused}
use Rattle.runs.specs.Run.{slice, Where, HelperAdmits, Replies, Steps}

-- ---- a timed call leaves RAM as it was
ram_stays : (m : ZXMachine) (os : List Op) (w : World) → AllInCall m os → (world_after m os w).core.ram ≡ w.core.ram
unfolding world_after
ram_stays m [] w i = refl
ram_stays m (o ∷ os) w i = ram_stays m os (does m o w) i.1 ∙ op_ram m o w.core i.0

timed_ram : (f : ZXMachine → Part) (value : ZXMachine → Core → ℕ) (l : Lent) (answer : List ℕ) → ((m : ZXMachine) (c : Core) → AllInCall m (f m c))
    → (v : StdResult Bus Refusal) → (timed_call f value l answer v).slices.ram ≡ l.ram
unfolding timed_call
timed_ram f value l answer i (Err e) = refl
timed_ram f value l answer i (Ok bus) =
    let m = bus.machine in
    let w = lent_world bus l in
    ap (λ (v : World). v.core.ram) (ran_world (f m w.core) (fresh m w)) ∙ ram_stays m (f m w.core) w (i m w.core)

-- whose operations are those of a timed call
in_call_lem : (t : TimedCall) (answer : List ℕ) (l : Lent) → Typed (take_time t answer) → NoneHolds (timed_causes t l answer) → (m : ZXMachine) (c : Core) → AllInCall m (timed_ops t m c)
in_call_lem (plain n) answer l typed h m c = (tt, tt)
in_call_lem (mreq addr n) answer l typed h m c = (address_timed m addr n (ltb-false longest_wait n h.1.1.1.0)).in_call c
in_call_lem (no_mreq addr n) answer l typed h m c = (address_timed m addr n (ltb-false longest_wait n h.1.1.1.0)).in_call c
in_call_lem (port_in devices port) answer l typed h m c = (read_timed m port).in_call c
in_call_lem (port_out devices port value) answer l typed h m c = (write_timed m (devices_of devices) port value typed.1).in_call c

waited_ram : (t : TimedCall) (answer : List ℕ) (l : Lent) → Typed (take_time t answer) → (b : Bool) → eqb (waited t l answer).code 0 ≡ b → (waited t l answer).slices.ram ≡ l.ram
unfolding performed waited wait_internal wait_at read_io write_io
waited_ram t answer l typed false e =
    ap (λ (r : Result). r.slices.ram) (call_refused l (take_time t answer) (eqb-false (waited t l answer).code 0 e))
waited_ram t answer l typed true e =
    let i = in_call_lem t answer l typed ((call_numbered (take_time t answer) l).zero_by_none (eqb-true (waited t l answer).code 0 e)) in
    by t i
  where
    by : (t : TimedCall) → ((m : ZXMachine) (c : Core) → AllInCall m (timed_ops t m c)) → (waited t l answer).slices.ram ≡ l.ram
    by (plain n) i = timed_ram (timed_ops (plain n)) (timed_value (plain n)) l answer i (judge_wait_of l n answer)
    by (mreq addr n) i = timed_ram (timed_ops (mreq addr n)) (timed_value (mreq addr n)) l answer i (judge_wait_of l n answer)
    by (no_mreq addr n) i = timed_ram (timed_ops (no_mreq addr n)) (timed_value (no_mreq addr n)) l answer i (judge_wait_of l n answer)
    by (port_in devices port) i = timed_ram (timed_ops (port_in devices port)) (timed_value (port_in devices port)) l answer i (judge_port_of l devices answer)
    by (port_out devices port value) i = timed_ram (timed_ops (port_out devices port value)) (timed_value (port_out devices port value)) l answer i (judge_port_of l devices answer)

-- ---- lengths that memory can have
abbrev pub Roomy : List ℕ → Type 0
Roomy bytes = length bytes < 2 ^ 63

pub record LentRoomy (l : Lent) : Type 0 where
  pub state : Roomy l.state
  pub ram : Roomy l.ram
  pub a : Roomy l.a
  pub b : Roomy l.b
  pub border : Roomy l.border

room : (bytes : List ℕ) → Roomy bytes → (length bytes < 18446744073709551616) × (length bytes * 1 < 9223372036854775808)
room bytes h = (omega arith, omega arith)

abbrev pub QuestionRoomy : Question → Type 0
QuestionRoomy (byte_read rom addr) = Roomy rom
QuestionRoomy paging_read = Unit {0}
QuestionRoomy interrupt_asked = Unit {0}
QuestionRoomy frames_asked = Unit {0}
QuestionRoomy (page_asked page) = Unit {0}
QuestionRoomy (block_asked rom block) = Roomy rom
QuestionRoomy shown_asked = Unit {0}
QuestionRoomy (still_asked flash) = Unit {0}
QuestionRoomy file_asked = Unit {0}
QuestionRoomy (snapshot_asked registers) = Roomy registers
QuestionRoomy (help h n) = Unit {0}

abbrev pub TimedRoomy : TimedCall → Type 0
TimedRoomy (plain n) = Unit {0}
TimedRoomy (mreq addr n) = Unit {0}
TimedRoomy (no_mreq addr n) = Unit {0}
TimedRoomy (port_in devices port) = Roomy devices
TimedRoomy (port_out devices port value) = Roomy devices

abbrev pub StartRoomy : Start → Type 0
StartRoomy (plain_start machine) = Unit {0}
StartRoomy (colour_start machine colour) = Unit {0}
StartRoomy (snapshot_start machine file registers) = Roomy file × Roomy registers

abbrev pub CallRoomy : Call → Type 0
CallRoomy (start_again how) = StartRoomy how
CallRoomy (take_time t answer) = TimedRoomy t × Roomy answer
CallRoomy (write_byte addr value) = Unit {0}
CallRoomy (write_paging value answer) = Roomy answer
CallRoomy reset_passed = Unit {0}
CallRoomy (load_ram bytes page) = Roomy bytes
CallRoomy (load_screen file page) = Roomy file
CallRoomy (ask q out) = QuestionRoomy q × Roomy out

-- ---- THE STEP OF EACH CALL
module _ (at : ℕ → Where) (l : Lent) (r : LentRoomy l) where
  -- of what a timed call leaves, with the RAM that it was lent
  ram_back : (t : TimedCall) (answer : List ℕ) → Typed (take_time t answer)
      → let o = waited t l answer in
      outcome o.code (lent o.slices.state l.ram o.slices.a o.slices.b o.slices.border) o.answer ≡ o
  ram_back t answer typed i =
      let o = waited t l answer in
      outcome o.code (lent o.slices.state (sym (waited_ram t answer l typed (eqb o.code 0) refl) i) o.slices.a o.slices.b o.slices.border) o.answer

  timed_on : (t : TimedCall) (answer : List ℕ) → Typed (take_time t answer) → CallRoomy (take_time t answer) → Steps (take_time t answer) at l (performed (take_time t answer) l)
  unfolding performed waited
  timed_on (plain n) answer typed own =
      (([], ([], ([], ([], ([], ([], tt)))))), ((room l.state r.state, (room l.ram r.ram, (room l.a r.a, (room l.b r.b, (room l.border r.border, ((refl, typed), (room answer own.1, tt))))))), ram_back (plain n) answer typed), waited_ram (plain n) answer l typed _ refl)
  timed_on (mreq addr n) answer typed own =
      (([], ([], ([], ([], ([], ([], tt)))))), ((room l.state r.state, (room l.ram r.ram, (room l.a r.a, (room l.b r.b, (room l.border r.border, ((refl, typed.0), ((refl, typed.1), (room answer own.1, tt)))))))), ram_back (mreq addr n) answer typed), waited_ram (mreq addr n) answer l typed _ refl)
  timed_on (no_mreq addr n) answer typed own =
      (([], ([], ([], ([], ([], ([], tt)))))), ((room l.state r.state, (room l.ram r.ram, (room l.a r.a, (room l.b r.b, (room l.border r.border, ((refl, typed.0), ((refl, typed.1), (room answer own.1, tt)))))))), ram_back (no_mreq addr n) answer typed), waited_ram (no_mreq addr n) answer l typed _ refl)
  timed_on (port_in devices port) answer typed own =
      (([], ([], ([], ([], ([], ([], ([], tt))))))), ((room l.state r.state, (room devices own.0, (room l.ram r.ram, (room l.a r.a, (room l.b r.b, (room l.border r.border, ((refl, typed), (room answer own.1, tt)))))))), ram_back (port_in devices port) answer typed), waited_ram (port_in devices port) answer l typed _ refl)
  timed_on (port_out devices port value) answer typed own =
      (([], ([], ([], ([], ([], ([], ([], tt))))))), ((room l.state r.state, (room devices own.0, (room l.ram r.ram, (room l.a r.a, (room l.b r.b, (room l.border r.border, ((refl, typed.0), ((refl, typed.1), (room answer own.1, tt))))))))), ram_back (port_out devices port value) answer typed), waited_ram (port_out devices port value) answer l typed _ refl)

  helper_on : (h : Helper) (n : ℕ) (out : List ℕ) → n < 2 ^ 32 → Roomy out
      → HelperAdmits h ([], tt) n (slice at 0 out) (helper_call (helped_by h n) out).code (slice at 0 (helper_call (helped_by h n) out).answer)
  helper_on line_addr n out typed own = (((refl, typed), (room out own, tt)), refl)
  helper_on line_of n out typed own = (((refl, typed), (room out own, tt)), refl)
  helper_on column_of n out typed own = (((refl, typed), (room out own, tt)), refl)
  helper_on attr_row_of n out typed own = (((refl, typed), (room out own, tt)), refl)
  helper_on attr_column_of n out typed own = (((refl, typed), (room out own, tt)), refl)
  helper_on colour_bits n out typed own = (((refl, typed), (room out own, tt)), refl)

  ask_on : (q : Question) (out : List ℕ) → TypedQuestion q → QuestionRoomy q × Roomy out → Replies q at l out (replied q l out).code (replied q l out).answer
  unfolding replied
  ask_on (byte_read rom addr) out typed own = (([], ([], ([], ([], tt)))), ((room l.state r.state, (room rom own.0, (room l.ram r.ram, ((refl, typed), (room out own.1, tt))))), refl))
  ask_on paging_read out typed own = (([], ([], tt)), ((room l.state r.state, (room out own.1, tt)), refl))
  ask_on interrupt_asked out typed own = (([], ([], tt)), ((room l.state r.state, (room out own.1, tt)), refl))
  ask_on frames_asked out typed own = (([], ([], tt)), ((room l.state r.state, (room out own.1, tt)), refl))
  ask_on (page_asked page) out typed own = (([], ([], ([], tt))), ((room l.state r.state, (room l.ram r.ram, ((refl, typed), (room out own.1, tt)))), refl))
  ask_on (block_asked rom block) out typed own = (([], ([], ([], ([], tt)))), ((room l.state r.state, (room rom own.0, (room l.ram r.ram, ((refl, typed), (room out own.1, tt))))), refl))
  ask_on shown_asked out typed own = (([], ([], ([], ([], tt)))), ((room l.state r.state, (room l.a r.a, (room l.b r.b, (room out own.1, tt)))), refl))
  ask_on (still_asked flash) out typed own = (([], ([], ([], tt))), ((room l.state r.state, (room l.ram r.ram, (room out own.1, ((refl, typed), tt)))), refl))
  ask_on file_asked out typed own = (([], ([], ([], tt))), ((room l.state r.state, (room l.ram r.ram, (room out own.1, tt))), refl))
  ask_on (snapshot_asked registers) out typed own = (([], ([], ([], ([], tt)))), ((room l.state r.state, (room l.ram r.ram, (room out own.1, (room registers own.0, tt)))), refl))
  ask_on (help h n) out typed own = (([], tt), helper_on h n out typed own.1)

  -- EVERY CALL HAS A STEP.
  pub goes_on_lem : (k : Call) → Typed k → CallRoomy k → Steps k at l (performed k l)
  unfolding performed
  goes_on_lem (start_again (plain_start machine)) typed own = (([], ([], ([], ([], ([], tt))))), ((room l.state r.state, (room l.ram r.ram, (room l.a r.a, (room l.b r.b, (room l.border r.border, ((refl, typed), tt)))))), refl), refl)
  goes_on_lem (start_again (colour_start machine colour)) typed own = (([], ([], ([], ([], ([], tt))))), ((room l.state r.state, (room l.ram r.ram, (room l.a r.a, (room l.b r.b, (room l.border r.border, ((refl, typed.0), ((refl, typed.1), tt))))))), refl), refl)
  goes_on_lem (start_again (snapshot_start machine file registers)) typed own = (([], ([], ([], ([], ([], ([], ([], tt))))))), ((room l.state r.state, (room l.ram r.ram, (room file own.0, (room registers own.1, (room l.a r.a, (room l.b r.b, (room l.border r.border, ((refl, typed.0), tt)))))))), refl), typed.1)
  goes_on_lem (take_time t answer) typed own = timed_on t answer typed own
  goes_on_lem (write_byte addr value) typed own = (([], ([], tt)), ((room l.state r.state, (room l.ram r.ram, ((refl, typed.0), ((refl, typed.1), tt)))), refl), refl, refl)
  goes_on_lem (write_paging value answer) typed own = (([], ([], tt)), ((room l.state r.state, ((refl, typed), (room answer own, tt))), refl), refl)
  goes_on_lem reset_passed typed own = (([], tt), ((room l.state r.state, tt), refl), refl, refl)
  goes_on_lem (load_ram bytes page) typed own = (([], ([], ([], tt))), ((room l.state r.state, (room l.ram r.ram, (room bytes own, ((refl, typed), tt)))), refl), refl, refl)
  goes_on_lem (load_screen file page) typed own = (([], ([], ([], tt))), ((room l.state r.state, (room l.ram r.ram, (room file own, ((refl, typed), tt)))), refl), refl, refl)
  goes_on_lem (ask q out) typed own = (ask_on q out typed own, refl)
