-- Each way out of a timed call, over plain values, and what an accepted one may ask of the bus.
-- Assumes nothing.
use Prim.Native.Nat.{ℕ, ◌+◌, ◌*◌, ◌<◌, ◌≤◌}
use mathlib.Core.Path.{◌≡◌, ap, ap₂, ◌∙◌}
use mathlib.Core.List.{List}
use native.Mathlib.Omega.{arith}
use borrow.Author.Rules.{rules}
use lib.ListN.{length}
use Rattle.std.specs.Prelude.{Result, Ok, Err}
use Rattle.machine.specs.declared.ZXMachine.{ZXMachine}
use Rattle.machine.specs.declared.ZXMachine.TheVariants.{Sinclair48K, Sinclair128K}
use Rattle.machine.specs.Numbers.{specs_of}
use Rattle.machine.specs.Timing.{interrupt}
use Rattle.record.specs.declared.Bus.{Bus}
use Rattle.record.specs.Record.{record_bytes, HasRoom, last_frame}
use Rattle.record.specs.Sound.{Sound}
use Rattle.steps.specs.declared.Turning.{Turning}
use Rattle.bus.specs.World.{Core, world_of}
use Rattle.bus.specs.Turns.{Turn, Part, fresh, ran_by}
use Rattle.steps.specs.Turned.{turn_of, core_of, Ready}
use Rattle.bus.proofs.OneStep.{frame_long}
use Rattle.judgement.specs.declared.Refusal.{Refusal}
use Rattle.judgement.specs.Refusals.{refusal_number}
use Rattle.judgement.specs.Answers.{timed_answer, refused_answer}
use Rattle.judgement.specs.Ready.{Fit, ReadyWait, ReadyPort}
use Rattle.contracts.specs.Timed.{Lent, lent, lent_world, outcome, timed_end, timed_call}

-- clocks since the start have room for one call more, if passed frames are below their last number
time_fits : (m : ZXMachine) (passed clock clocks : ℕ) → HasRoom passed → clock < (specs_of m).frame → clocks ≤ 65541
    → passed * (specs_of m).frame + clock + clocks < (last_frame + 1) * (specs_of m).frame
time_fits Sinclair48K passed clock clocks p c n = omega arith
time_fits Sinclair128K passed clock clocks p c n = omega arith

-- the call that has begun on a sound record: at most ten steps, of at most 65,541 clocks in all
module _ (bus : Bus) (begun : Turning) (ram a b border : List ℕ) (starts : turn_of begun ram a b border ≡ fresh bus.machine (world_of bus ram a b border)) where
  pub ready_fresh : (answer steps clocks : ℕ) → Fit bus (length ram) (length a) (length b) (length border) answer → Sound bus → HasRoom bus.passed
      → steps ≤ 10 → clocks ≤ 65541 → Ready (turn_of begun ram a b border) steps clocks
  ready_fresh answer steps clocks f s room k n =
      let long = frame_long bus.machine in
      let time = time_fits bus.machine bus.passed bus.clock clocks room s.clock n in
      rw starts (search rules)

  -- what each call asks: a plain wait one step of its clocks, a wait at an address two with a delay, a port call two
  pub ready_plain : (state : List ℕ) (clocks answer : ℕ) → ReadyWait state (length ram) (length a) (length b) (length border) clocks answer bus
      → Ready (turn_of begun ram a b border) 1 clocks
  ready_plain state clocks answer r = ready_fresh answer 1 clocks r.fit r.on_record.sound r.room (omega arith) (let n = r.short in omega arith)

  pub ready_at : (state : List ℕ) (clocks answer : ℕ) → ReadyWait state (length ram) (length a) (length b) (length border) clocks answer bus
      → Ready (turn_of begun ram a b border) 2 (clocks + 6)
  ready_at state clocks answer r = ready_fresh answer 2 (clocks + 6) r.fit r.on_record.sound r.room (omega arith) (let n = r.short in omega arith)

  pub ready_io : (state devices : List ℕ) (answer : ℕ) → ReadyPort state devices (length ram) (length a) (length b) (length border) answer bus
      → Ready (turn_of begun ram a b border) 2 28
  ready_io state devices answer r = ready_fresh answer 2 28 r.fit r.on_record.sound r.room (omega arith) (omega arith)

module _ (v j : Result Bus Refusal) (judged : v ≡ j) (part : ZXMachine → Part) (value : ZXMachine → Core → ℕ) (l : Lent) (answer : List ℕ) where
  pub timed_refused : (e : Refusal) (r : ℕ) (left : List ℕ) → v ≡ Err e
      → (r ≡ refusal_number e) × (left ≡ refused_answer 10 (refusal_number e) answer) → outcome r l left ≡ timed_call part value l answer j
  unfolding timed_call
  timed_refused e r left p q = rw (← judged, p, q.0, q.1)

  pub timed_accepted : (bus : Bus) (begun turn : Turning) (r n : ℕ) (state a b border left : List ℕ)
      → v ≡ Ok bus
      → turn_of begun l.ram l.a l.b l.border ≡ fresh bus.machine (lent_world bus l)
      → turn_of turn l.ram a b border ≡ ran_by (part begun.bus.machine) (turn_of begun l.ram l.a l.b l.border)
      → n ≡ value begun.bus.machine (core_of begun.bus l.ram)
      → (r ≡ 0) × (state ≡ record_bytes turn.bus) × (left ≡ timed_answer n turn.closed (interrupt turn.bus.clock) turn.clocks turn.blocks)
      → outcome r (lent state l.ram a b border) left ≡ timed_call part value l answer j
  unfolding timed_call
  timed_accepted bus begun turn r n state a b border left p starts runs gives q =
      let m : begun.bus.machine ≡ bus.machine = ap (λ (t : Turn). t.machine) starts in
      let ended : turn_of turn l.ram a b border ≡ ran_by (part bus.machine) (fresh bus.machine (lent_world bus l))
      = runs ∙ ap₂ (λ (k : ZXMachine) (t : Turn). ran_by (part k) t) m starts in
      let given : n ≡ value bus.machine (lent_world bus l).core = gives ∙ ap₂ value m (ap (λ (t : Turn). t.world.core) starts) in
      rw (← judged, p, q.0, q.1, q.2) (ap₂ timed_end ended given)
