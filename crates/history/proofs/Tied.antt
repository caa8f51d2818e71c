-- FROM CALLS TO OPERATIONS: whatever was lent, the buffers after a call hold the world after its operations, byte for byte, and what its answer
-- reports is what they report. A refused call has no operations.
-- Assumes nothing.
use Prim.Native.Nat.{ℕ, ◌+◌}
use mathlib.Core.Bool.{Bool, true, false, cond}
use mathlib.Core.List.{List, []}
use mathlib.Core.Path.{◌≡◌, refl, sym, ◌∙◌, ap, subst}
use native.Mathlib.Omega.{arith}
use native.Mathlib.Nat.{zero-add}
use lib.Dec.{eqb}
use borrow.Author.Tests.{eqb-true, eqb-false}
use Rattle.laws.proofs.Words.{word_back, long_back}
use Rattle.machine.specs.declared.ZXMachine.{ZXMachine}
use Rattle.record.specs.Words.{byte_at, word_at, long_at}
use Rattle.memory.specs.Paging.{write7ffd}
use Rattle.memory.specs.Memory.{place_of}
use Rattle.ports.specs.Devices.{devices_of}
use Rattle.bus.specs.World.{World, Sized}
use Rattle.bus.specs.Time.{Op, world_after}
use Rattle.bus.proofs.Runs.{clocks_in, blocks_in}
use Rattle.bus.proofs.PortClocks.{read_small, write_small}
use Rattle.bus.proofs.Kept.{SoundWorld}
use Rattle.contracts.specs.Timed.{Lent, lent_by}
use Rattle.contracts.specs.Calls.{TimedCall, plain, mreq, no_mreq, port_in, port_out, Call, start_again, take_time, write_byte, write_paging, reset_passed, load_ram, load_screen, ask, Result, timed_ops, ops_of, performed, Portions, lent_of, Made, buffers_after, NotStarted}
use Rattle.contracts.proofs.Ranges.{Typed}
use Rattle.contracts.proofs.Calls.{call_numbered}
use Rattle.contracts.proofs.Acts.{sized_kept, timed_kept, timed_left, few_blocks, acted}
use Rattle.contracts.proofs.AsWhole.{as_whole, as_refused}
use Rattle.history.specs.Reports.{reported, reported_clocks, reported_blocks, reported_closed, PortTakes}
use Rattle.history.specs.Demand.{operations}
use Rattle.history.proofs.Operations.{closings, AllSmall}
use Rattle.history.proofs.Counts.{all_small, one_closing, closed_flag, AllSilent, silent_clocks, silent_blocks, silent_closings, poke_silent, paged_silent}

-- what a call leaves and reports, by the operations that it is
pub record Tied (m : ZXMachine) (c : Made) (os : List Op) (w : World) : Type 0 where
  pub slices : buffers_after c (lent_by m w) ≡ lent_by m (world_after m os w)
  pub clocks : reported_clocks c ≡ clocks_in os
  pub blocks : reported_blocks c ≡ blocks_in m os w
  pub closed : reported_closed c ≡ closings m os w.core
  pub sound : SoundWorld m (world_after m os w)
  pub sized : Sized m (world_after m os w)
  pub small : AllSmall os

-- what operations report that a call's answer has to say
record Reported (m : ZXMachine) (k : Call) (r : Result) (os : List Op) (w : World) : Type 0 where
  clocks : reported (λ answer. long_at answer 4) k r.code r.filled ≡ clocks_in os
  blocks : reported (λ answer. word_at answer 8) k r.code r.filled ≡ blocks_in m os w
  closed : reported (λ answer. byte_at answer 2) k r.code r.filled ≡ closings m os w.core

-- a refused call reports nothing
nothing : (f : List ℕ → ℕ) (k : Call) (code : ℕ) (filled : List ℕ) → eqb code 0 ≡ false → reported f k code filled ≡ 0
nothing f (start_again how) code filled e = refl
nothing f (take_time t answer) code filled e = rw e
nothing f (write_byte addr value) code filled e = refl
nothing f (write_paging value answer) code filled e = refl
nothing f reset_passed code filled e = refl
nothing f (load_ram bytes page) code filled e = refl
nothing f (load_screen file page) code filled e = refl
nothing f (ask q out) code filled e = refl

module _ (m : ZXMachine) (w : World) (sound : SoundWorld m w) (sized : Sized m w) where
  abbrev l : Lent
  l = lent_by m w

  -- ---- what is reported, of an accepted call on the whole buffers

  -- the answer's bytes stand for the numbers that the operations report
  timed_reported : (t : TimedCall) (answer : List ℕ) → Typed (take_time t answer) → (performed (take_time t answer) l).code ≡ 0
      → Reported m (take_time t answer) (performed (take_time t answer) l) (ops_of m (take_time t answer) w.core) w
  unfolding ops_of performed
  timed_reported t answer typed z =
      let h = (call_numbered (take_time t answer) l).zero_by_none z in
      let os = timed_ops t m w.core in
      let brief = (timed_kept m w sound sized t answer h typed).brief in
      let few = few_blocks m w sound sized t answer h typed in
      rw (timed_left m w sound sized t answer h)
      (record {
        clocks = long_back (0 + clocks_in os) (omega arith) ∙ zero-add (clocks_in os);
        blocks = word_back (0 + blocks_in m os w) (omega arith) ∙ zero-add (blocks_in m os w);
        closed = closed_flag m os w.core (one_closing m os w.core sound.clock brief);
      })

  -- operations that take no time report nothing
  silent_reported : (k : Call) (os : List Op) → AllSilent os → ((f : List ℕ → ℕ) (code : ℕ) (filled : List ℕ) → reported f k code filled ≡ 0)
      → Reported m k (performed k l) os w
  silent_reported k os s none =
      record {
        clocks = none _ _ _ ∙ sym (silent_clocks os s);
        blocks = none _ _ _ ∙ sym (silent_blocks m os w s);
        closed = none _ _ _ ∙ sym (silent_closings m os w.core s);
      }

  all_reported : (k : Call) → NotStarted k 0 → Typed k → (performed k l).code ≡ 0 → Reported m k (performed k l) (ops_of m k w.core) w
  unfolding ops_of
  all_reported (start_again how) first typed z = absurd (first refl)
  all_reported (take_time t answer) first typed z = timed_reported t answer typed z
  all_reported (write_byte addr value) first typed z =
      silent_reported (write_byte addr value) _ (poke_silent (place_of m w.core.paging addr) value) (λ f code filled. refl)
  all_reported (write_paging value answer) first typed z =
      silent_reported (write_paging value answer) _ (paged_silent (write7ffd m w.core.paging value)) (λ f code filled. refl)
  all_reported reset_passed first typed z = silent_reported reset_passed _ tt (λ f code filled. refl)
  all_reported (load_ram bytes page) first typed z = silent_reported (load_ram bytes page) _ tt (λ f code filled. refl)
  all_reported (load_screen file page) first typed z = silent_reported (load_screen file page) _ tt (λ f code filled. refl)
  all_reported (ask q out) first typed z = silent_reported (ask q out) [] tt (λ f code filled. refl)

  module _ (n : Portions) where
    -- a call that was made as its definition says
    abbrev made : Call → Made
    made k = record { lending = n; call = k; result = performed k (lent_of n l) }

    -- accepted
    accepted_tied : (k : Call) → Typed k → NotStarted k 0 → (performed k (lent_of n l)).code ≡ 0 → Tied m (made k) (ops_of m k w.core) w
    accepted_tied k typed first z =
        let same = as_whole m w sound sized n k first typed z in
        let zero : (performed k l).code ≡ 0 = ap (λ (r : Result). r.code) (sym same) ∙ z in
        let a = acted m w sound sized k first typed ((call_numbered k l).zero_by_none zero) in
        let r = all_reported k first typed zero in
        let os = ops_of m k w.core in
        let says : (f : List ℕ → ℕ) → reported f k (performed k (lent_of n l)).code (performed k (lent_of n l)).filled ≡ reported f k (performed k l).code (performed k l).filled =
        λ f. ap (λ (r : Result). reported f k r.code r.filled) same in
        record {
          slices = ap (λ (r : Result). r.slices) same ∙ a.slices;
          clocks = says (λ answer. long_at answer 4) ∙ r.clocks;
          blocks = says (λ answer. word_at answer 8) ∙ r.blocks;
          closed = says (λ answer. byte_at answer 2) ∙ r.closed;
          sound = a.kept.sound;
          sized = sized_kept m w (world_after m os w) sized a.kept.lengths;
          small = all_small os a.kept.brief;
        }

    -- refused
    refused_tied : (k : Call) → eqb (performed k (lent_of n l)).code 0 ≡ false → Tied m (made k) [] w
    unfolding world_after clocks_in blocks_in closings
    refused_tied k e =
        record {
          slices = as_refused n l k (eqb-false (performed k (lent_of n l)).code 0 e);
          clocks = nothing _ k _ _ e;
          blocks = nothing _ k _ _ e;
          closed = nothing _ k _ _ e;
          sound = sound;
          sized = sized;
          small = tt;
        }

    tied_by : (k : Call) → Typed k → NotStarted k (performed k (lent_of n l)).code → (b : Bool) → eqb (performed k (lent_of n l)).code 0 ≡ b
        → Tied m (made k) (cond b (ops_of m k w.core) []) w
    tied_by k typed first true e =
        let z = eqb-true (performed k (lent_of n l)).code 0 e in
        accepted_tied k typed (subst (NotStarted k) z first) z
    tied_by k typed first false e = refused_tied k e

  -- EVERY CALL, ACCEPTED OR REFUSED, whatever it was lent, is the operations that the history says.
  pub tied : (c : Made) → c.result ≡ performed c.call (lent_of c.lending l) → Typed c.call → NotStarted c.call c.result.code
      → Tied m c (operations m c w.core) w
  tied c e typed first =
      subst
      (λ (r : Result). NotStarted c.call r.code
      → Tied m (record { lending = c.lending; call = c.call; result = r }) (cond (eqb r.code 0) (ops_of m c.call w.core) []) w)
      (sym e) (λ first. tied_by c.lending c.call typed first (eqb (performed c.call (lent_of c.lending l)).code 0) refl) first

  -- "No accepted port call takes under 4 or over 16 clocks.", as its answer says them
  port_by : (k : Call) (c : Made) → c.call ≡ k → Tied m c (operations m c w.core) w → PortTakes k c
  unfolding ops_of
  port_by (start_again how) c e t = tt
  port_by (take_time (plain n) answer) c e t = tt
  port_by (take_time (mreq addr n) answer) c e t = tt
  port_by (take_time (no_mreq addr n) answer) c e t = tt
  port_by (take_time (port_in devices port) answer) c e t = λ z.
      rw (t.clocks, z, e) (read_small m port w.core)
  port_by (take_time (port_out devices port value) answer) c e t = λ z.
      rw (t.clocks, z, e) (write_small m (devices_of devices) port value w.core)
  port_by (write_byte addr value) c e t = tt
  port_by (write_paging value answer) c e t = tt
  port_by reset_passed c e t = tt
  port_by (load_ram bytes page) c e t = tt
  port_by (load_screen file page) c e t = tt
  port_by (ask q out) c e t = tt

  pub port_takes : (c : Made) → c.result ≡ performed c.call (lent_of c.lending l) → Typed c.call → NotStarted c.call c.result.code → PortTakes c.call c
  port_takes c e typed first = port_by c.call c refl (tied c e typed first)
