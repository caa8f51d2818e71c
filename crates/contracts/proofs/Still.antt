-- WHAT THE STILL PICTURE SHOWS: on any sound record, with the record's own flash, what a whole catch-up of a fresh frame would paint from the RAM
-- as it stands. First in catch-up's own definitions (bus, specs/Time), and then of the calls: one plain wait past the last block of a fresh frame.
-- Assumes nothing.
use Prim.Native.Nat.{ℕ, ◌+◌, ◌*◌, ◌≤◌}
use mathlib.Core.Bool.{Bool, true, false, false≢true, cond}
use mathlib.Core.List.{List}
use mathlib.Core.Path.{◌≡◌, refl, sym, ap, ◌∙◌}
use native.Mathlib.Omega.{arith}
use lib.Dec.{eqb, ltb, lit≤}
use lib.ListN.{length}
use borrow.Author.Tests.{eq-eqb, ne_eqb, le-ltb}
use Rattle.std.specs.Prelude.{Ok, Err}
use Rattle.machine.specs.declared.ZXMachine.{ZXMachine}
use Rattle.machine.specs.declared.ZXMachine.TheVariants.{Sinclair48K, Sinclair128K}
use Rattle.machine.specs.Numbers.{specs_of}
use Rattle.machine.specs.Limits.{picture_length, border_length, longest_wait}
use Rattle.machine.specs.Timing.{block_position}
use Rattle.machine.proofs.Numbered.{regular}
use Rattle.machine.proofs.Rising.{last_block}
use Rattle.record.specs.declared.Bus.{Bus}
use Rattle.record.specs.Record.{record_bytes, flag_byte, last_frame, HasRoom}
use Rattle.record.proofs.Soundness.{facts_sound}
use Rattle.record.proofs.Round.{held_encode}
use Rattle.memory.specs.Memory.{ram_page}
use Rattle.paint.specs.Paint.{blocks}
use Rattle.paint.proofs.Painting.{paint_whole}
use Rattle.bus.specs.World.{Screen, World, bus_of, Sized}
use Rattle.bus.specs.Time.{Look, look_at, flash_on, shows_a, hidden_picture, caught_up, rewound, world_after}
use Rattle.bus.proofs.OneStep.{frame_long, goes_on_if, screen_goes}
use Rattle.bus.proofs.Kept.{SoundWorld}
use Rattle.judgement.specs.declared.Refusal.TheVariants.{BadNumber}
use Rattle.judgement.specs.Refusals.{judged}
use Rattle.judgement.specs.Judges.{judge_wait, judge_still}
use Rattle.judgement.specs.Answers.{timed_length}
use Rattle.contracts.specs.Timed.{lent_by, Outcome, timed_call, judge_wait_of, wait_internal}
use Rattle.contracts.specs.Plain.{Changed, changed, still_of, still_picture}
use Rattle.contracts.specs.Calls.{plain, waited}
use Rattle.contracts.specs.Still.{fresh_frame}
use Rattle.contracts.proofs.Refusals.{wait_internal_numbered}
use Rattle.contracts.proofs.Acts.{timed_left}

-- on every machine the longest wait from a frame's beginning is past its last block
pub longest_reaches : (m : ZXMachine) → block_position (specs_of m) longest_wait ≡ 6144
longest_reaches m = last_block (specs_of m) (regular m).wide longest_wait (by m) where
  by : (m : ZXMachine) → (specs_of m).block + 191 * (specs_of m).line + 124 ≤ longest_wait
  by Sinclair48K = lit≤ tt
  by Sinclair128K = lit≤ tt

-- an accepted still picture is its definition of the record
pub still_of_lem : (state ram picture : List ℕ) (flash : ℕ) (bus : Bus) → judge_still state (length ram) (length picture) flash ≡ Ok bus
    → still_picture state ram picture flash ≡ changed 0 (still_of bus ram (eqb flash 1))
unfolding still_picture
still_of_lem state ram picture flash bus e = rw e

module _ (m : ZXMachine) (w : World) (sound : SoundWorld m w) (sized : Sized m w) where
  -- a still picture with flash off or on, into a picture of its length, is accepted
  still_accepted : (flash : Bool) (picture : List ℕ) → length picture ≡ picture_length
      → judge_still (record_bytes (bus_of m w)) (length w.core.ram) (length picture) (flag_byte flash) ≡ Ok (bus_of m w)
  unfolding judge_still judged
  still_accepted flash picture long =
      rw (held_encode (bus_of m w) (facts_sound (bus_of m w) sound), eq-eqb (length w.core.ram) (specs_of m).ram sized.ram, eq-eqb (length picture) picture_length long)
      (by flash) where
        by : (flash : Bool) → cond (ltb 1 (flag_byte flash)) (Err BadNumber) (Ok (bus_of m w)) ≡ Ok (bus_of m w)
        by true = refl
        by false = refl

  flag_is : (flash : Bool) → eqb (flag_byte flash) 1 ≡ flash
  flag_is true = refl
  flag_is false = refl

  -- WHAT IT IS: the whole of the shown page, with that flash.
  pub still_is : (flash : Bool) (picture : List ℕ) → length picture ≡ picture_length
      → still_picture (record_bytes (bus_of m w)) w.core.ram picture (flag_byte flash) ≡ changed 0 (still_of (bus_of m w) w.core.ram flash)
  still_is flash picture long =
      still_of_lem (record_bytes (bus_of m w)) w.core.ram picture (flag_byte flash) (bus_of m w) (still_accepted flash picture long)
      ∙ ap (λ (t : Bool). changed 0 (still_of (bus_of m w) w.core.ram t)) (flag_is flash)

  -- the hidden picture after a catch-up of a fresh frame to the last block
  whole : (look : Look) → look.at ≡ 6144 → (shows-a : Bool)
      → cond shows-a (caught_up look shows-a (rewound w.screen)).b (caught_up look shows-a (rewound w.screen)).a
      ≡ blocks (ram_page look.page look.ram) look.flash 0 6144
  unfolding caught_up
  whole look e true = rw e (paint_whole (ram_page look.page look.ram) look.flash w.screen.b sized.b)
  whole look e false = rw e (paint_whole (ram_page look.page look.ram) look.flash w.screen.a sized.a)

  -- the fresh frame is sound, and has its lengths
  fresh_sound : SoundWorld m (fresh_frame w)
  fresh_sound =
      record {
        passed = sound.passed;
        phase = sound.phase;
        paging = sound.paging;
        reported = sound.reported;
        colour = sound.colour;
        clock = omega (arith, frame_long m);
        painted = omega arith;
        pairs = omega arith;
        at_end = λ f. absurd (false≢true f);
        no_pairs = λ f. refl;
        unpaged = sound.unpaged;
      }

  fresh_sized : Sized m (fresh_frame w)
  fresh_sized = record { ram = sized.ram; a = sized.a; b = sized.b; pixels = sized.pixels }

  -- the record's own flash, and a clock by which the last block of a frame has come
  module _ (picture : List ℕ) (long : length picture ≡ picture_length) (n : ℕ) (last : block_position (specs_of m) n ≡ 6144) where
    abbrev still : Changed
    still = still_picture (record_bytes (bus_of m w)) w.core.ram picture (flag_byte (flash_on w.core.phase))

    -- ON ANY SOUND RECORD, WITH THE RECORD'S OWN FLASH, THE STILL PICTURE IS WHAT A WHOLE CATCH-UP OF A FRESH FRAME WOULD PAINT FROM THE RAM AS IT STANDS.
    pub still_is_caught_up : still ≡ changed 0 (hidden_picture w.core (caught_up (look_at m n w.core) (shows_a w.core.phase) (fresh_frame w).screen))
    still_is_caught_up =
        still_is (flash_on w.core.phase) picture long
        ∙ ap (changed 0) (sym (whole (look_at m n w.core) last (shows_a w.core.phase)))

    -- AND WHAT ONE PLAIN WAIT OF A FRESH FRAME LEAVES, of n clocks: it is accepted, and the still picture then stands in B if A is shown, and in A if B is.
    module _ (answer : List ℕ) (own : length answer ≡ timed_length) (short : n ≤ longest_wait) (room : HasRoom w.core.passed) where
      abbrev wait : Outcome
      wait = wait_internal (lent_by m (fresh_frame w)) n answer

      wait_accepted : judge_wait_of (lent_by m (fresh_frame w)) n answer ≡ Ok (bus_of m (fresh_frame w))
      unfolding judge_wait judged
      wait_accepted =
          rw (
            held_encode (bus_of m (fresh_frame w)) (facts_sound (bus_of m (fresh_frame w)) fresh_sound),
            eq-eqb (length w.core.ram) (specs_of m).ram sized.ram,
            eq-eqb (length w.screen.a) picture_length sized.a,
            eq-eqb (length w.screen.b) picture_length sized.b,
            eq-eqb (length w.edge.pixels) border_length sized.pixels,
            eq-eqb (length answer) timed_length own,
            le-ltb longest_wait n short,
            ne_eqb w.core.passed last_frame (λ e. omega (arith, room, e)),
          )

      pub wait_is_accepted : wait.code ≡ 0
      unfolding wait_internal timed_call
      wait_is_accepted = rw wait_accepted

      pub still_is_a_wait : still ≡ changed 0 (cond (shows_a w.core.phase) wait.slices.b wait.slices.a)
      unfolding waited world_after
      still_is_a_wait =
          let none = (wait_internal_numbered (lent_by m (fresh_frame w)) n answer).zero_by_none wait_is_accepted in
          let on = goes_on_if m n (fresh_frame w).core (omega (arith, short, frame_long m)) in
          let seen : block_position (specs_of m) (0 + n) ≡ 6144 = ap (block_position (specs_of m)) (omega arith) ∙ last in
          still_is (flash_on w.core.phase) picture long
          ∙ ap (changed 0) (sym (whole (look_at m (0 + n) (fresh_frame w).core) seen (shows_a w.core.phase)))
          ∙ ap (λ (s : Screen). changed 0 (cond (shows_a w.core.phase) s.b s.a)) (sym (screen_goes m n (fresh_frame w).core (fresh_frame w).screen on))
          ∙ ap (λ (o : Outcome). changed 0 (cond (shows_a w.core.phase) o.slices.b o.slices.a)) (sym (timed_left m (fresh_frame w) fresh_sound fresh_sized (plain n) answer none))
