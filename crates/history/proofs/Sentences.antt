-- THE MISSION'S SENTENCES on pictures and records, one theorem each, of any history: any calls on a machine that begins fresh, refused ones among them.
-- The sums, the clocks of port calls and what the buffers hold between calls are `demand3` itself (Demand3.antt).
-- Assumes nothing.
use Prim.Native.Nat.{ℕ, zero, suc, ◌+◌, ◌-◌, ◌*◌, ◌/◌, ◌≤◌, ◌<◌}
use mathlib.Core.Bool.{Bool, true, false, cond, false≢true}
use mathlib.Core.List.{List, [], ◌∷◌, ◌++◌}
use mathlib.Core.Logic.{◌⊎◌, ⊎_elim, inl, inr}
use mathlib.Core.Path.{◌≡◌, refl, sym, ◌∙◌, ap, subst}
use native.Mathlib.Omega.{arith}
use native.Mathlib.Nat.{mul-add-div_right, div-eq_of_lt, add-zero}
use lib.ListN.{length, get_or}
use Rattle.std.specs.Prelude.{Ok}
use Rattle.machine.specs.declared.ZXMachine.{ZXMachine}
use Rattle.machine.specs.Numbers.{specs_of}
use Rattle.machine.specs.Limits.{longest_wait}
use Rattle.machine.specs.Timing.{block_position}
use Rattle.machine.proofs.Numbered.{regular}
use Rattle.machine.proofs.Rising.{blocks_mono}
use Rattle.record.specs.Record.{held_by, HasRoom}
use Rattle.record.proofs.Soundness.{facts_sound}
use Rattle.record.proofs.Round.{held_encode}
use Rattle.paint.proofs.Painting.{paint_out}
use Rattle.memory.specs.Memory.{ram_page}
use Rattle.bus.specs.World.{World, bus_of}
use Rattle.bus.specs.Time.{Stall, lasts, Op, step, tick, colour, silent, look_at, shows_a, shown_picture, hidden_picture, caught_up, closes, in_core, in_screen, in_edge, does, world_after}
use Rattle.bus.specs.Turns.{closed_by}
use Rattle.bus.proofs.OneStep.{core_goes, screen_closed, screen_goes, closes_at}
use Rattle.bus.proofs.Runs.{clocks_in, blocks_in}
use Rattle.bus.proofs.Closing.{completed, closing_shows}
use Rattle.judgement.specs.Answers.{timed_length}
use Rattle.contracts.specs.Timed.{Lent, lent_by}
use Rattle.contracts.specs.Calls.{plain, take_time, performed, lent_of, Made, Obeyed, Each, NotStarted, NoSecondStart}
use Rattle.contracts.proofs.Ranges.{Typed, AllTyped}
use Rattle.history.specs.Log.{Shot, Frame, Shows, AllShow, follow, film}
use Rattle.history.specs.Fresh.{Fresh}
use Rattle.history.specs.Reports.{reported_closed}
use Rattle.history.specs.Demand.{operations, History, gone_on, history_from, history, bytes_after}
use Rattle.history.proofs.Time.{count}
use Rattle.history.proofs.Pictures.{hidden_caught, shown_caught}
use Rattle.history.proofs.Operations.{closings, AllSmall, Inv, ops_kept}
use Rattle.history.proofs.Ends.{none_closed}
use Rattle.history.proofs.Good.{wait_accepted, never_unsound}
use Rattle.history.proofs.Tied.{Tied, tied}
use Rattle.history.proofs.Demand3.{stays_from, history_stands, demand3, each_call}

-- ---- each completed frame

-- completed frames by number, 0 the newest: what was logged of each, and what memory held as it closed
abbrev pub no_frame : Frame
no_frame = record { sights = []; enter = 0; inks = [] }

abbrev pub no_shot : Shot
no_shot = record { picture = []; border = [] }

pub each_shows : (ss : List Shot) (fs : List Frame) → AllShow ss fs → (i : ℕ) → i < length fs → Shows (get_or ss i no_shot) (get_or fs i no_frame)
each_shows [] [] h i p = absurd (omega arith)
each_shows [] (f ∷ fs) h i p = absurd h
each_shows (s ∷ ss) [] h i p = absurd h
each_shows (s ∷ ss) (f ∷ fs) h zero p = h.0
each_shows (s ∷ ss) (f ∷ fs) h (suc i) p = each_shows ss fs h.1 i (omega arith)

whole_frames : (frame frames clock clocks : ℕ) → clock < frame → clocks ≡ frames * frame + clock → frames ≡ clocks / frame
whole_frames frame frames clock clocks h e =
    sym (ap (λ (n : ℕ). n / frame) e ∙ mul-add-div_right (omega arith) frames clock ∙ ap (λ (n : ℕ). frames + n) (div-eq_of_lt h) ∙ add-zero frames)

module _ (m : ZXMachine) (w : World) (fresh : Fresh m w) (cs : List Made) (obeyed : Obeyed cs (lent_by m w)) (typed : AllTyped cs) (again : NoSecondStart cs) where
  -- "Each completed frame has painted each of its 6,144 blocks once, in raster order, with the bytes, shown page and flash held when its
  -- catch-up reached it; each border pixel has the colour last written at or before it": completed frame i, as it stood when it closed
  pub each_frame : (i : ℕ) → i < length (history m w cs).log.done → Shows (get_or (history m w cs).shots i no_shot) (get_or (history m w cs).log.done i no_frame)
  each_frame i h = each_shows (history m w cs).shots (history m w cs).log.done (demand3 m w fresh cs obeyed typed again).frames i h

  -- ---- frames do complete

  -- As many frames are completed as whole frames' clocks were reported.
  pub frames_complete : length (history m w cs).log.done ≡ (bytes_after m w cs).clocks / (specs_of m).frame
  frames_complete =
      let i = history_stands m w fresh cs obeyed typed again in
      whole_frames (specs_of m).frame (length (history m w cs).log.done) (history m w cs).world.core.clock (bytes_after m w cs).clocks
      i.sound.clock (demand3 m w fresh cs obeyed typed again).clocks

  -- Good input is accepted: a wait of at most 65,535 clocks, while passed frames have room. So a history can go on and complete frame after frame.
  pub good_wait : (clocks : ℕ) (answer : List ℕ) → clocks ≤ longest_wait → length answer ≡ timed_length → HasRoom (history m w cs).world.core.passed
      → (performed (take_time (plain clocks) answer) (bytes_after m w cs).slices).code ≡ 0
  good_wait clocks answer few size room =
      let i = history_stands m w fresh cs obeyed typed again in
      subst (λ (l : Lent). (performed (take_time (plain clocks) answer) l).code ≡ 0) (sym i.slices)
      (wait_accepted m (history m w cs).world i.sound i.sized clocks answer few size room)

  -- ---- the record

  -- THE RECORD STAYS SOUND FOR EVER: after any calls the state bytes are held as a sound record, the one of the history's world.
  pub record_sound : held_by (bytes_after m w cs).slices.state ≡ Ok (bus_of m (history m w cs).world)
  record_sound =
      let i = history_stands m w fresh cs obeyed typed again in
      ap (λ (l : Lent). held_by l.state) i.slices
      ∙ held_encode (bus_of m (history m w cs).world) (facts_sound (bus_of m (history m w cs).world) i.sound)

  -- AND REFUSAL 3 IS NEVER GIVEN in a history: not by any call, however its buffers are lent.
  pub no_refusal_3 : Each (λ c. c.result.code ≡ 3 → ⊥) cs
  no_refusal_3 =
      each_call m w fresh cs obeyed typed again (λ c. c.result.code ≡ 3 → ⊥)
      (λ c v sound sized e t f three. never_unsound m v sound sized c.lending c.call (ap (λ r. r.code) (sym e) ∙ three))

-- ---- "and it changes no other byte of a picture"

module _ (m : ZXMachine) where
  caught : (n : ℕ) (w : World) (b : Bool) → closes m n w.core ≡ b
      → ((does m (tick n) w).screen.a ≡ (caught_up (look_at m (w.core.clock + n) w.core) (shows_a w.core.phase) w.screen).a)
      × ((does m (tick n) w).screen.b ≡ (caught_up (look_at m (w.core.clock + n) w.core) (shows_a w.core.phase) w.screen).b)
  caught n w true e = rw (screen_closed m n w.core w.screen e) (refl, refl)
  caught n w false e = rw (screen_goes m n w.core w.screen e) (refl, refl)

  -- A step leaves the picture that is shown as it was, whether it closes the frame or not,
  pub shown_alone : (n : ℕ) (w : World)
      → cond (shows_a w.core.phase) (does m (tick n) w).screen.a (does m (tick n) w).screen.b ≡ shown_picture w.core w.screen
  shown_alone n w =
      let c = caught n w (closes m n w.core) refl in
      let l = look_at m (w.core.clock + n) w.core in
      rw (c.0, c.1) (shown_caught (shows_a w.core.phase) l w.screen)

  -- and of the hidden one it leaves byte i as it was, which is of no block from the painted count up to the position that it reaches.
  abbrev pub Leaves : ℕ → World → ℕ → Type 0
  Leaves n w i =
      (i < 8 * w.screen.painted) ⊎ (8 * block_position (specs_of m) (w.core.clock + n) ≤ i)
      → get_or (cond (shows_a w.core.phase) (does m (tick n) w).screen.b (does m (tick n) w).screen.a) i 0
      ≡ get_or (hidden_picture w.core w.screen) i 0

  leaves_by : (n : ℕ) (w : World) → w.screen.painted ≤ block_position (specs_of m) (w.core.clock + n) → (i : ℕ) → Leaves n w i
  leaves_by n w h i out =
      let c = caught n w (closes m n w.core) refl in
      let l = look_at m (w.core.clock + n) w.core in
      let from = w.screen.painted in
      let out' : (i < 8 * from) ⊎ (8 * (from + (l.at - from)) ≤ i) = ⊎_elim (λ (p : i < 8 * from). inl p) (λ (p : 8 * l.at ≤ i). inr (omega arith)) out in
      rw (c.0, c.1)
      (ap (λ (xs : List ℕ). get_or xs i 0) (hidden_caught (shows_a w.core.phase) l w.screen)
      ∙ paint_out (ram_page l.page l.ram) l.flash from (l.at - from) (hidden_picture w.core w.screen) i out')

  -- Every other operation leaves both pictures as they were.
  pub pictures_alone : (o : Op) (w : World) → ((h : Stall) (n : ℕ) → o ≡ step h n → ⊥) → (does m o w).screen ≡ w.screen
  unfolding in_screen
  pictures_alone (step k n) w h = absurd (h k n refl)
  pictures_alone (colour k) w h = refl
  pictures_alone (silent o) w h = refl

  -- ---- THE DRAWING ON THE WALL: "past its right end a short tail .. One build of our handheld painted the tail into the frame just finished."

  shown_by : (n : ℕ) (w : World) → closes m n w.core ≡ false
      → shown_picture (does m (tick n) w).core (does m (tick n) w).screen ≡ shown_picture w.core w.screen
  shown_by n w e =
      rw (core_goes m n w.core e, screen_goes m n w.core w.screen e)
      (shown_caught (shows_a w.core.phase) (look_at m (w.core.clock + n) w.core) w.screen)

  op_shown : (o : Op) (w : World) → closed_by m o w.core ≡ false
      → shown_picture (does m o w).core (does m o w).screen ≡ shown_picture w.core w.screen
  unfolding closed_by in_core in_screen
  op_shown (step h n) w e = shown_by (lasts h n) w e
  op_shown (colour k) w e = refl
  op_shown (silent o) w e = refl

  -- operations that close no frame leave the shown picture alone
  pub finished_stays : (os : List Op) (w : World) → closings m os w.core ≡ 0
      → shown_picture (world_after m os w).core (world_after m os w).screen ≡ shown_picture w.core w.screen
  unfolding world_after closings
  finished_stays [] w e = refl
  finished_stays (o ∷ os) w e =
      let z = none_closed (closed_by m o w.core) (closings m os (in_core m o w.core)) e in
      finished_stays os (does m o w) z.1 ∙ op_shown o w z.0

  -- The picture just finished, after the whole of a call that closes a frame: what was hidden right before the closing step, with the rest of
  -- its blocks painted from the bytes, shown page and flash held then. Neither the clocks left over of that step nor anything that the
  -- call does after it stands on the right-hand side.
  pub record Wall (os : List Op) (w : World) : Type 0 where
    pub before : List Op
    pub hold : Stall
    pub n : ℕ
    pub rest : List Op
    pub parts : os ≡ before ++ step hold n ∷ rest
    pub closes_here : (specs_of m).frame ≤ (world_after m before w).core.clock + lasts hold n
    pub finished : shown_picture (world_after m os w).core (world_after m os w).screen
        ≡ completed m (world_after m before w).core (world_after m before w).screen.painted
        (hidden_picture (world_after m before w).core (world_after m before w).screen)

  wall_here : (o : Op) (os : List Op) (w : World) → closed_by m o w.core ≡ true → closings m os (in_core m o w.core) ≡ 0 → Wall (o ∷ os) w
  unfolding world_after closed_by in_core in_screen in_edge
  wall_here (step k n) os w e z =
      let h = closes_at m (lasts k n) w.core e in
      record {
        before = [];
        hold = k;
        n = n;
        rest = os;
        parts = refl;
        closes_here = h;
        finished = finished_stays os (does m (step k n) w) z ∙ closing_shows m (lasts k n) w h;
      }
  wall_here (colour k) os w e z = absurd (false≢true e)
  wall_here (silent o) os w e z = absurd (false≢true e)

  wall_later : (o : Op) (os : List Op) (w : World) → Wall os (does m o w) → Wall (o ∷ os) w
  unfolding world_after
  wall_later o os w r =
      record {
        before = o ∷ r.before;
        hold = r.hold;
        n = r.n;
        rest = r.rest;
        parts = ap (λ (xs : List Op). o ∷ xs) r.parts;
        closes_here = r.closes_here;
        finished = r.finished;
      }

  wall_by : (o : Op) (os : List Op) (w : World) (b : Bool) → closed_by m o w.core ≡ b → count b + closings m os (in_core m o w.core) ≡ 1
      → (closings m os (in_core m o w.core) ≡ 1 → Wall os (does m o w)) → Wall (o ∷ os) w
  wall_by o os w true e h f = wall_here o os w e (omega arith)
  wall_by o os w false e h f = wall_later o os w (f (omega arith))

  pub wall : (os : List Op) (w : World) → closings m os w.core ≡ 1 → Wall os w
  unfolding closings
  wall [] w h = absurd (omega arith)
  wall (o ∷ os) w h = wall_by o os w (closed_by m o w.core) refl h (wall os (does m o w))

-- ---- a call of a history

small_front : (os ps : List Op) → AllSmall (os ++ ps) → AllSmall os
small_front [] ps h = tt
small_front (o ∷ os) ps h = (h.0, small_front os ps h.1)

-- THE HISTORY OF SOME CALLS AND THEN OTHERS goes on from the history of the first.
pub history_append : (m : ZXMachine) (w : World) (cs ds : List Made) → history m w (cs ++ ds) ≡ history_from m ds (history m w cs)
unfolding history_from
history_append m w cs ds = from cs _
  where
    from : (cs : List Made) (h : History) → history_from m (cs ++ ds) h ≡ history_from m ds (history_from m cs h)
    from [] h = refl
    from (c ∷ cs) h = from cs (gone_on m c h)

module _ (m : ZXMachine) (w : World) (fresh : Fresh m w) (cs : List Made) (obeyed : Obeyed cs (lent_by m w)) (typed : AllTyped cs) (again : NoSecondStart cs)
    (c : Made) (made : c.result ≡ performed c.call (lent_of c.lending (bytes_after m w cs).slices)) (t : Typed c.call) (no : NotStarted c.call c.result.code) where
  abbrev world : World
  world = (history m w cs).world

  here : Tied m c (operations m c world.core) world
  here =
      let i = history_stands m w fresh cs obeyed typed again in
      tied m world i.sound i.sized c (made ∙ ap (λ (l : Lent). performed c.call (lent_of c.lending l)) i.slices) t no

  -- THE WALL of a call that says in its answer that it closed a frame.
  pub wall_of_call : reported_closed c ≡ 1 → Wall m (operations m c world.core) world
  wall_of_call e = wall m (operations m c world.core) world (sym here.closed ∙ e)

  -- All that a history keeps stands at any point within the call too, where the operations `before` are done and `rest` is still to do.
  pub within_call : (before rest : List Op) → operations m c world.core ≡ before ++ rest
      → Inv m w.edge.colour ((bytes_after m w cs).clocks + clocks_in before) ((bytes_after m w cs).blocks + blocks_in m before world)
      ((bytes_after m w cs).closed + closings m before world.core) (world_after m before world)
      (follow m before world.core (history m w cs).log) (film m before world (history m w cs).shots)
  within_call before rest parts =
      ops_kept m w.edge.colour before _ _ _ world (history m w cs).log (history m w cs).shots
      (small_front before rest (subst AllSmall parts here.small)) (history_stands m w fresh cs obeyed typed again).inv

  -- "and it changes no other byte of a picture": so each step of the call leaves of the hidden picture what is not of the blocks that it paints.
  pub others_alone : (before rest : List Op) (h : Stall) (n : ℕ) → operations m c world.core ≡ before ++ step h n ∷ rest
      → (i : ℕ) → Leaves m (lasts h n) (world_after m before world) i
  others_alone before rest h n parts =
      let v = world_after m before world in
      let p = (within_call before (step h n ∷ rest) parts).pictures in
      leaves_by m (lasts h n) v
      (omega (arith, p.so_far, blocks_mono (specs_of m) (regular m).wide v.core.clock (v.core.clock + lasts h n) (omega arith)))

-- AND AFTER ANY LATER CALLS STILL, until the next closing: calls none of which reports a closed frame leave the completed frames what they were, so that by
-- `demand3` the part that ulb_shown_picture names holds the same picture.
pub newest_until : (m : ZXMachine) (w : World) → Fresh m w → (cs ds : List Made) → Obeyed cs (lent_by m w) → AllTyped cs → NoSecondStart cs
    → Obeyed ds (bytes_after m w cs).slices → AllTyped ds → NoSecondStart ds → Each (λ c. reported_closed c ≡ 0) ds
    → (history m w (cs ++ ds)).log.done ≡ (history m w cs).log.done
newest_until m w fresh cs ds obeyed typed again obeyed' typed' again' none =
    ap (λ (h : History). h.log.done) (history_append m w cs ds)
    ∙ stays_from m w.edge.colour ds (history m w cs) (bytes_after m w cs) obeyed' typed' again' (history_stands m w fresh cs obeyed typed again) none
