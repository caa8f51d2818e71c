-- DEMAND 3 OF THE MISSION, proved: "Take any calls after a start, refused ones among them, with no second start, and our buffers each lent
-- only in its own place and handed back untouched between calls." `demand3` below says of every such list of calls, on either machine, what
-- specs/Demand.antt sets out sentence by sentence.
-- Assumes nothing.
use Prim.Native.Nat.{ℕ, ◌+◌, ◌*◌}
use mathlib.Core.Bool.{Bool, true, false, cond}
use mathlib.Core.List.{List, [], ◌∷◌, ◌++◌}
use mathlib.Core.Path.{◌≡◌, refl, sym, ◌∙◌, ap, subst}
use native.Mathlib.Omega.{arith}
use lib.Dec.{eqb}
use lib.ListN.{length, get_or, drop}
use Rattle.laws.proofs.Cases.{by_lt}
use Rattle.machine.specs.declared.ZXMachine.{ZXMachine}
use Rattle.memory.specs.Paging.{write7ffd}
use Rattle.memory.specs.Memory.{place_of}
use Rattle.ports.specs.Devices.{devices_of}
use Rattle.bus.specs.World.{Core, World, Sized}
use Rattle.bus.specs.Time.{world_after}
use Rattle.bus.specs.Turns.{Part}
use Rattle.bus.proofs.Kept.{SoundWorld}
use Rattle.contracts.specs.Timed.{Lent, lent_by}
use Rattle.contracts.specs.Plain.{shown_told}
use Rattle.contracts.specs.Calls.{plain, mreq, no_mreq, port_in, port_out, Call, start_again, take_time, write_byte, write_paging, reset_passed, load_ram, load_screen, ask, ops_of, performed, lent_of, Made, buffers_after, Obeyed, Each, NotStarted, NoSecondStart}
use Rattle.contracts.proofs.Ranges.{Typed, AllTyped}
use Rattle.history.specs.Log.{follow, drawn, newest, older, Ended}
use Rattle.history.specs.Fresh.{Fresh}
use Rattle.history.specs.Reports.{reported_closed, Sums, counted, summed, PortTakes}
use Rattle.history.specs.Demand.{operations, History, gone_on, history_from, at_start, history, bytes_after, last_closed, Names, painted_to, Demand3}
use Rattle.history.proofs.Operations.{closings, AllSmall, Inv, ops_kept}
use Rattle.history.proofs.Fresh.{fresh_kept, fresh_sized}
use Rattle.history.proofs.Counts.{AllSilent, silent_clocks, poke_silent, paged_silent}
use Rattle.history.proofs.Ends.{LeavesBorder, plain_leaves, address_leaves, short_leaves, read_leaves, write_leaves, call_ended, done_stays}
use Rattle.history.proofs.Named.{shown_named}
use Rattle.history.proofs.Tied.{tied, port_takes}

-- what stands after any calls: the bytes are the history's world, which is sound and has its lengths, and demand 3 is kept
pub record Standing (m : ZXMachine) (first : ℕ) (h : History) (s : Sums) : Type 0 where
  pub slices : s.slices ≡ lent_by m h.world
  pub sound : SoundWorld m h.world
  pub sized : Sized m h.world
  pub inv : Inv m first s.clocks s.blocks s.closed h.world h.log h.shots

module _ (m : ZXMachine) (first : ℕ) where
  -- one call more
  pub call_stands : (c : Made) (h : History) (s : Sums) → c.result ≡ performed c.call (lent_of c.lending s.slices) → Typed c.call
      → NotStarted c.call c.result.code → Standing m first h s → Standing m first (gone_on m c h) (counted c s)
  unfolding gone_on
  call_stands c h s e typed again i =
      let e' : c.result ≡ performed c.call (lent_of c.lending (lent_by m h.world)) =
      e ∙ ap (λ (l : Lent). performed c.call (lent_of c.lending l)) i.slices in
      let k = tied m h.world i.sound i.sized c e' typed again in
      let os = operations m c h.world.core in
      record {
        slices = ap (buffers_after c) i.slices ∙ k.slices;
        sound = k.sound;
        sized = k.sized;
        inv =
            rw (k.clocks, k.blocks, k.closed)
            (ops_kept m first os s.clocks s.blocks s.closed h.world h.log h.shots k.small i.inv);
      }

  -- any calls
  pub calls_stand : (cs : List Made) (h : History) (s : Sums) → Obeyed cs s.slices → AllTyped cs → NoSecondStart cs → Standing m first h s
      → Standing m first (history_from m cs h) (summed cs s)
  unfolding history_from summed
  calls_stand [] h s obeyed typed again i = i
  calls_stand (c ∷ cs) h s obeyed typed again i =
      calls_stand cs (gone_on m c h) (counted c s) obeyed.1 typed.1 again.1 (call_stands c h s obeyed.0 typed.0 again.0 i)

  -- what holds of each call on a sound machine of the right lengths holds of each call of a history
  pub each_stands : (P : Made → Type 0)
      → ((c : Made) (w : World) → SoundWorld m w → Sized m w → c.result ≡ performed c.call (lent_of c.lending (lent_by m w)) → Typed c.call
      → NotStarted c.call c.result.code → P c)
      → (cs : List Made) (h : History) (s : Sums) → Obeyed cs s.slices → AllTyped cs → NoSecondStart cs → Standing m first h s → Each P cs
  each_stands P f [] h s obeyed typed again i = tt
  each_stands P f (c ∷ cs) h s obeyed typed again i = (
    f c h.world i.sound i.sized (obeyed.0 ∙ ap (λ (l : Lent). performed c.call (lent_of c.lending l)) i.slices) typed.0 again.0,
    each_stands P f cs (gone_on m c h) (counted c s) obeyed.1 typed.1 again.1 (call_stands c h s obeyed.0 typed.0 again.0 i),
  )

  -- ---- the end of a call

  -- A call that closes a frame leaves the next one's border alone.
  silent_leaves : (f : Part) → ((c : Core) → AllSilent (f c)) → LeavesBorder m f
  silent_leaves f s = short_leaves m f (λ c. omega (arith, silent_clocks (f c) (s c)))

  leaves : (k : Call) → LeavesBorder m (ops_of m k)
  unfolding ops_of
  leaves (start_again how) = silent_leaves (ops_of m (start_again how)) (λ c. tt)
  leaves (take_time (plain n) answer) = plain_leaves m n
  leaves (take_time (mreq addr n) answer) = address_leaves m addr n
  leaves (take_time (no_mreq addr n) answer) = address_leaves m addr n
  leaves (take_time (port_in devices port) answer) = read_leaves m port
  leaves (take_time (port_out devices port value) answer) = write_leaves m (devices_of devices) port value
  leaves (write_byte addr value) = silent_leaves (ops_of m (write_byte addr value)) (λ c. poke_silent (place_of m c.paging addr) value)
  leaves (write_paging value answer) = silent_leaves (ops_of m (write_paging value answer)) (λ c. paged_silent (write7ffd m c.paging value))
  leaves reset_passed = silent_leaves (ops_of m reset_passed) (λ c. tt)
  leaves (load_ram bytes page) = silent_leaves (ops_of m (load_ram bytes page)) (λ c. tt)
  leaves (load_screen file page) = silent_leaves (ops_of m (load_screen file page)) (λ c. tt)
  leaves (ask q out) = silent_leaves (ops_of m (ask q out)) (λ c. tt)

  ends_by : (k : Call) (b : Bool) (h : History) (T B F : ℕ) → Inv m first T B F h.world h.log h.shots
      → let os = cond b (ops_of m k h.world.core) [] in
      AllSmall os → closings m os h.world.core ≡ 1 → Ended (world_after m os h.world) (follow m os h.world.core h.log).done
  unfolding closings
  ends_by k true h T B F i small one = call_ended m first T B F h.world h.log h.shots i (ops_of m k) (leaves k) small (omega arith)
  ends_by k false h T B F i small one = absurd (omega arith)

  call_ends : (c : Made) (h : History) (s : Sums) → c.result ≡ performed c.call (lent_of c.lending s.slices) → Typed c.call
      → NotStarted c.call c.result.code → Standing m first h s → reported_closed c ≡ 1 → Ended (gone_on m c h).world (gone_on m c h).log.done
  unfolding gone_on
  call_ends c h s e typed again i one =
      let k = tied m h.world i.sound i.sized c (e ∙ ap (λ (l : Lent). performed c.call (lent_of c.lending l)) i.slices) typed again in
      ends_by c.call (eqb c.result.code 0) h s.clocks s.blocks s.closed i.inv k.small (sym k.closed ∙ one)

  calls_end : (cs : List Made) (h : History) (s : Sums) → Obeyed cs s.slices → AllTyped cs → NoSecondStart cs → Standing m first h s → last_closed cs ≡ 1
      → Ended (history_from m cs h).world (history_from m cs h).log.done
  unfolding history_from
  calls_end [] h s obeyed typed again i one = absurd (omega arith)
  calls_end (c ∷ []) h s obeyed typed again i one = call_ends c h s obeyed.0 typed.0 again.0 i one
  calls_end (c ∷ d ∷ cs) h s obeyed typed again i one =
      calls_end (d ∷ cs) (gone_on m c h) (counted c s) obeyed.1 typed.1 again.1 (call_stands c h s obeyed.0 typed.0 again.0 i) one

  -- A CALL THAT REPORTS NO CLOSED FRAME completes none, and nor do many.
  call_open : (c : Made) (h : History) (s : Sums) → c.result ≡ performed c.call (lent_of c.lending s.slices) → Typed c.call
      → NotStarted c.call c.result.code → Standing m first h s → reported_closed c ≡ 0 → (gone_on m c h).log.done ≡ h.log.done
  unfolding gone_on
  call_open c h s e typed again i none =
      let k = tied m h.world i.sound i.sized c (e ∙ ap (λ (l : Lent). performed c.call (lent_of c.lending l)) i.slices) typed again in
      (done_stays m (operations m c h.world.core) h.world h.log h.shots (sym k.closed ∙ none)).0

  pub stays_from : (cs : List Made) (h : History) (s : Sums) → Obeyed cs s.slices → AllTyped cs → NoSecondStart cs → Standing m first h s
      → Each (λ c. reported_closed c ≡ 0) cs → (history_from m cs h).log.done ≡ h.log.done
  unfolding history_from
  stays_from [] h s obeyed typed again i none = refl
  stays_from (c ∷ cs) h s obeyed typed again i none =
      stays_from cs (gone_on m c h) (counted c s) obeyed.1 typed.1 again.1 (call_stands c h s obeyed.0 typed.0 again.0 i) none.1
      ∙ call_open c h s obeyed.0 typed.0 again.0 i none.0

-- ---- FROM ANY FRESH WORLD
module _ (m : ZXMachine) (w : World) (fresh : Fresh m w) where
  pub fresh_stands : Standing m w.edge.colour (at_start w) (bytes_after m w [])
  unfolding summed
  fresh_stands = record { slices = refl; sound = fresh.sound; sized = fresh_sized m w fresh; inv = fresh_kept m w fresh }

  module _ (cs : List Made) (obeyed : Obeyed cs (lent_by m w)) (typed : AllTyped cs) (again : NoSecondStart cs) where
    pub history_stands : Standing m w.edge.colour (history m w cs) (bytes_after m w cs)
    unfolding summed
    history_stands = calls_stand m w.edge.colour cs (at_start w) _ obeyed typed again fresh_stands

    pub each_call : (P : Made → Type 0)
        → ((c : Made) (v : World) → SoundWorld m v → Sized m v → c.result ≡ performed c.call (lent_of c.lending (lent_by m v)) → Typed c.call
        → NotStarted c.call c.result.code → P c) → Each P cs
    unfolding summed
    each_call P f = each_stands m w.edge.colour P f cs (at_start w) (bytes_after m w []) obeyed typed again fresh_stands

    -- DEMAND 3, of any calls on a machine that begins fresh.
    pub demand3 : Demand3 m w cs (history m w cs) (bytes_after m w cs)
    unfolding summed
    demand3 =
        let h = history m w cs in
        let i = history_stands in
        let time = i.inv.time in
        let pictures = i.inv.pictures in
        let edge = h.world.edge in
        record {
          slices = i.slices;
          closed = time.frames;
          clocks = time.sum;
          blocks = pictures.sum ∙ ap (λ (n : ℕ). length h.log.done * 6144 + n) pictures.at_last;
          frames = i.inv.frames;
          colours = i.inv.colours;
          ended = calls_end m w.edge.colour cs (at_start w) (bytes_after m w []) obeyed typed again fresh_stands;
          named = λ answer five.
              subst (λ (l : Lent). Names (shown_told l.state l.a l.b answer) (l.a ++ l.b) (newest h.log.done)) (sym i.slices)
              (subst (λ (picture : List ℕ). Names (shown_told (lent_by m h.world).state h.world.screen.a h.world.screen.b answer) (h.world.screen.a ++ h.world.screen.b) picture) pictures.shown_is (shown_named m h.world i.sound i.sized answer five));
          shown = pictures.shown_is;
          hidden =
              pictures.hidden_is
              ∙ ap (λ (n : ℕ). drawn h.log.current.sights ++ drop (8 * n) (older h.log.done)) pictures.at_last;
          border = λ pixel p.
              by_lt (λ (x : ℕ). get_or edge.pixels pixel 0 ≡ x) pixel (painted_to edge) (λ q. i.inv.border.filled_is pixel q)
              (λ q. i.inv.border.rest pixel q p);
          ports = each_call (λ c. PortTakes c.call c) (λ c v sound sized e t f. port_takes m v sound sized c e t f);
        }
