-- A FILE READ MID-FRAME SHOWS FROM THE NEXT CATCH-UP ON: blocks reached before keep the old bytes, blocks reached after have the file's. A load of a screen
-- file is one store of bytes among a history's operations and sees nothing; so every catch-up after it sees the file, as long as its bytes stay.
-- Assumes nothing.
use Prim.Native.Nat.{ℕ, zero, suc, ◌+◌, ◌≤◌, ◌<◌}
use mathlib.Core.Bool.{Bool, true, false, cond}
use mathlib.Core.Logic.{◌⊎◌, inl, inr, ⊎_elim}
use mathlib.Core.List.{List, [], ◌∷◌, ◌++◌}
use mathlib.Core.Path.{◌≡◌, refl, sym, ◌∙◌, ap, subst}
use native.Mathlib.Omega.{arith}
use native.Mathlib.Nat.{add-zero}
use lib.Dec.{eqb}
use lib.ListN.{length, get_or}
use borrow.Author.Tests.{eqb-true, lt-ltb, le-leb, lt-leb}
use Rattle.laws.proofs.Cases.{by_bool, split}
use Rattle.machine.specs.declared.ZXMachine.{ZXMachine}
use Rattle.memory.specs.Paging.{write7ffd}
use Rattle.memory.specs.Memory.{place_of, ram_page, loaded}
use Rattle.memory.proofs.Screens.{file_bytes}
use Rattle.paint.specs.Paint.{block_at}
use Rattle.paint.proofs.Fronts.{front_block}
use Rattle.bus.specs.World.{Core, World, Sized}
use Rattle.bus.specs.Time.{lasts, Op, step, colour, silent, closes, in_core, world_after}
use Rattle.bus.specs.Pokes.{page_load}
use Rattle.bus.proofs.TimedCalls.{AllInCall, op_ram}
use Rattle.bus.proofs.Kept.{SoundWorld}
use Rattle.contracts.specs.Timed.{Lent, lent_by}
use Rattle.contracts.specs.Plain.{Changed}
use Rattle.contracts.specs.Calls.{Call, start_again, take_time, write_byte, write_paging, reset_passed, load_ram, load_screen, ask, Result, ops_of, performed, lent_of, Made, Obeyed, NotStarted, NoSecondStart}
use Rattle.contracts.proofs.Ranges.{Typed, AllTyped}
use Rattle.contracts.proofs.Calls.{call_numbered}
use Rattle.contracts.proofs.Acts.{part_timed}
use Rattle.contracts.proofs.AsWhole.{as_whole}
use Rattle.contracts.proofs.Screens.{loaded_is, file_there}
use Rattle.history.specs.Log.{Sight, sight_at, Frame, Log, Shot, last_at, reaching, block_by, noted, follow, Rising, Shows}
use Rattle.history.specs.Fresh.{Fresh}
use Rattle.history.specs.Reports.{Sums, counted, summed}
use Rattle.history.specs.Demand.{operations, History, gone_on, history_from, at_start, history, bytes_after}
use Rattle.history.specs.Files.{file_in, FileStays, seen_before, FileShows}
use Rattle.history.proofs.Counts.{AllSilent, poke_silent, paged_silent}
use Rattle.history.proofs.Demand3.{Standing, call_stands, calls_stand, fresh_stands}
use Rattle.history.proofs.Sentences.{no_frame, no_shot, each_shows, history_append}

-- ---- catch-ups, and others after them
abbrev All : (Sight → Type 0) → List Sight → Type 0
All P [] = Unit {0}
All P (s ∷ ss) = P s × All P ss

-- the first of them are `before`, and of each one after these P holds
abbrev After : (Sight → Type 0) → List Sight → List Sight → Type 0
After P before ss = (new : List Sight) × (ss ≡ new ++ before) × All P new

-- positions rise
last_rises : (new before : List Sight) → Rising (new ++ before) → last_at before ≤ last_at (new ++ before)
last_rises [] before r = omega arith
last_rises (s ∷ new) before r = omega (arith, r.0, last_rises new before r.1)

-- a block reached before is reached by the same catch-up still
reached_before_lem : (new before : List Sight) → Rising (new ++ before) → (k : ℕ) → k < last_at before → reaching k (new ++ before) ≡ reaching k before
unfolding reaching
reached_before_lem [] before r k h = refl
reached_before_lem (s ∷ new) before r k h =
    rw (lt-leb (last_at (new ++ before)) k (omega (arith, last_rises new before r.1))) (reached_before_lem new before r.1 k h)

-- one that was not is reached by a later one
reached_after_lem : (P : Sight → Type 0) (new before : List Sight) → All P new → (k : ℕ) → last_at before ≤ k → k < last_at (new ++ before) → P (reaching k (new ++ before))
unfolding reaching
reached_after_lem P [] before a k h l = absurd (omega arith)
reached_after_lem P (s ∷ new) before a k h l =
    split (last_at (new ++ before)) k
    (λ p. rw (le-leb (last_at (new ++ before)) k p, lt-ltb k s.at l) a.0)
    (λ p. rw (lt-leb (last_at (new ++ before)) k p) (reached_after_lem P new before a.1 k h p))

-- ---- the log since the file was read: P is what holds of each catch-up since, `before` what the frame under way had seen, `old` the frames completed then
module _ (P : Sight → Type 0) (before : List Sight) (old : List Frame) where
  AllSince : ℕ → List Frame → Type 0
  AllSince zero fs = fs ≡ old
  AllSince (suc age) [] = ⊥
  AllSince (suc age) (f ∷ fs) = After P (seen_before age before) f.sights × AllSince age fs

  record Since (l : Log) : Type 0 where
    age : ℕ
    current : After P (seen_before age before) l.current.sights
    done : AllSince age l.done

  -- one operation of a timed call, where a catch-up of it would see what P asks
  since_op : (m : ZXMachine) (o : Op) (c : Core) (l : Log) → ((clock : ℕ) → P (sight_at m clock c)) → Since l → Since (noted m o c l)
  unfolding noted AllSince
  since_op m (step h n) c l p s =
      let s' = s.current in
      let more : After P (seen_before s.age before) (sight_at m (c.clock + lasts h n) c ∷ l.current.sights) =
      (sight_at m (c.clock + lasts h n) c ∷ s'.0, ap (λ (ss : List Sight). sight_at m (c.clock + lasts h n) c ∷ ss) s'.1, (p (c.clock + lasts h n), s'.2)) in
      by_bool Since (closes m (lasts h n) c)
      (λ _. record { age = suc s.age; current = ([], refl, tt); done = (more, s.done) })
      (λ _. record { age = s.age; current = more; done = s.done })
  since_op m (colour k) c l p s = record { age = s.age; current = s.current; done = s.done }
  since_op m (silent o) c l p s = s

  -- frame j, of the frames completed since that of `age`
  at_age : (n : ℕ) (fs : List Frame) → AllSince n fs → (j age : ℕ) → n ≡ suc (j + age) → After P (seen_before age before) (get_or fs j no_frame).sights
  unfolding AllSince
  at_age zero fs h j age e = absurd (omega arith)
  at_age (suc n) [] h j age e = absurd h
  at_age (suc n) (f ∷ fs) h zero age e = let same : n ≡ age = omega arith in subst (λ (a : ℕ). After P (seen_before a before) f.sights) same h.0
  at_age (suc n) (f ∷ fs) h (suc j) age e = at_age n fs h.1 j age (omega arith)

  since_long : (n : ℕ) (fs : List Frame) → AllSince n fs → length fs ≡ length old + n
  unfolding AllSince
  since_long zero fs h = ap length h ∙ sym (add-zero (length old))
  since_long (suc n) [] h = absurd h
  since_long (suc n) (f ∷ fs) h = omega (arith, since_long n fs h.1)

-- operations that take no time see nothing
silent_log : (m : ZXMachine) (os : List Op) (c : Core) (l : Log) → AllSilent os → follow m os c l ≡ l
unfolding follow noted
silent_log m [] c l s = refl
silent_log m (step h n ∷ os) c l s = absurd s
silent_log m (colour k ∷ os) c l s = absurd s
silent_log m (silent o ∷ os) c l s = silent_log m os (in_core m (silent o) c) l s

module _ (m : ZXMachine) where
  -- the operations of an accepted call are those of a timed call, which store nothing, or take no time
  either : (w : World) (sound : SoundWorld m w) (sized : Sized m w) (k : Call) → NotStarted k 0 → Typed k → (performed k (lent_by m w)).code ≡ 0
      → AllInCall m (ops_of m k w.core) ⊎ AllSilent (ops_of m k w.core)
  unfolding ops_of
  either w sound sized (start_again how) first typed z = absurd (first refl)
  either w sound sized (take_time t answer) first typed z =
      inl ((part_timed m w sound sized t answer ((call_numbered (take_time t answer) (lent_by m w)).zero_by_none z) typed).in_call w.core)
  either w sound sized (write_byte addr value) first typed z = inr (poke_silent (place_of m w.core.paging addr) value)
  either w sound sized (write_paging value answer) first typed z = inr (paged_silent (write7ffd m w.core.paging value))
  either w sound sized reset_passed first typed z = inr tt
  either w sound sized (load_ram bytes page) first typed z = inr tt
  either w sound sized (load_screen file page) first typed z = inr tt
  either w sound sized (ask q out) first typed z = inr tt

  -- an accepted call of a history is accepted on the whole buffers
  accepted_whole : (first : ℕ) (c : Made) (h : History) (s : Sums) → c.result ≡ performed c.call (lent_of c.lending s.slices) → Typed c.call
      → NotStarted c.call c.result.code → Standing m first h s → c.result.code ≡ 0 → (performed c.call (lent_by m h.world)).code ≡ 0
  accepted_whole first c h s made typed again i z =
      let same : c.result ≡ performed c.call (lent_of c.lending (lent_by m h.world)) = made ∙ ap (λ (l : Lent). performed c.call (lent_of c.lending l)) i.slices in
      let code = ap (λ (r : Result). r.code) (sym same) ∙ z in
      ap (λ (r : Result). r.code) (sym (as_whole m h.world i.sound i.sized c.lending c.call (subst (NotStarted c.call) z again) typed code)) ∙ code

  -- ---- the calls since the file was read
  module _ (first : ℕ) (file : List ℕ) (page : ℕ) (before : List Sight) (old : List Frame) where
    abbrev SeesFile : Sight → Type 0
    SeesFile s = file_in page s.ram ≡ file

    abbrev SinceFile : Log → Type 0
    SinceFile l = Since SeesFile before old l

    since_ops : (os : List Op) (c : Core) (l : Log) → AllInCall m os → file_in page c.ram ≡ file → SinceFile l → SinceFile (follow m os c l)
    unfolding follow
    since_ops [] c l i e s = s
    since_ops (o ∷ os) c l i e s =
        since_ops os (in_core m o c) (noted m o c l) i.1 (ap (file_in page) (op_ram m o c i.0) ∙ e) (since_op SeesFile before old m o c l (λ clock. e) s)

    since_call : (c : Made) (h : History) (s : Sums) → c.result ≡ performed c.call (lent_of c.lending s.slices) → Typed c.call
        → NotStarted c.call c.result.code → Standing m first h s → file_in page h.world.core.ram ≡ file → SinceFile h.log → SinceFile (gone_on m c h).log
    unfolding gone_on follow
    since_call c h s made typed again i e since = by (eqb c.result.code 0) refl where
      w : World
      w = h.world

      by : (b : Bool) → eqb c.result.code 0 ≡ b → SinceFile (follow m (cond b (ops_of m c.call w.core) []) w.core h.log)
      by false f = since
      by true f =
          let z = eqb-true c.result.code 0 f in
          ⊎_elim
          (λ (a : AllInCall m (ops_of m c.call w.core)). since_ops (ops_of m c.call w.core) w.core h.log a e since)
          (λ (a : AllSilent (ops_of m c.call w.core)). subst SinceFile (sym (silent_log m (ops_of m c.call w.core) w.core h.log a)) since)
          (either w i.sound i.sized c.call (subst (NotStarted c.call) z again) typed (accepted_whole first c h s made typed again i z))

    since_calls : (cs : List Made) (h : History) (s : Sums) → Obeyed cs s.slices → AllTyped cs → NoSecondStart cs → Standing m first h s → FileStays m page cs h
        → file_in page h.world.core.ram ≡ file → SinceFile h.log → SinceFile (history_from m cs h).log
    unfolding history_from
    since_calls [] h s obeyed typed again i stays e since = since
    since_calls (c ∷ cs) h s obeyed typed again i stays e since =
        since_calls cs (gone_on m c h) (counted c s) obeyed.1 typed.1 again.1 (call_stands m first c h s obeyed.0 typed.0 again.0 i) stays.1
        (stays.0 ∙ e) (since_call c h s obeyed.0 typed.0 again.0 i e since)

    -- a frame completed since, by what it shows and what it saw
    frame_shows : (s : Shot) (f : Frame) (seen : List Sight) → Shows s f → After SeesFile seen f.sights → FileShows file page seen s f
    frame_shows s f seen shows a =
        let new = a.0 in
        let same : f.sights ≡ new ++ seen = a.1 in
        let rising : Rising (new ++ seen) = subst Rising same shows.rising in
        let whole : last_at (new ++ seen) ≡ 6144 = ap last_at (sym same) ∙ shows.whole in
        record {
          reached_before = λ k h.
              shows.blocks k (omega (arith, last_rises new seen rising))
              ∙ ap (λ (ss : List Sight). block_by (reaching k ss) k) same ∙ ap (λ (x : Sight). block_by x k) (reached_before_lem new seen rising k h);
          reached_after = λ k h l onPage.
              let x = reaching k f.sights in
              let sees : SeesFile x = subst (λ (ss : List Sight). SeesFile (reaching k ss)) (sym same) (reached_after_lem SeesFile new seen a.2 k h (omega arith)) in
              shows.blocks k l
              ∙ ap (λ (p : ℕ). block_at (ram_page p x.ram) x.flash k) onPage
              ∙ front_block (ram_page page x.ram) file (file_bytes page x.ram file sees) x.flash k l;
        }

-- some calls and then others
stands_after : (m : ZXMachine) (first : ℕ) (cs ds : List Made) (h : History) (s : Sums) → Obeyed (cs ++ ds) s.slices → AllTyped (cs ++ ds) → NoSecondStart (cs ++ ds)
    → Standing m first h s
    → Standing m first (history_from m cs h) (summed cs s) × Obeyed ds (summed cs s).slices × AllTyped ds × NoSecondStart ds
unfolding history_from summed
stands_after m first [] ds h s obeyed typed again i = (i, obeyed, typed, again)
stands_after m first (c ∷ cs) ds h s obeyed typed again i =
    stands_after m first cs ds (gone_on m c h) (counted c s) obeyed.1 typed.1 again.1 (call_stands m first c h s obeyed.0 typed.0 again.0 i)

-- ---- A FILE IS READ, after any calls cs, and any calls ds that leave its bytes in place come after it.
module _ (m : ZXMachine) (w : World) (fresh : Fresh m w) (cs ds : List Made) (c : Made) (obeyed : Obeyed (cs ++ c ∷ ds) (lent_by m w)) (typed : AllTyped (cs ++ c ∷ ds))
    (again : NoSecondStart (cs ++ c ∷ ds)) (file : List ℕ) (page : ℕ) (reads : c.call ≡ load_screen file page) (accepted : c.result.code ≡ 0) where
  abbrev first : ℕ
  first = w.edge.colour

  -- the history up to the file, and behind it
  abbrev h : History
  h = history m w cs

  abbrev h' : History
  h' = gone_on m c h

  there : Standing m first h (bytes_after m w cs) × Obeyed (c ∷ ds) (bytes_after m w cs).slices × AllTyped (c ∷ ds) × NoSecondStart (c ∷ ds)
  unfolding summed
  there = stands_after m first cs (c ∷ ds) (at_start w) _ obeyed typed again (fresh_stands m w fresh)

  -- the file's bytes are in the page, and nothing was seen meanwhile
  ops_are : operations m c h.world.core ≡ page_load page file h.world.core
  unfolding ops_of
  ops_are = rw (accepted, reads)

  ram_is_lem : h'.world.core.ram ≡ loaded page file h.world.core.ram
  unfolding gone_on world_after in_core
  ram_is_lem = ap (λ (os : List Op). (world_after m os h.world).core.ram) ops_are

  log_is : h'.log ≡ h.log
  unfolding gone_on
  log_is = ap (λ (os : List Op). follow m os h.world.core h.log) ops_are ∙ silent_log m (page_load page file h.world.core) h.world.core h.log tt

  file_read : file_in page h'.world.core.ram ≡ file
  unfolding performed
  file_read =
      let z = accepted_whole m first c h (bytes_after m w cs) there.1.0 there.2.0 there.3.0 there.0 accepted in
      let code = subst (λ (k : Call). (performed k (lent_by m h.world)).code ≡ 0) reads z in
      let l = lent_by m h.world in
      ap (file_in page) ram_is_lem ∙ ap (λ (x : Changed). file_in page x.slice) (sym (loaded_is l.state l.ram file page code)) ∙ file_there l.state l.ram file page code

  abbrev before : List Sight
  before = h.log.current.sights

  starts : SinceFile m first file page before h.log.done h'.log
  unfolding AllSince
  starts = subst (SinceFile m first file page before h.log.done) (sym log_is) (record { age = 0; current = ([], refl, tt); done = refl })

  module _ (stays : FileStays m page ds h') where
    abbrev next : Standing m first h' (counted c (bytes_after m w cs))
    next = call_stands m first c h (bytes_after m w cs) there.1.0 there.2.0 there.3.0 there.0

    all_is : history m w (cs ++ c ∷ ds) ≡ history_from m ds h'
    unfolding history_from
    all_is = history_append m w cs (c ∷ ds)

    -- Completed frame j, 0 the newest, which is the one of `age` since the file: 0 the frame that was under way, 1 the next, and so on.
    pub file_shows : (j age : ℕ) → length (history m w (cs ++ c ∷ ds)).log.done ≡ length h.log.done + suc (j + age)
        → FileShows file page (seen_before age before) (get_or (history m w (cs ++ c ∷ ds)).shots j no_shot) (get_or (history m w (cs ++ c ∷ ds)).log.done j no_frame)
    file_shows j age e =
        let H = history_from m ds h' in
        let s = counted c (bytes_after m w cs) in
        let end = calls_stand m first ds h' s there.1.1 there.2.1 there.3.1 next in
        let since = since_calls m first file page before h.log.done ds h' s there.1.1 there.2.1 there.3.1 next stays file_read starts in
        let many = since_long (SeesFile m first file page before h.log.done) before h.log.done since.age H.log.done since.done in
        let e' : length H.log.done ≡ length h.log.done + suc (j + age) = ap (λ (x : History). length x.log.done) (sym all_is) ∙ e in
        let n : since.age ≡ suc (j + age) = omega arith in
        subst (λ (x : History). FileShows file page (seen_before age before) (get_or x.shots j no_shot) (get_or x.log.done j no_frame)) (sym all_is)
        (frame_shows m first file page before h.log.done _ _ (seen_before age before)
        (each_shows H.shots H.log.done end.inv.frames j (omega arith))
        (at_age (SeesFile m first file page before h.log.done) before h.log.done since.age H.log.done since.done j age n))
