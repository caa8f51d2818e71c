-- A 7FFD write, a byte written and a page loaded keep the two machines related, and none of them panics.
-- Assumes nothing.
use mathlib.Core.Path.{◌≡◌, refl, sym, ap, ◌∙◌, subst, subst⁻¹}
use mathlib.Core.Bool.{Bool, true, false, cond, not}
use mathlib.Core.List.{List, [], ◌∷◌}
use Prim.Native.Nat.{ℕ, zero, suc, ◌+◌, ◌-◌, ◌*◌, ◌/◌, ◌%◌, ◌<◌, ◌≤◌}
use native.Mathlib.Nat.{zero-add}
use native.Mathlib.Omega.{arith}
use lib.Dec.{eqb}
use lib.ListN.{length, get_or, set, drop, length-set, length-drop}
use lib.Seq.{length-sets, take-set-le, take-set-lt, drop-set-lt, drop-set-add, length-take-le}
use Rattle.laws.proofs.Cases.{by_bool, by_eq, split}
use Rattle.machine.specs.Numbers.{specs_of}
use Rattle.screen.proofs.OneBit.{mask_bit}
use Rattle.memory.specs.declared.Page as stored
use Rattle.memory.specs.declared.Page.TheVariants as page
use Rattle.memory.specs.declared.Paged.{Paged}
use Rattle.memory.specs.Paging as paging
use Rattle.memory.specs.Paging.{bit_set, memory_map, page_at, shown_page, page_exists, paged_code}
use Rattle.memory.specs.Memory.{place_in, place_of, poked_in, poked, ram_page, loaded}
use Rattle.memory.proofs.Places.{map_holds, exists_fits}
use Rattle.memory.proofs.Stored.{page_cut}
use Rattle.bus.specs.World.{Core, Screen, World}
use Rattle.bus.specs.Time.{store, paged, silent, in_core, in_screen, in_edge, does, world_after}
use Rattle.bus.specs.Calls.{paging_ops, paging_write}
use Rattle.rustzx.specs.Machine.{ZXMachine, Sinclair48K, Sinclair128K}
use Rattle.rustzx.specs.Panics.{OrPanic, done, Option, some, none, on_done, each, Ends}
use Rattle.rustzx.specs.Memory.{Page, Rom, Ram, ZXMemory, get_page, write}
use Rattle.rustzx.specs.Screen.{ScreenBank, ZXScreen, local_bank, with_active, switch_to, switch_bank, with_bank, update_in, update}
use Rattle.rustzx.specs.Controller.{ZXController, with_memory, with_paging, to_paging, Wrote, reaches, new_screen_bank, remapped, still_enabled, write7ffd, updated, write_internal, refresh_byte, refresh_page, refreshed, load_and_refresh}
use Rattle.rustzx.specs.Related.{our_machine, our_page, Mirrors, Mirrored, active_of, SameScreen, SameMemory, Related}
use Rattle.bus.specs.Pokes.{poking, byte_write}
use Rattle.rustzx.specs.Calls.{reached_code, paging_code}
use Rattle.rustzx.proofs.Loops.{each_last}
use Rattle.rustzx.proofs.Screens.{banks_screen}
use Rattle.rustzx.proofs.Pages.{page_is, write_is, remap_is, page_data_is, cut, load_is}
use Rattle.rustzx.proofs.Banks.{put, update_is, put_mirrors, put_all, all_mirrors}

-- ---- the 7FFD write
locked : (v : ℕ) (c : ZXController) → c.paging_enabled ≡ false → write7ffd v c ≡ done (reaches (to_paging false) c)
unfolding write7ffd
locked v c e = rw e

opened : (v : ℕ) (c : ZXController) (mem : ZXMemory) → c.paging_enabled ≡ true → remapped v c.memory ≡ done mem
    → write7ffd v c
    ≡ done (reaches (to_paging true) (with_paging mem (switch_bank c.machine (new_screen_bank v) c.screen) (still_enabled v c.paging_enabled) (new_screen_bank v) v c))
unfolding write7ffd
opened v c mem e f =
    let next : ZXMemory → OrPanic Wrote =
    λ x. done (reaches (to_paging true) (with_paging x (switch_bank c.machine (new_screen_bank v) c.screen) (still_enabled v c.paging_enabled) (new_screen_bank v) v c)) in
    ap (λ (t : Bool). cond (not t) (done (reaches (to_paging false) c)) (on_done (remapped v c.memory) next)) e ∙ ap (λ (r : OrPanic ZXMemory). on_done r next) f

turned : {A : Type 0} (t : Bool) (x y : A) → cond (not t) x y ≡ cond t y x
turned true x y = refl
turned false x y = refl

bank_is : (v : ℕ) → new_screen_bank v ≡ shown_page (our_machine Sinclair128K) v
bank_is v = rw (mask_bit 3 v) (turned (bit_set 3 v) 5 7)

lock_is : (v : ℕ) (t : Bool) → t ≡ true → still_enabled v t ≡ not (bit_set 5 v)
lock_is v t e = rw (mask_bit 5 v, e) (by_cases (bit_set 5 v)) where
  by_cases : (b : Bool) → cond (not (not b)) false true ≡ not b
  by_cases true = refl
  by_cases false = refl

switched : (t : Bool) (s : ZXScreen) → switch_to (local_bank Sinclair128K (cond t 7 5)) s ≡ with_active (cond t 1 0) s
switched true s = refl
switched false s = refl

switch_is : (v : ℕ) (s : ZXScreen) → switch_bank Sinclair128K (new_screen_bank v) s ≡ with_active (active_of Sinclair128K v) s
switch_is v s = ap (λ (b : ℕ). switch_to (local_bank Sinclair128K b) s) (bank_is v) ∙ switched (bit_set 3 v) s

module _ (rom : List ℕ) (c : ZXController) (w : World) (v : ℕ) (r : Related Sinclair128K rom c w) where
  repaged_screen : SameScreen Sinclair128K (switch_bank c.machine (new_screen_bank v) c.screen) (in_core (our_machine Sinclair128K) (silent (paged v)) w.core) w.screen
  unfolding in_core
  repaged_screen =
      rw (r.machine, switch_is v c.screen)
      (record {
        position = r.screen.position;
        columns = r.screen.columns;
        counter = r.screen.counter;
        flash = r.screen.flash;
        shown = r.screen.shown;
        hidden = r.screen.hidden;
        active = refl;
        mirrored = r.screen.mirrored;
      })

  taken : bit_set 5 w.core.paging ≡ false
      → Ends (write7ffd v c) (λ x. (reached_code x.reached ≡ 5) × Related Sinclair128K rom x.controller (does (our_machine Sinclair128K) (silent (paged v)) w))
  unfolding in_core in_screen in_edge
  taken e =
      let enabled : c.paging_enabled ≡ true = r.enabled ∙ ap not e in
      let next = remap_is rom w.core.ram w.core.paging v c.memory r.memory r.rom_long r.ram_long in
      record {
        value = _;
        ends = opened v c next.value enabled next.ends;
        holds = (
          refl,
          record {
            machine = r.machine;
            memory = next.holds;
            screen = repaged_screen;
            border = r.border;
            reported = r.reported;
            clock = r.clock;
            passed = r.passed;
            enabled = lock_is v c.paging_enabled enabled;
            bank = bank_is v;
            port = refl;
            ram_long = r.ram_long;
            rom_long = r.rom_long;
            in_step = record { phase = r.in_step.phase; painted = r.in_step.painted; at_end = r.in_step.at_end; no_pairs = r.in_step.no_pairs };
          },
        );
      }

-- write_7ffd does to the Rust what the 7FFD write's operations do to the world, nothing on 48K and where it is locked; and whether paging was
-- enabled gives the number that the 7FFD write answers.
pub paging_related : (m : ZXMachine) (rom : List ℕ) (c : ZXController) (w : World) (v : ℕ) → Related m rom c w
    → Ends (write7ffd v c) (λ x. (paging_code m x.reached ≡ paged_code (paging.write7ffd (our_machine m) w.core.paging v)) × Related m rom x.controller (world_after (our_machine m) (paging_write (our_machine m) v w.core) w))
unfolding paging.write7ffd world_after
paging_related Sinclair48K rom c w v r = record { value = reaches (to_paging false) c; ends = locked v c r.enabled; holds = (refl, r) }
paging_related Sinclair128K rom c w v r =
    by_bool (λ (p : Paged). Ends (write7ffd v c) (λ x. (reached_code x.reached ≡ paged_code p) × Related Sinclair128K rom x.controller (world_after (our_machine Sinclair128K) (paging_ops p) w))) (bit_set 5 w.core.paging)
    (λ e. record { value = reaches (to_paging false) c; ends = locked v c (r.enabled ∙ ap not e); holds = (refl, r) }) (λ e. taken rom c w v r e)

-- ---- one byte of RAM, seen by page
page_same : (p rel v : ℕ) (ram : List ℕ) → rel < 16384 → ram_page p (set ram (16384 * p + rel) v) ≡ set (ram_page p ram) rel v
page_same p rel v ram h = rw (drop-set-add (16384 * p) ram rel v) (take-set-lt 16384 (drop (16384 * p) ram) rel v h)

page_other : (p q rel v : ℕ) (ram : List ℕ) → rel < 16384 → (p ≡ q → ⊥) → ram_page q (set ram (16384 * p + rel) v) ≡ ram_page q ram
page_other p q rel v ram h ne =
    split p q
    (λ l. rw (drop-set-lt (16384 * q) ram (16384 * p + rel) v (omega arith)))
    (λ l. let e : 16384 * p + rel ≡ 16384 * q + (16384 * (p - q) + rel) = omega arith in
    rw (e, drop-set-add (16384 * q) ram (16384 * (p - q) + rel) v) (take-set-le 16384 (drop (16384 * q) ram) (16384 * (p - q) + rel) v (omega arith)))

page_long : (p : ℕ) (ram : List ℕ) → 16384 * p + 16384 ≤ length ram → length (ram_page p ram) ≡ 16384
page_long p ram h = length-take-le 16384 (drop (16384 * p) ram) (rw (length-drop (16384 * p) ram) (omega arith))

-- what an update does to a screen
abbrev bank_put : Option ℕ → ℕ → ℕ → ZXScreen → ZXScreen
bank_put (some b) rel v s = with_bank b (put rel v) s
bank_put none rel v s = s

update_any : (l : Option ℕ) (rel v : ℕ) (s : ZXScreen) → update_in l rel v s ≡ done (bank_put l rel v s)
update_any (some b) rel v s = update_is b rel v s
update_any none rel v s = refl

module _ (p rel v : ℕ) (s : ZXScreen) (ram : List ℕ) (h : rel < 16384) where
  own_page : (b : ScreenBank) → 16384 * p + 16384 ≤ length ram → Mirrors b (ram_page p ram) → Mirrors (put rel v b) (ram_page p (set ram (16384 * p + rel) v))
  own_page b f r = rw (page_same p rel v ram h) (put_mirrors rel v b (ram_page p ram) (omega (arith, page_long p ram f)) r)

  other_page : (q : ℕ) (b : ScreenBank) → (p ≡ q → ⊥) → Mirrors b (ram_page q ram) → Mirrors b (ram_page q (set ram (16384 * p + rel) v))
  other_page q b ne r = rw (page_other p q rel v ram h ne) r

-- the banks go on mirroring their pages when a byte of any page is stored
mirrored_put : (m : ZXMachine) (p rel v : ℕ) (s : ZXScreen) (ram : List ℕ) → rel < 16384 → 16384 * p + 16384 ≤ length ram
    → Mirrored m s.bank0 s.bank1 ram
    → Mirrored m (bank_put (local_bank m p) rel v s).bank0 (bank_put (local_bank m p) rel v s).bank1 (set ram (16384 * p + rel) v)
mirrored_put Sinclair48K p rel v s ram h f r =
    by_eq (λ (l : Option ℕ). Mirrors (bank_put l rel v s).bank0 (ram_page 0 (set ram (16384 * p + rel) v))) p 0
    (λ e. subst (λ (q : ℕ). Mirrors (put rel v s.bank0) (ram_page q (set ram (16384 * p + rel) v))) e
    (own_page p rel v s ram h s.bank0 f (subst (λ (q : ℕ). Mirrors s.bank0 (ram_page q ram)) (sym e) r)))
    (λ e. other_page p rel v s ram h 0 s.bank0 e r)
mirrored_put Sinclair128K p rel v s ram h f r =
    by_eq (λ (l : Option ℕ). Mirrored Sinclair128K (bank_put l rel v s).bank0 (bank_put l rel v s).bank1 (set ram (16384 * p + rel) v)) p 5
    (λ e. (
      subst (λ (q : ℕ). Mirrors (put rel v s.bank0) (ram_page q (set ram (16384 * p + rel) v))) e
          (own_page p rel v s ram h s.bank0 f (subst (λ (q : ℕ). Mirrors s.bank0 (ram_page q ram)) (sym e) r.0)),
      other_page p rel v s ram h 7 s.bank1 (λ g. omega arith) r.1,
    ))
    (λ e. by_eq (λ (l : Option ℕ). Mirrored Sinclair128K (bank_put l rel v s).bank0 (bank_put l rel v s).bank1 (set ram (16384 * p + rel) v)) p 7
    (λ g. (
      other_page p rel v s ram h 5 s.bank0 e r.0,
      subst (λ (q : ℕ). Mirrors (put rel v s.bank1) (ram_page q (set ram (16384 * p + rel) v))) g
          (own_page p rel v s ram h s.bank1 f (subst (λ (q : ℕ). Mirrors s.bank1 (ram_page q ram)) (sym g) r.1)),
    ))
    (λ g. (other_page p rel v s ram h 5 s.bank0 e r.0, other_page p rel v s ram h 7 s.bank1 g r.1)))

-- nothing else of the screen is touched
put_screen : (m : ZXMachine) (l : Option ℕ) (rel v : ℕ) (s : ZXScreen) (c c' : Core) (w : Screen) → SameScreen m s c w
    → c'.phase ≡ c.phase → c'.paging ≡ c.paging
    → Mirrored m (bank_put l rel v s).bank0 (bank_put l rel v s).bank1 c'.ram → SameScreen m (bank_put l rel v s) c' w
put_screen m (some b) rel v s c c' w r p q mi = banks_screen m _ _ s c c' w r p q mi
put_screen m none rel v s c c' w r p q mi = banks_screen m _ _ s c c' w r p q mi

-- ---- a byte written
module _ (m : ZXMachine) (rom : List ℕ) (c : ZXController) (w : World) (addr v : ℕ) (r : Related m rom c w) where
  abbrev rel : ℕ
  rel = addr % 16384

  written : SameMemory (our_machine m) rom (poked (our_machine m) w.core.paging w.core.ram addr v) w.core.paging (write c.memory addr v)
  written = write_is (our_machine m) rom w.core.ram w.core.paging c.memory r.memory addr v

  page_after : our_page (get_page (write c.memory addr v) addr) ≡ page_at (our_machine m) w.core.paging (addr / 16384)
  page_after = page_is (our_machine m) rom _ w.core.paging (write c.memory addr v) written addr

  written_to : (p : stored.Page) → p ≡ page_at (our_machine m) w.core.paging (addr / 16384)
      → SameMemory (our_machine m) rom (poked_in (place_in p rel) w.core.ram v) w.core.paging (write c.memory addr v)
  unfolding place_of
  written_to p e = rw e written

  on_page : (p : Page) → our_page p ≡ page_at (our_machine m) w.core.paging (addr / 16384)
      → Ends (updated p addr v c) (λ c'. Related m rom c' (world_after (our_machine m) (poking (place_in (our_page p) rel) v) w))
  unfolding in_core in_screen in_edge world_after place_of
  on_page (Rom p) e =
      record {
        value = _;
        ends = refl;
        holds = record {
          machine = r.machine;
          memory = written_to (page.Rom p) e;
          screen = r.screen;
          border = r.border;
          reported = r.reported;
          clock = r.clock;
          passed = r.passed;
          enabled = r.enabled;
          bank = r.bank;
          port = r.port;
          ram_long = r.ram_long;
          rom_long = r.rom_long;
          in_step = r.in_step;
        };
      }
  on_page (Ram p) e =
      let fits : 16384 * p + 16384 ≤ length w.core.ram = omega (arith, r.ram_long, rw (sym e) at (map_holds (our_machine m) w.core.paging (addr / 16384))) in
      record {
        value = with_memory (write c.memory addr v) (bank_put (local_bank m p) rel v c.screen) c;
        ends = ap (λ (n : ZXMachine). on_done (update n rel p v c.screen) (λ s. done (with_memory (write c.memory addr v) s c))) r.machine
            ∙ ap (λ (x : OrPanic ZXScreen). on_done x (λ s. done (with_memory (write c.memory addr v) s c))) (update_any (local_bank m p) rel v c.screen);
        holds = record {
          machine = r.machine;
          memory = written_to (page.Ram p) e;
          screen = put_screen m (local_bank m p) rel v c.screen w.core (in_core (our_machine m) (silent (store (16384 * p + rel) (v ∷ []))) w.core) w.screen r.screen refl refl
              (mirrored_put m p rel v c.screen w.core.ram (omega arith) fits r.screen.mirrored);
          border = r.border;
          reported = r.reported;
          clock = r.clock;
          passed = r.passed;
          enabled = r.enabled;
          bank = r.bank;
          port = r.port;
          ram_long = length-set w.core.ram (16384 * p + rel) v ∙ r.ram_long;
          rom_long = r.rom_long;
          in_step = record { phase = r.in_step.phase; painted = r.in_step.painted; at_end = r.in_step.at_end; no_pairs = r.in_step.no_pairs };
        };
      }

  -- write_internal is the byte write, and its update keeps the mirrors.
  pub poke_related : Ends (write_internal addr v c) (λ c'. Related m rom c' (world_after (our_machine m) (byte_write (our_machine m) addr v w.core) w))
  unfolding write_internal place_of
  poke_related =
      subst (λ (p : stored.Page). Ends (updated (get_page (write c.memory addr v) addr) addr v c) (λ c'. Related m rom c' (world_after (our_machine m) (poking (place_in p rel) v) w))) page_after
      (on_page (get_page (write c.memory addr v) addr) page_after)

-- ---- a page loaded, and the refresh that follows it
twice : (t : Bool) (f g : ScreenBank → ScreenBank) (x y : ScreenBank) → (cond t (f (cond t (g x) x)) (cond t (g x) x) ≡ cond t (f (g x)) x)
    × (cond t (cond t y (g y)) (f (cond t y (g y))) ≡ cond t y (f (g y)))
twice true f g x y = (refl, refl)
twice false f g x y = (refl, refl)

bank_twice : (b : ℕ) (f g : ScreenBank → ScreenBank) (s : ZXScreen) → with_bank b f (with_bank b g s) ≡ with_bank b (λ x. f (g x)) s
bank_twice b f g s =
    let e = twice (eqb b 0) f g s.bank0 s.bank1 in
    rw (e.0, e.1)

bank_none : (b : ℕ) (s : ZXScreen) → s ≡ with_bank b (λ x. x) s
bank_none b s = same_twice (eqb b 0) where
  same_twice : (t : Bool)
      → s ≡ record { last_blocks = s.last_blocks; flash = s.flash; frame_counter = s.frame_counter; buffer = s.buffer; back_buffer = s.back_buffer; bank0 = cond t s.bank0 s.bank0; bank1 = cond t s.bank1 s.bank1; active_bank = s.active_bank }
  same_twice true = refl
  same_twice false = refl

bank_same : (b : ℕ) (f g : ScreenBank → ScreenBank) (s : ZXScreen) → f s.bank0 ≡ g s.bank0 → f s.bank1 ≡ g s.bank1 → with_bank b f s ≡ with_bank b g s
bank_same b f g s p q = rw (p, q)

put_last : (bytes : List ℕ) (n : ℕ) (x : ScreenBank) → put n (get_or bytes n 0) (put_all bytes n x) ≡ put_all bytes (suc n) x
put_last bytes n x =
    ap (λ (k : ℕ). put k (get_or bytes k 0) (put_all bytes n x)) (sym (zero-add n)) ∙ sym (each_last 0 n (λ i. put i (get_or bytes i 0)) x)

module _ (m : ZXMachine) (bank b : ℕ) (bytes : List ℕ) (s : ZXScreen) (local : local_bank m bank ≡ some b) where
  -- n rounds of the refresh put the first n bytes into the bank
  refresh_loop : (n : ℕ) → each 0 n (refresh_byte m bank bytes) (done s) ≡ done (with_bank b (put_all bytes n) s)
  unfolding each
  refresh_loop zero = ap done (bank_none b s)
  refresh_loop (suc n) =
      each_last 0 n (refresh_byte m bank bytes) (done s)
      ∙ ap (refresh_byte m bank bytes (0 + n)) (refresh_loop n)
      ∙ rw (zero-add n)
      (ap (λ (l : Option ℕ). update_in l n (get_or bytes n 0) (with_bank b (put_all bytes n) s)) local
      ∙ update_is b n (get_or bytes n 0) (with_bank b (put_all bytes n) s)
      ∙ ap done (bank_twice b (put n (get_or bytes n 0)) (put_all bytes n) s
      ∙ bank_same b (λ x. put n (get_or bytes n 0) (put_all bytes n x)) (put_all bytes (suc n)) s (put_last bytes n s.bank0) (put_last bytes n s.bank1)))

-- a refresh of one page, from the memory as it stands
refresh_page_lem : (m : ZXMachine) (bank b : ℕ) (mem : ZXMemory) (s : ZXScreen) → length mem.ram ≡ (specs_of (our_machine m)).ram → page_exists (our_machine m) bank ≡ true
    → local_bank m bank ≡ some b → refresh_page m bank mem (done s) ≡ done (with_bank b (put_all (ram_page bank mem.ram) 16384) s)
refresh_page_lem m bank b mem s long there local =
    ap (λ (r : OrPanic (List ℕ)). on_done r (λ bytes. each 0 16384 (refresh_byte m bank bytes) (done s))) (rw there at (page_data_is m mem long bank))
    ∙ refresh_loop m bank b (ram_page bank mem.ram) s local 16384

-- a bank mirrors a page of the RAM as it stands
mirrors_there : (b : ScreenBank) (p : ℕ) (ram there : List ℕ) → ram ≡ there → Mirrors b (ram_page p there) → Mirrors b (ram_page p ram)
mirrors_there b p ram there e h = subst⁻¹ (λ (x : List ℕ). Mirrors b (ram_page p x)) e h

-- REFRESH: refresh_memory_dependent_devices leaves every bank mirroring its page, whatever the banks held, and touches nothing else.
pub refresh_is : (m : ZXMachine) (mem : ZXMemory) (s : ZXScreen) (c c' : Core) (w : Screen) → SameScreen m s c w
    → c'.phase ≡ c.phase → c'.paging ≡ c.paging → c'.ram ≡ mem.ram → length mem.ram ≡ (specs_of (our_machine m)).ram
    → Ends (refreshed m mem s) (λ s'. SameScreen m s' c' w)
refresh_is Sinclair48K mem s c c' w r p q u long =
    record {
      value = with_bank 0 (put_all (ram_page 0 mem.ram) 16384) s;
      ends = refresh_page_lem Sinclair48K 0 0 mem s long refl refl;
      holds = banks_screen _ _ _ s c c' w r p q
          (mirrors_there _ 0 _ _ u (all_mirrors (ram_page 0 mem.ram) s.bank0 r.mirrored.bitmap_long r.mirrored.attributes_long));
    }
refresh_is Sinclair128K mem s c c' w r p q u long =
    let first : ZXScreen = with_bank 0 (put_all (ram_page 5 mem.ram) 16384) s in
    record {
      value = with_bank 1 (put_all (ram_page 7 mem.ram) 16384) first;
      ends = ap (refresh_page Sinclair128K 7 mem) (refresh_page_lem Sinclair128K 5 0 mem s long refl refl) ∙ refresh_page_lem Sinclair128K 7 1 mem first long refl refl;
      holds = banks_screen _ _ _ s c c' w r p q (
        mirrors_there _ 5 _ _ u (all_mirrors (ram_page 5 mem.ram) s.bank0 r.mirrored.0.bitmap_long r.mirrored.0.attributes_long),
        mirrors_there _ 7 _ _ u (all_mirrors (ram_page 7 mem.ram) s.bank1 r.mirrored.1.bitmap_long r.mirrored.1.attributes_long),
      );
    }

-- PAGE LOAD: the copy and its refresh do not panic where the page is there, and keep the two machines related.
pub load_related : (m : ZXMachine) (rom : List ℕ) (c : ZXController) (w : World) (p : ℕ) (bytes : List ℕ) → Related m rom c w
    → page_exists (our_machine m) p ≡ true → length bytes ≡ 16384
    → Ends (load_and_refresh p bytes c) (λ c'. Related m rom c' (does (our_machine m) (silent (store (16384 * p) bytes)) w))
unfolding load_and_refresh in_core in_screen in_edge
load_related m rom c w p bytes r there whole =
    let fits : 16384 * p + 16384 ≤ length w.core.ram = omega (arith, r.ram_long, exists_fits (our_machine m) p there) in
    let mem : ZXMemory = record { rom = c.memory.rom; ram = cut p bytes c.memory.ram; map = c.memory.map } in
    let same : mem.ram ≡ loaded p bytes w.core.ram = ap (cut p bytes) r.memory.ram ∙ sym (page_cut p bytes w.core.ram (rw whole fits) whole) in
    let long : length (loaded p bytes w.core.ram) ≡ (specs_of (our_machine m)).ram = length-sets w.core.ram (16384 * p) bytes ∙ r.ram_long in
    let f = refresh_is m mem c.screen w.core (in_core (our_machine m) (silent (store (16384 * p) bytes)) w.core) w.screen r.screen refl refl (sym same) (ap length same ∙ long) in
    record {
      value = with_memory mem f.value c;
      ends =
          ap (λ (x : OrPanic ZXMemory). on_done x (λ mem. on_done (refreshed c.machine mem c.screen) (λ s. done (with_memory mem s c))))
          (rw there at (load_is m c.memory (ap length r.memory.ram ∙ r.ram_long) p bytes))
          ∙ ap (λ (n : ZXMachine). on_done (refreshed n mem c.screen) (λ s. done (with_memory mem s c))) r.machine
          ∙ ap (λ (x : OrPanic ZXScreen). on_done x (λ s. done (with_memory mem s c))) f.ends;
      holds = record {
        machine = r.machine;
        memory = record { rom = r.memory.rom; ram = same; pages = r.memory.pages };
        screen = f.holds;
        border = r.border;
        reported = r.reported;
        clock = r.clock;
        passed = r.passed;
        enabled = r.enabled;
        bank = r.bank;
        port = r.port;
        ram_long = long;
        rom_long = r.rom_long;
        in_step = record { phase = r.in_step.phase; painted = r.in_step.painted; at_end = r.in_step.at_end; no_pairs = r.in_step.no_pairs };
      };
    }
