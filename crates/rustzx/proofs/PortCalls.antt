-- The waits, the port read and the port write of the Rust, part by part, are document 01's.
-- Assumes nothing.
use mathlib.Core.Path.{◌≡◌, refl, sym, ap, ap₂, ◌∙◌, subst}
use mathlib.Core.Bool.{Bool, true, false, cond, ◌&&◌, false≢true}
use mathlib.Core.List.{List, [], ◌∷◌, ◌++◌}
use Prim.Native.Nat.{ℕ, ◌+◌, ◌%◌, ◌<◌}
use native.Mathlib.Nat.{add-zero}
use native.Mathlib.Omega.{arith}
use lib.Bits.{bit_and, and_mask}
use Rattle.laws.proofs.Cases.{and_right}
use Rattle.machine.specs.Numbers.{specs_of}
use Rattle.machine.specs.Timing.{delay}
use Rattle.machine.specs.Contended.{port_contended}
use Rattle.screen.specs.Colour.{colour_of}
use Rattle.memory.specs.Paging.{page_contended, write7ffd, paged_code}
use Rattle.ports.specs.declared.Devices.{Devices}
use Rattle.ports.specs.declared.Device.{Device}
use Rattle.ports.specs.declared.Device.TheVariants.{Absent, Present}
use Rattle.ports.specs.Order.{read_order, class_c000, class8000, even_port, paging_port, claims, has7ffd}
use Rattle.ports.specs.Hearers as hearer
use Rattle.ports.specs.Hearers.{Hearer, port_hearers, hearers, heard_code}
use Rattle.bus.specs.World.{Core, World}
use Rattle.bus.specs.Time.{Op, in_core, in_screen, in_edge, does, world_after}
use Rattle.bus.specs.Turns.{Part, and_then, core_after}
use Rattle.bus.specs.Calls.{contended, plain_wait, delayed, address_wait, first_part, delay_step, last_part, final_step, read_before, port_read, answered, read_value, acted_on, port_write, write_code}
use Rattle.bus.proofs.Runs.{acts_alone, world_core}
use Rattle.machine.specs.declared.ZXMachine as ours
use Rattle.rustzx.specs.Panics as run
use Rattle.rustzx.specs.Panics.{OrPanic, done, Ends}
use Rattle.rustzx.specs.Machine.{ZXMachine, Sinclair48K, Sinclair128K, contention_clocks, port_is_contended}
use Rattle.rustzx.specs.Memory.{get_page}
use Rattle.rustzx.specs.Colors.{ZXColor, from_bits}
use Rattle.rustzx.specs.Controller as rust
use Rattle.rustzx.specs.Controller.{ZXController, page_is_contended, addr_is_contended, wait_internal, do_contention_and_wait, do_contention, contended_first, io_contention_first, io_contention_last, set_border_color, to_extender, to_ay_select, to_ay_write, to_border, to_nobody, Reached, Wrote, reaches, wait_mreq, read_io, is128k, extender_write, write_io}
use Rattle.rustzx.specs.Related.{our_machine, byte_gives, attached_of, Related}
use Rattle.rustzx.specs.Calls.{reached_code, paging_code}
use Rattle.rustzx.proofs.Timing.{contention_is, port_is}
use Rattle.rustzx.proofs.Helpers.{rust_colour, from_bits_done, colour_back}
use Rattle.rustzx.proofs.Pages.{contended_is, page_is}
use Rattle.rustzx.proofs.Steps.{wait_related, colour_related}
use Rattle.rustzx.proofs.Stores.{paging_related}
use Rattle.rustzx.proofs.PortReads.{floating_is, order_is}

-- ---- parts one after the other
world_append : (m : ours.ZXMachine) (os ps : List Op) (w : World) → world_after m (os ++ ps) w ≡ world_after m ps (world_after m os w)
unfolding world_after
world_append m [] ps w = refl
world_append m (o ∷ os) ps w = world_append m os ps (does m o w)

-- the world behind a part of a call
abbrev pub behind : ours.ZXMachine → Part → World → World
behind m f w = world_after m (f w.core) w

pub behind_then : (m : ours.ZXMachine) (f g : Part) (w : World) → behind m (and_then m f g) w ≡ behind m g (behind m f w)
unfolding and_then
behind_then m f g w =
    world_append m (f w.core) (g (core_after m (f w.core) w.core)) w
    ∙ ap (λ (c : Core). world_after m (g c) (behind m f w)) (sym (world_core m (f w.core) w))

module _ (m : ZXMachine) (rom : List ℕ) where
  -- a function of the Rust does to its controller what a part does to the world
  abbrev pub Follows : Part → (ZXController → ZXController) → Type 0
  Follows f g = (c : ZXController) (w : World) → Related m rom c w → Related m rom (g c) (behind (our_machine m) f w)

  then_follows : (f f' : Part) (g g' : ZXController → ZXController) → Follows f g → Follows f' g' → Follows (and_then (our_machine m) f f') (λ c. g' (g c))
  then_follows f f' g g' a b c w r = subst (Related m rom (g' (g c))) (sym (behind_then (our_machine m) f f' w)) (b (g c) (behind (our_machine m) f w) (a c w r))

  -- ---- waits
  -- wait_internal
  pub plain_follows : (n : ℕ) → Follows (plain_wait n) (wait_internal n)
  unfolding world_after
  plain_follows n c w r = wait_related m rom c w n r

  -- addr_is_contended, on related states
  contended_follows : (addr : ℕ) (c : ZXController) (w : World) → Related m rom c w → addr_is_contended c addr ≡ contended (our_machine m) addr w.core
  contended_follows addr c w r =
      ap (λ (n : ZXMachine). page_is_contended n (get_page c.memory addr)) r.machine ∙ contended_is m (get_page c.memory addr)
      ∙ ap (page_contended (our_machine m)) (page_is (our_machine m) rom w.core.ram w.core.paging c.memory r.memory addr)

  -- do_contention_and_wait and do_contention
  held_follows : (n : ℕ) → Follows (delay_step (our_machine m) n) (do_contention_and_wait n)
  unfolding world_after in_core in_screen in_edge
  held_follows n c w r =
      let e : contention_clocks c.machine c.frame_clocks ≡ delay (specs_of (our_machine m)) w.core.clock =
      ap₂ contention_clocks r.machine r.clock ∙ contention_is m w.core.clock in
      rw e (wait_related m rom c w (delay (specs_of (our_machine m)) w.core.clock + n) r)

  hold_follows : Follows (delay_step (our_machine m) 0) do_contention
  hold_follows c w r = rw (add-zero (contention_clocks c.machine c.frame_clocks)) at (held_follows 0 c w r)

  pick_follows : (t : Bool) (x y : List Op) {c' c'' : ZXController} (w : World) → Related m rom c' (world_after (our_machine m) x w) → Related m rom c'' (world_after (our_machine m) y w)
      → Related m rom (cond t c' c'') (world_after (our_machine m) (cond t x y) w)
  pick_follows true x y w p q = p
  pick_follows false x y w p q = q

  delayed_follows : (addr : ℕ) → Follows (delayed (our_machine m) addr) (contended_first addr)
  unfolding delayed world_after
  delayed_follows addr c w r =
      rw (contended_follows addr c w r) (pick_follows (contended (our_machine m) addr w.core) (delay_step (our_machine m) 0 w.core) [] w (hold_follows c w r) r)

  -- wait_mreq, and wait_no_mreq, which calls it
  pub wait_follows : (addr n : ℕ) → Follows (address_wait (our_machine m) addr n) (wait_mreq addr n)
  unfolding wait_mreq
  wait_follows addr n = then_follows (delayed (our_machine m) addr) (plain_wait n) (contended_first addr) (wait_internal n) (delayed_follows addr) (plain_follows n)

  -- io_contention_first
  first_follows : (port : ℕ) → Follows (first_part (our_machine m) port) (io_contention_first port)
  unfolding io_contention_first
  first_follows port = then_follows (delayed (our_machine m) port) (plain_wait 1) (contended_first port) (wait_internal 1) (delayed_follows port) (plain_follows 1)

  -- io_contention_last
  last_follows : (port : ℕ) → Follows (last_part (our_machine m) port) (io_contention_last port)
  unfolding last_part io_contention_last
  last_follows port c w r =
      rw (ap (λ (n : ZXMachine). port_is_contended n port) r.machine ∙ port_is m port, contended_follows port c w r)
      (pick_follows (port_contended (our_machine m) port) (delay_step (our_machine m) 2 w.core) (cond (contended (our_machine m) port w.core) (and_then (our_machine m) (delay_step (our_machine m) 1) (and_then (our_machine m) (delay_step (our_machine m) 1) (delay_step (our_machine m) 0)) w.core) (plain_wait 2 w.core)) w (held_follows 2 c w r)
      (pick_follows (contended (our_machine m) port w.core) (and_then (our_machine m) (delay_step (our_machine m) 1) (and_then (our_machine m) (delay_step (our_machine m) 1) (delay_step (our_machine m) 0)) w.core) (plain_wait 2 w.core) w
      (then_follows (delay_step (our_machine m) 1) (and_then (our_machine m) (delay_step (our_machine m) 1) (delay_step (our_machine m) 0)) (do_contention_and_wait 1) (λ x. do_contention (do_contention_and_wait 1 x)) (held_follows 1)
      (then_follows (delay_step (our_machine m) 1) (delay_step (our_machine m) 0) (do_contention_and_wait 1) do_contention (held_follows 1) hold_follows) c w r)
      (plain_follows 2 c w r)))

  before_follows : (port : ℕ) → Follows (read_before (our_machine m) port) (λ c. io_contention_last port (io_contention_first port c))
  before_follows port = then_follows (first_part (our_machine m) port) (last_part (our_machine m) port) (io_contention_first port) (io_contention_last port) (first_follows port) (last_follows port)

  -- READ_IO: it does not panic, its value is the read's, and it takes the port read's steps.
  pub read_follows : (d : Devices) (port : ℕ) → d.tape < 2 → (c : ZXController) (w : World) → Related m rom c w
      → Ends (read_io (attached_of d) port c) (λ a. (a.value ≡ read_value (our_machine m) d port w.core) × Related m rom a.controller (behind (our_machine m) (port_read (our_machine m) port) w))
  unfolding read_io read_value
  read_follows d port h c w r =
      let held' : ZXController = io_contention_last port (io_contention_first port c) in
      let w' : World = behind (our_machine m) (read_before (our_machine m) port) w in
      let r' : Related m rom held' w' = before_follows port c w r in
      record {
        value = record { controller = wait_internal 1 held'; value = answered (our_machine m) (read_order d port) w'.core };
        ends = ap (λ (x : OrPanic ℕ). run.on_done x (λ value. done (record { controller = wait_internal 1 held'; value = value })))
            (order_is m held' w'.core (floating_is m rom held' w' r') d port h);
        holds = (
          ap (answered (our_machine m) (read_order d port)) (world_core (our_machine m) (read_before (our_machine m) port w.core) w),
          then_follows (read_before (our_machine m) port) final_step (λ x. io_contention_last port (io_contention_first port x)) (wait_internal 1) (before_follows port) (plain_follows 1) c w r,
        );
      }

  -- ---- the port write: whom the Rust reached has the code of who hears it, and what it leaves is what hearing does
  abbrev Hears : List Hearer → ℕ → World → OrPanic Wrote → Type 0
  Hears f v w x =
      Ends x (λ y. (reached_code y.reached ≡ heard_code f (paged_code (write7ffd (our_machine m) w.core.paging v))) × Related m rom y.controller (behind (our_machine m) (acted_on (our_machine m) f v) w))

  -- nothing of the bus hears it: an extender, an AY or nobody
  unheard : (who : Reached) (f : List Hearer) (v : ℕ) (c : ZXController) (w : World) → Related m rom c w → acted_on (our_machine m) f v w.core ≡ []
      → reached_code who ≡ heard_code f (paged_code (write7ffd (our_machine m) w.core.paging v)) → Hears f v w (done (reaches who c))
  unfolding world_after
  unheard who f v c w r none e = record { value = reaches who c; ends = refl; holds = (e, rw none r) }

  -- the border: from_bits of three bits never panics
  border_hears : (v : ℕ) (c : ZXController) (w : World) → Related m rom c w
      → Hears (hearer.border ∷ []) v w (run.on_done (from_bits (bit_and v 0x07)) (λ color. done (reaches to_border (set_border_color c.frame_clocks color c))))
  unfolding world_after
  border_hears v c w r =
      let h : v % 8 < 8 = omega arith in
      record {
        value = reaches to_border (set_border_color c.frame_clocks (rust_colour (colour_of (v % 8))) c);
        ends = ap (λ (x : OrPanic ZXColor). run.on_done x (λ color. done (reaches to_border (set_border_color c.frame_clocks color c)))) (ap from_bits (and_mask v 3) ∙ from_bits_done (v % 8) h);
        holds = (refl, colour_related m rom c w (rust_colour (colour_of (v % 8))) (v % 8) (colour_back (v % 8) h) r);
      }

  -- paging: on a machine that has it, the code is the number that the 7FFD write answers
  has_paging_lem : (n : ZXMachine) (who : Reached) → has7ffd (our_machine n) ≡ true → reached_code who ≡ paging_code n who
  has_paging_lem Sinclair48K who e = absurd (false≢true e)
  has_paging_lem Sinclair128K who e = refl

  paging_hears : (v : ℕ) (c : ZXController) (w : World) → Related m rom c w → has7ffd (our_machine m) ≡ true → Hears (hearer.paging ∷ []) v w (rust.write7ffd v c)
  paging_hears v c w r has =
      let e = paging_related m rom c w v r in
      record {
        value = e.value;
        ends = e.ends;
        holds = (
          has_paging_lem m e.value.reached has ∙ e.holds.0,
          subst (λ (f : Part). Related m rom e.value.controller (behind (our_machine m) f w)) (sym (acts_alone (our_machine m) hearer.paging v)) e.holds.1,
        );
      }

  pick_hears : (v : ℕ) (w : World) (t : Bool) {x y : OrPanic Wrote} (f g : List Hearer) → (t ≡ true → Hears f v w x) → Hears g v w y → Hears (cond t f g) v w (cond t x y)
  pick_hears v w true f g p q = p refl
  pick_hears v w false f g p q = q

  has_is : (n : ZXMachine) → is128k n ≡ has7ffd (our_machine n)
  has_is Sinclair48K = refl
  has_is Sinclair128K = refl

  -- who hears the write, in the Rust's order
  order_hears : (port v : ℕ) (c : ZXController) (w : World) → Related m rom c w → Hears (port_hearers (our_machine m) port) v w (rust.port_write port v c)
  unfolding port_hearers
  order_hears port v c w r =
      rw (port_is m port, ap is128k r.machine ∙ has_is m)
      (pick_hears v w (class_c000 port) (hearer.ay_select ∷ []) _ (λ t. unheard to_ay_select (hearer.ay_select ∷ []) v c w r refl refl)
      (pick_hears v w (class8000 port) (hearer.ay_write ∷ []) _ (λ t. unheard to_ay_write (hearer.ay_write ∷ []) v c w r refl refl)
      (pick_hears v w (even_port port) (hearer.border ∷ []) _ (λ t. border_hears v c w r)
      (pick_hears v w (paging_port port && has7ffd (our_machine m)) (hearer.paging ∷ []) [] (λ t. paging_hears v c w r (and_right (paging_port port) (has7ffd (our_machine m)) t))
      (unheard to_nobody [] v c w r refl refl)))))

  extender_hears : (x : Device ℕ) (port v : ℕ) (c : ZXController) (w : World) → Related m rom c w
      → Hears (cond (claims x) (hearer.extender ∷ []) (port_hearers (our_machine m) port)) v w (extender_write (byte_gives x) port v c)
  extender_hears (Present own) port v c w r = unheard to_extender (hearer.extender ∷ []) v c w r refl refl
  extender_hears Absent port v c w r = order_hears port v c w r

  -- WRITE_IO: it does not panic, acts where the port write acts, and takes its steps; and whom it reached gives the write's code.
  pub write_follows : (d : Devices) (port v : ℕ) (c : ZXController) (w : World) → Related m rom c w
      → Ends (write_io (attached_of d) port v c) (λ x. (reached_code x.reached ≡ write_code (our_machine m) d port v w.core) × Related m rom x.controller (behind (our_machine m) (port_write (our_machine m) d port v) w))
  unfolding write_io write_code
  write_follows d port v c w r =
      let c₁ : ZXController = io_contention_first port c in
      let w₁ : World = behind (our_machine m) (first_part (our_machine m) port) w in
      let a = extender_hears d.extender port v c₁ w₁ (first_follows port c w r) in
      let acts : Part = acted_on (our_machine m) (hearers (our_machine m) d port) v in
      let w₂ : World = behind (our_machine m) acts w₁ in
      let end = then_follows (last_part (our_machine m) port) final_step (io_contention_last port) (wait_internal 1) (last_follows port) (plain_follows 1) a.value.controller w₂ a.holds.1 in
      record {
        value = reaches a.value.reached (wait_internal 1 (io_contention_last port a.value.controller));
        ends = ap (λ (x : OrPanic Wrote). run.on_done x (λ acted. done (reaches acted.reached (wait_internal 1 (io_contention_last port acted.controller))))) a.ends;
        holds = (
          a.holds.0 ∙ ap (λ (x : Core). heard_code (hearers (our_machine m) d port) (paged_code (write7ffd (our_machine m) x.paging v))) (world_core (our_machine m) (first_part (our_machine m) port w.core) w),
          subst (Related m rom (wait_internal 1 (io_contention_last port a.value.controller)))
              (sym (behind_then (our_machine m) (first_part (our_machine m) port) (and_then (our_machine m) acts (and_then (our_machine m) (last_part (our_machine m) port) final_step)) w
              ∙ behind_then (our_machine m) acts (and_then (our_machine m) (last_part (our_machine m) port) final_step) w₁))
              end,
        );
      }
