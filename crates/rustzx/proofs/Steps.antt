-- Each operation of the Rust keeps the two machines related: the step of n clocks, a border write, a 7FFD write, the reset of passed frames.
-- Assumes nothing.
use mathlib.Core.Path.{◌≡◌, refl, sym, ap, ap₂, ◌∙◌, subst}
use mathlib.Core.Bool.{Bool, true, false, false≢true}
use mathlib.Core.List.{List}
use Prim.Native.Nat.{ℕ, ◌+◌, ◌-◌, ◌*◌, ◌≤◌}
use native.Mathlib.Omega.{arith}
use lib.Dec.{leb}
use borrow.Author.Tests.{leb-true, le-leb}
use Rattle.laws.proofs.Cases.{by_bool}
use Rattle.machine.specs.declared.BorderPixel.{BorderPixel}
use Rattle.std.specs.Prelude.{Option, Some, None}
use Rattle.machine.specs.Numbers.{specs_of}
use Rattle.machine.specs.Timing.{border_at, is_frame_end, frame_end}
use Rattle.machine.proofs.Numbered.{regular}
use Rattle.machine.proofs.Rising.{blocks_mono, end_is}
use Rattle.border.specs.Edge.{Edge, finished, inked, inked_at}
use Rattle.bus.specs.World.{World}
use Rattle.bus.specs.Time.{unpass, tick, colour, silent, closes, look_at, shows_a, caught_up, in_core, in_screen, in_edge, went_on, wrapped, does}
use Rattle.bus.proofs.OneStep.{core_closed, core_goes, screen_closed, screen_goes, edge_closed, edge_goes}
use Rattle.bus.proofs.Kept.{SoundWorld}
use Rattle.machine.specs.declared.ZXMachine as ours
use Rattle.rustzx.specs.Machine.{ZXMachine, specs}
use Rattle.rustzx.specs.Colors.{ZXColor, color_byte}
use Rattle.rustzx.specs.Screen.{process_clocks}
use Rattle.rustzx.specs.Border.{set_border}
use Rattle.rustzx.specs.Controller.{ZXController, new_frame, processed, wait_internal, set_border_color, reset_frame_counter}
use Rattle.rustzx.specs.Related.{our_machine, SameScreen, SameBorder, InStep, Related}
use Rattle.rustzx.proofs.Timing.{frame_is}
use Rattle.rustzx.proofs.Borders.{new_frame_border, set_border_is}
use Rattle.rustzx.proofs.Screens.{process_is, same_core, new_frame_screen}

-- What the relation asks of a world is part of its soundness.
pub sound_in_step : (m : ours.ZXMachine) (w : World) → SoundWorld m w → InStep m w
sound_in_step m w s = record { phase = s.phase; painted = s.painted; at_end = s.at_end; no_pairs = s.no_pairs }

-- once the border is at its end, it is there for the rest of the frame
end_stays : (m : ours.ZXMachine) (t t' : ℕ) → t ≤ t' → frame_end (specs_of m) t ≡ true → frame_end (specs_of m) t' ≡ true
end_stays m t t' h e =
    let s = specs_of m in
    let last = s.border + 239 * s.line + 160 in
    let w = (regular m).wide in
    let k = leb-true last t (sym (end_is s w t) ∙ e) in
    end_is s w t' ∙ le-leb last t' (omega arith)

-- a test's two ways on the Rust's side
wait_closed : (n : ℕ) (c : ZXController) → leb (specs c.machine).clocks_frame (c.frame_clocks + n) ≡ true → wait_internal n c ≡ new_frame (processed n c)
unfolding wait_internal
wait_closed n c e = rw e

wait_goes : (n : ℕ) (c : ZXController) → leb (specs c.machine).clocks_frame (c.frame_clocks + n) ≡ false → wait_internal n c ≡ processed n c
unfolding wait_internal
wait_goes n c e = rw e

module _ (rom : List ℕ) (c : ZXController) (w : World) (n : ℕ) (r : Related c.machine rom c w) where
  abbrev m : ZXMachine
  m = c.machine

  test_is : leb (specs m).clocks_frame (c.frame_clocks + n) ≡ closes (our_machine m) n w.core
  test_is = ap₂ leb (frame_is m) (ap (λ (t : ℕ). t + n) r.clock)

  caught : SameScreen m (process_clocks m (c.frame_clocks + n) c.screen) w.core (caught_up (look_at (our_machine m) (w.core.clock + n) w.core) (shows_a w.core.phase) w.screen)
  caught =
      let s = specs_of (our_machine m) in
      let more = blocks_mono s (regular (our_machine m)).wide w.core.clock (w.core.clock + n) (omega arith) in
      subst (λ (t : ℕ). SameScreen m (process_clocks m t c.screen) w.core (caught_up (look_at (our_machine m) (w.core.clock + n) w.core) (shows_a w.core.phase) w.screen))
      (ap (λ (t : ℕ). t + n) (sym r.clock))
      (process_is m (w.core.clock + n) c.screen w.core w.screen r.screen (omega (arith, r.in_step.painted)))

  goes : closes (our_machine m) n w.core ≡ false → Related m rom (wait_internal n c) (does (our_machine m) (tick n) w)
  unfolding caught_up
  goes e =
      rw (wait_goes n c (test_is ∙ e), core_goes (our_machine m) n w.core e, screen_goes (our_machine m) n w.core w.screen e, edge_goes (our_machine m) n w.core w.edge e)
      (record {
        machine = refl;
        memory = r.memory;
        screen = same_core m _ w.core (went_on n w.core) _ caught refl refl refl;
        border = r.border;
        reported = r.reported;
        clock = ap (λ (t : ℕ). t + n) r.clock;
        passed = r.passed;
        enabled = r.enabled;
        bank = r.bank;
        port = r.port;
        ram_long = r.ram_long;
        rom_long = r.rom_long;
        in_step = record {
          phase = r.in_step.phase;
          painted = omega arith;
          at_end = λ f. end_stays (our_machine m) w.core.clock (w.core.clock + n) (omega arith) (r.in_step.at_end f);
          no_pairs = r.in_step.no_pairs;
        };
      })

  closed : closes (our_machine m) n w.core ≡ true → Related m rom (wait_internal n c) (does (our_machine m) (tick n) w)
  unfolding caught_up finished
  closed e =
      rw (wait_closed n c (test_is ∙ e), core_closed (our_machine m) n w.core e, screen_closed (our_machine m) n w.core w.screen e, edge_closed (our_machine m) n w.core w.edge e)
      (record {
        machine = refl;
        memory = r.memory;
        screen = new_frame_screen m _ w.core (wrapped (our_machine m) n w.core) _ caught r.in_step.phase refl refl refl;
        border = new_frame_border c.border w.edge r.border;
        reported = r.reported;
        clock = ap₂ (λ (t f : ℕ). t + n - f) r.clock (frame_is m);
        passed = ap (λ (k : ℕ). k + 1) r.passed;
        enabled = r.enabled;
        bank = r.bank;
        port = r.port;
        ram_long = r.ram_long;
        rom_long = r.rom_long;
        in_step = record {
          phase = omega arith;
          painted = omega arith;
          at_end = λ f. absurd (false≢true f);
          no_pairs = λ f. absurd (false≢true f);
        };
      })

  stepped : (t : Bool) → closes (our_machine m) n w.core ≡ t → Related m rom (wait_internal n c) (does (our_machine m) (tick n) w)
  stepped true e = closed e
  stepped false e = goes e

-- THE STEP: wait_internal is the step of n clocks, from any related states and for any n.
pub wait_related : (m : ZXMachine) (rom : List ℕ) (c : ZXController) (w : World) (n : ℕ) → Related m rom c w
    → Related m rom (wait_internal n c) (does (our_machine m) (tick n) w)
wait_related m rom c w n r =
    subst (λ (m : ZXMachine). Related m rom c w → Related m rom (wait_internal n c) (does (our_machine m) (tick n) w)) r.machine
    (λ q. stepped rom c w n q (closes (our_machine c.machine) n w.core) refl) r

-- after a border write the beam is blocked only at frame end, and with pairs 0
inked_end : (place : Option BorderPixel) (k : ℕ) (e : Edge) → (e.blocked ≡ true → is_frame_end place ≡ true) → (inked place k e).blocked ≡ true → is_frame_end place ≡ true
unfolding inked inked_at
inked_end (Some p) k e f =
    by_bool (λ (x : Edge). x.blocked ≡ true → false ≡ true) e.blocked (λ b g. f g) (λ b g. g)
inked_end None k e f = λ g. refl

inked_none : (place : Option BorderPixel) (k : ℕ) (e : Edge) → (e.blocked ≡ true → e.pairs ≡ 0) → (inked place k e).blocked ≡ true → (inked place k e).pairs ≡ 0
unfolding inked inked_at
inked_none (Some p) k e f =
    by_bool (λ (x : Edge). x.blocked ≡ true → x.pairs ≡ 0) e.blocked (λ b g. f g) (λ b g. absurd (false≢true g))
inked_none None k e f =
    by_bool (λ (x : Edge). x.blocked ≡ true → x.pairs ≡ 0) e.blocked (λ b g. f g) (λ b g. refl)

-- A BORDER WRITE: set_border_color at the frame clock, in a colour by its number.
pub colour_related : (m : ZXMachine) (rom : List ℕ) (c : ZXController) (w : World) (color : ZXColor) (k : ℕ) → color_byte color ≡ k → Related m rom c w
    → Related m rom (set_border_color c.frame_clocks color c) (does (our_machine m) (colour k) w)
unfolding in_core in_screen in_edge
colour_related m rom c w color k ink r =
    let edge : SameBorder (set_border m w.core.clock color c.border) (inked (border_at (specs_of (our_machine m)) w.core.clock) k w.edge) =
    set_border_is m w.core.clock k color c.border w.edge r.border ink r.in_step.at_end r.in_step.no_pairs in
    record {
      machine = r.machine;
      memory = r.memory;
      screen = same_core m c.screen w.core (in_core (our_machine m) (colour k) w.core) w.screen r.screen refl refl refl;
      border = subst (λ (m' : ZXMachine). SameBorder (set_border m' c.frame_clocks color c.border) (inked (border_at (specs_of (our_machine m)) w.core.clock) k w.edge)) (sym r.machine)
          (subst (λ (t : ℕ). SameBorder (set_border m t color c.border) (inked (border_at (specs_of (our_machine m)) w.core.clock) k w.edge)) (sym r.clock) edge);
      reported = ink;
      clock = r.clock;
      passed = r.passed;
      enabled = r.enabled;
      bank = r.bank;
      port = r.port;
      ram_long = r.ram_long;
      rom_long = r.rom_long;
      in_step = record {
        phase = r.in_step.phase;
        painted = r.in_step.painted;
        at_end = inked_end (border_at (specs_of (our_machine m)) w.core.clock) k w.edge r.in_step.at_end;
        no_pairs = inked_none (border_at (specs_of (our_machine m)) w.core.clock) k w.edge r.in_step.no_pairs;
      };
    }

-- THE RESET OF PASSED FRAMES.
pub unpass_related : (m : ZXMachine) (rom : List ℕ) (c : ZXController) (w : World) → Related m rom c w
    → Related m rom (reset_frame_counter c) (does (our_machine m) (silent unpass) w)
unfolding in_core in_screen in_edge
unpass_related m rom c w r =
    record {
      machine = r.machine;
      memory = r.memory;
      screen = same_core m c.screen w.core (in_core (our_machine m) (silent unpass) w.core) w.screen r.screen refl refl refl;
      border = r.border;
      reported = r.reported;
      clock = r.clock;
      passed = refl;
      enabled = r.enabled;
      bank = r.bank;
      port = r.port;
      ram_long = r.ram_long;
      rom_long = r.rom_long;
      in_step = record { phase = r.in_step.phase; painted = r.in_step.painted; at_end = r.in_step.at_end; no_pairs = r.in_step.no_pairs };
    }
