-- CLOCKS ARE DELAYS AND OWN CLOCKS: what a call reports is the delays of its steps and the clocks that it takes where none is due. A wait's own
-- clocks are those that it asks for, and a port call's are 4, whatever the port, whoever hears it and whatever it writes.
-- Assumes nothing.
use mathlib.Core.Path.{◌≡◌, refl, ◌∙◌}
use mathlib.Core.List.{List, [], ◌∷◌, ◌++◌}
use Prim.Native.Nat.{ℕ, ◌+◌}
use native.Mathlib.Omega.{arith}
use Rattle.laws.proofs.Cases.{by_bool}
use Rattle.machine.specs.declared.ZXMachine.{ZXMachine}
use Rattle.machine.specs.Contended.{port_contended}
use Rattle.ports.specs.declared.Devices.{Devices}
use Rattle.ports.specs.Hearers.{hearers}
use Rattle.bus.specs.World.{Core, World}
use Rattle.bus.specs.Time.{free, due, Op, step, colour, silent}
use Rattle.bus.specs.Turns.{clocks_of, delay_of, own_of, delays, own_clocks, core_after, fresh, Part, and_then, ran_by}
use Rattle.bus.specs.Calls.{contended, plain_wait, delayed, address_wait, first_part, last_part, final_step, read_before, port_read, acted_on, port_write}
use Rattle.bus.proofs.Runs.{clocks_in, fresh_clocks}
use Rattle.bus.proofs.PortClocks.{acted_still}

-- ---- any operations

op_split : (o : Op) → clocks_of o ≡ delay_of o + own_of o
unfolding clocks_of delay_of own_of
op_split (step free n) = omega arith
op_split (step (due d) n) = refl
op_split (colour k) = refl
op_split (silent o) = refl

pub clocks_split : (os : List Op) → clocks_in os ≡ delays os + own_clocks os
unfolding clocks_in delays own_clocks
clocks_split [] = refl
clocks_split (o ∷ os) = omega (arith, op_split o, clocks_split os)

-- THE CLOCKS THAT A CALL REPORTS are all its delays and all its own clocks.
pub reported_split : (m : ZXMachine) (f : Part) (w : World) → (ran_by f (fresh m w)).clocks ≡ delays (f w.core) + own_clocks (f w.core)
reported_split m f w = fresh_clocks (f w.core) m w ∙ clocks_split (f w.core)

-- ---- the parts of a call

own_append : (os ps : List Op) → own_clocks (os ++ ps) ≡ own_clocks os + own_clocks ps
unfolding own_clocks
own_append [] ps = omega arith
own_append (o ∷ os) ps = omega (arith, own_append os ps)

module _ (m : ZXMachine) where
  -- a part whose own clocks are n, whatever the core
  abbrev Own : ℕ → Part → Type 0
  Own n f = (c : Core) → own_clocks (f c) ≡ n

  both : (n k : ℕ) (f g : Part) → Own n f → Own k g → Own (n + k) (and_then m f g)
  unfolding and_then
  both n k f g a b c = omega (arith, own_append (f c) (g (core_after m (f c) c)), a c, b (core_after m (f c) c))

  -- A PLAIN WAIT'S OWN CLOCKS are its n,
  pub plain_own : (n : ℕ) → Own n (plain_wait n)
  unfolding own_clocks own_of
  plain_own n c = omega arith

  delayed_own : (addr : ℕ) → Own 0 (delayed m addr)
  unfolding delayed own_clocks own_of
  delayed_own addr c = by_bool (λ (os : List Op). own_clocks os ≡ 0) (contended m addr c) (λ e. refl) (λ e. refl)

  -- and so are those of a WAIT AT AN ADDRESS.
  pub address_own : (addr n : ℕ) → Own n (address_wait m addr n)
  address_own addr n c = both 0 n (delayed m addr) (plain_wait n) (delayed_own addr) (plain_own n) c ∙ omega arith

  last_own : (port : ℕ) → Own 2 (last_part m port)
  unfolding last_part and_then own_clocks own_of
  last_own port c =
      let P : List Op → Type 0 = λ os. own_clocks os ≡ 2 in
      by_bool P (port_contended m port) (λ e. refl) (λ e. by_bool P (contended m port c) (λ f. refl) (λ f. refl))

  -- A PORT READ'S OWN CLOCKS are 4,
  pub read_own : (port : ℕ) → Own 4 (port_read m port)
  read_own port =
      both 3 1 (read_before m port) final_step (both 1 2 (first_part m port) (last_part m port) (address_own port 1) (last_own port)) (plain_own 1)

  module _ (d : Devices) (port v : ℕ) where
    acted_own : Own 0 (acted_on m (hearers m d port) v)
    acted_own c =
        let os = acted_on m (hearers m d port) v c in
        omega (arith, clocks_split os, (acted_still m (hearers m d port) v c).0)

    -- and so are those of a PORT WRITE.
    pub write_own : Own 4 (port_write m d port v)
    write_own =
        both 1 3 (first_part m port) _ (address_own port 1)
        (both 0 3 (acted_on m (hearers m d port) v) _ acted_own (both 2 1 (last_part m port) final_step (last_own port) (plain_own 1)))

  -- So a port call reports 4 clocks and its delays.
  pub read_split : (port : ℕ) (w : World) → (ran_by (port_read m port) (fresh m w)).clocks ≡ delays (port_read m port w.core) + 4
  read_split port w = omega (arith, reported_split m (port_read m port) w, read_own port w.core)

  pub write_split : (d : Devices) (port v : ℕ) (w : World)
      → (ran_by (port_write m d port v) (fresh m w)).clocks ≡ delays (port_write m d port v w.core) + 4
  write_split d port v w = omega (arith, reported_split m (port_write m d port v) w, write_own d port v w.core)
