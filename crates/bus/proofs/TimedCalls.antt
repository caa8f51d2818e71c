-- The four timed calls: what their operations are, and that none takes as long as a frame. What is proved of a timed part is so of each.
-- Assumes nothing.
use mathlib.Core.Path.{◌≡◌, refl}
use mathlib.Core.List.{List, [], ◌∷◌, ◌++◌}
use Prim.Native.Nat.{ℕ, ◌<◌, ◌≤◌}
use native.Mathlib.Omega.{arith}
use Rattle.laws.proofs.Cases.{by_bool}
use Rattle.machine.specs.declared.ZXMachine.{ZXMachine}
use Rattle.machine.specs.declared.ZXMachine.TheVariants.{Sinclair48K, Sinclair128K}
use Rattle.machine.specs.Contended.{port_contended}
use Rattle.memory.specs.declared.Paged.{Paged}
use Rattle.memory.specs.Paging.{bit_set, write7ffd}
use Rattle.ports.specs.declared.Devices.{Devices}
use Rattle.ports.specs.Hearers as hearer
use Rattle.ports.specs.Hearers.{Hearer, hearers}
use Rattle.bus.specs.World.{Core}
use Rattle.bus.specs.Time.{lasts, store, paged, unpass, Op, step, colour, silent, closes, in_core}
use Rattle.bus.specs.Turns.{clocks_of, core_after, Part, and_then}
use Rattle.bus.specs.Calls.{contended, plain_wait, delayed, address_wait, first_part, last_part, final_step, read_before, port_read, paging_ops, acts, acted_on, port_write}
use Rattle.bus.proofs.Runs.{clocks_in}
use Rattle.bus.proofs.PortClocks.{wait_clocks, read_small, write_small}

-- A timed call steps, writes the border in a colour 0..7, and writes a 7FFD byte, on 128K only; it does nothing else.
abbrev pub InCall : ZXMachine → Op → Type 0
InCall m (step h n) = Unit {0}
InCall m (colour k) = k < 8
InCall m (silent (paged v)) = (v < 256) × (m ≡ Sinclair128K)
InCall m (silent (store at bytes)) = ⊥
InCall m (silent unpass) = ⊥

abbrev pub AllInCall : ZXMachine → List Op → Type 0
AllInCall m [] = Unit {0}
AllInCall m (o ∷ os) = InCall m o × AllInCall m os

-- so it leaves RAM as it was
pub op_ram : (m : ZXMachine) (o : Op) (c : Core) → InCall m o → (in_core m o c).ram ≡ c.ram
unfolding in_core
op_ram m (step h n) c i = by_bool (λ (d : Core). d.ram ≡ c.ram) (closes m (lasts h n) c) (λ _. refl) (λ _. refl)
op_ram m (colour k) c i = refl
op_ram m (silent (paged v)) c i = refl
op_ram m (silent (store at bytes)) c i = absurd i
op_ram m (silent unpass) c i = absurd i

-- a part of such operations that takes at most 65,535 clocks and a delay, whatever the core
pub record TimedPart (m : ZXMachine) (f : Part) : Type 0 where
  pub in_call : (c : Core) → AllInCall m (f c)
  pub brief : (c : Core) → clocks_in (f c) ≤ 65541

module _ (m : ZXMachine) where
  join : (os ps : List Op) → AllInCall m os → AllInCall m ps → AllInCall m (os ++ ps)
  join [] ps a b = b
  join (o ∷ os) ps a b = (a.0, join os ps a.1 b)

  abbrev In : Part → Type 0
  In f = (c : Core) → AllInCall m (f c)

  both : (f g : Part) → In f → In g → In (and_then m f g)
  unfolding and_then
  both f g a b c = join (f c) (g (core_after m (f c) c)) (a c) (b (core_after m (f c) c))

  in_plain : (n : ℕ) → In (plain_wait n)
  in_plain n c = (tt, tt)

  in_delayed : (addr : ℕ) → In (delayed m addr)
  unfolding delayed
  in_delayed addr c = by_bool (AllInCall m) (contended m addr c) (λ e. (tt, tt)) (λ e. tt)

  in_wait : (addr n : ℕ) → In (address_wait m addr n)
  in_wait addr n = both (delayed m addr) (plain_wait n) (in_delayed addr) (in_plain n)

  in_last : (port : ℕ) → In (last_part m port)
  unfolding last_part and_then
  in_last port c =
      by_bool (AllInCall m) (port_contended m port) (λ e. (tt, tt))
      (λ e. by_bool (AllInCall m) (contended m port c) (λ f. (tt, (tt, (tt, tt)))) (λ f. (tt, tt)))

  in_read : (port : ℕ) → In (port_read m port)
  in_read port =
      both (read_before m port) final_step (both (first_part m port) (last_part m port) (in_wait port 1) (in_last port)) (in_plain 1)

in_repaged : (m : ZXMachine) (held v : ℕ) → v < 256 → AllInCall m (paging_ops (write7ffd m held v))
unfolding write7ffd
in_repaged Sinclair48K held v h = tt
in_repaged Sinclair128K held v h = by_bool (λ (p : Paged). AllInCall Sinclair128K (paging_ops p)) (bit_set 5 held) (λ e. tt) (λ e. ((h, refl), tt))

module _ (m : ZXMachine) where
  in_acts : (x : Hearer) (v : ℕ) → v < 256 → In m (acts m x v)
  in_acts hearer.extender v h c = tt
  in_acts hearer.ay_select v h c = tt
  in_acts hearer.ay_write v h c = tt
  in_acts hearer.border v h c = (omega arith, tt)
  in_acts hearer.paging v h c = in_repaged m c.paging v h

  in_acted : (xs : List Hearer) (v : ℕ) → v < 256 → In m (acted_on m xs v)
  in_acted [] v h c = tt
  in_acted (x ∷ xs) v h c =
      let c₁ = core_after m (acts m x v c) c in
      join m (acts m x v c) (acted_on m xs v c₁) (in_acts x v h c) (in_acted xs v h c₁)

  in_write : (d : Devices) (port v : ℕ) → v < 256 → In m (port_write m d port v)
  in_write d port v h =
      both m (first_part m port) _ (in_wait m port 1)
      (both m (acted_on m (hearers m d port) v) _ (in_acted (hearers m d port) v h)
      (both m (last_part m port) final_step (in_last m port) (in_plain m 1)))

  plain_brief : (n : ℕ) → n ≤ 65541 → (c : Core) → clocks_in (plain_wait n c) ≤ 65541
  unfolding clocks_in clocks_of
  plain_brief n h c = omega arith

  -- THE FOUR TIMED CALLS, with the bounds that refusal 5 and the bytes' range leave.
  pub plain_timed : (n : ℕ) → n ≤ 65541 → TimedPart m (plain_wait n)
  plain_timed n h = record { in_call = in_plain m n; brief = plain_brief n h }

  pub address_timed : (addr n : ℕ) → n ≤ 65535 → TimedPart m (address_wait m addr n)
  address_timed addr n h = record { in_call = in_wait m addr n; brief = λ c. omega (arith, wait_clocks m addr n c) }

  pub read_timed : (port : ℕ) → TimedPart m (port_read m port)
  read_timed port = record { in_call = in_read m port; brief = λ c. omega (arith, read_small m port c) }

  pub write_timed : (d : Devices) (port v : ℕ) → v < 256 → TimedPart m (port_write m d port v)
  write_timed d port v h = record { in_call = in_write d port v h; brief = λ c. omega (arith, write_small m d port v c) }
