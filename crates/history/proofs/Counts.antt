-- How many frames the operations of one call close: at most one, which is what the answer's flag says.
-- Assumes nothing.
use Prim.Native.Nat.{ℕ, ◌+◌, ◌*◌, ◌≤◌, ◌<◌}
use mathlib.Core.Bool.{Bool, true, false, ◌||◌}
use mathlib.Core.List.{List, [], ◌∷◌}
use mathlib.Core.Path.{◌≡◌, refl, ◌∙◌}
use native.Mathlib.Omega.{arith}
use native.Mathlib.Nat.{mul-le-mul_left}
use Rattle.laws.proofs.Cases.{split}
use Rattle.machine.specs.declared.ZXMachine.{ZXMachine}
use Rattle.machine.specs.Numbers.{specs_of}
use Rattle.record.specs.Record.{flag_byte}
use Rattle.memory.specs.declared.Place.{Place}
use Rattle.memory.specs.declared.Place.TheVariants as place
use Rattle.memory.specs.declared.Paged.{Paged}
use Rattle.memory.specs.declared.Paged.TheVariants as paging
use Rattle.bus.specs.World.{Core, World}
use Rattle.bus.specs.Time.{lasts, Op, step, tick, colour, silent, closes, in_core, does}
use Rattle.bus.specs.Turns.{clocks_of, blocks_of, closed_by}
use Rattle.bus.specs.Calls.{paging_ops}
use Rattle.bus.specs.Pokes.{poking}
use Rattle.bus.proofs.OneStep.{frame_long, closes_at, core_closed, core_goes}
use Rattle.bus.proofs.Runs.{clocks_in, blocks_in, closed_in}
use Rattle.history.proofs.Time.{Small, count}
use Rattle.history.proofs.Operations.{AllSmall, closings}

-- no operation is longer than all of them
pub op_small : (o : Op) → clocks_of o ≤ 65541 → Small o
unfolding clocks_of
op_small (step k n) h = h
op_small (colour k) h = tt
op_small (silent o) h = tt

pub all_small : (os : List Op) → clocks_in os ≤ 65541 → AllSmall os
unfolding clocks_in
all_small [] h = tt
all_small (o ∷ os) h = (op_small o (omega arith), all_small os (omega arith))

module _ (m : ZXMachine) where
  -- each closing takes a frame's clocks away
  tick_sum : (n : ℕ) (c : Core) (b : Bool) → closes m n c ≡ b → (in_core m (tick n) c).clock + (specs_of m).frame * count (closes m n c) ≡ c.clock + n
  tick_sum n c true e = let k = closes_at m n c e in rw (core_closed m n c e, e) (omega arith)
  tick_sum n c false e = rw (core_goes m n c e, e) (omega arith)

  pub op_sum : (o : Op) (c : Core) → (in_core m o c).clock + (specs_of m).frame * count (closed_by m o c) ≡ c.clock + clocks_of o
  unfolding in_core closed_by clocks_of
  op_sum (step h n) c = tick_sum (lasts h n) c (closes m (lasts h n) c) refl
  op_sum (colour k) c = omega arith
  op_sum (silent o) c = omega arith

  -- so closings are few where clocks are
  frames_within : (os : List Op) (c : Core) → (specs_of m).frame * closings m os c ≤ c.clock + clocks_in os
  unfolding closings clocks_in
  frames_within [] c = omega arith
  frames_within (o ∷ os) c = omega (arith, op_sum o c, frames_within os (in_core m o c))

  -- A call closes at most one frame.
  pub one_closing : (os : List Op) (c : Core) → c.clock < (specs_of m).frame → clocks_in os ≤ 65541 → closings m os c ≤ 1
  one_closing os c h k =
      let f = frame_long m in
      let g = frames_within os c in
      split (closings m os c) 1 (λ p. p) (λ p. let two = mul-le-mul_left (specs_of m).frame p in absurd (omega arith))

  flag_or : (a b : Bool) (n : ℕ) → count a + n ≤ 1 → (n ≤ 1 → flag_byte b ≡ n) → flag_byte (a || b) ≡ count a + n
  flag_or true b n h f = omega arith
  flag_or false b n h f = f (omega arith) ∙ omega arith

  -- "frame closed 0/1" is how many frames were closed.
  pub closed_flag : (os : List Op) (c : Core) → closings m os c ≤ 1 → flag_byte (closed_in m os c) ≡ closings m os c
  unfolding closings closed_in
  closed_flag [] c h = refl
  closed_flag (o ∷ os) c h = flag_or (closed_by m o c) (closed_in m os (in_core m o c)) (closings m os (in_core m o c)) h (closed_flag os (in_core m o c))

-- ---- operations that take no time and paint nothing report nothing
abbrev pub AllSilent : List Op → Type 0
AllSilent [] = Unit {0}
AllSilent (step h n ∷ os) = ⊥
AllSilent (colour k ∷ os) = ⊥
AllSilent (silent o ∷ os) = AllSilent os

pub silent_clocks : (os : List Op) → AllSilent os → clocks_in os ≡ 0
unfolding clocks_in clocks_of
silent_clocks [] s = refl
silent_clocks (step h n ∷ os) s = absurd s
silent_clocks (colour k ∷ os) s = absurd s
silent_clocks (silent o ∷ os) s = omega (arith, silent_clocks os s)

pub silent_blocks : (m : ZXMachine) (os : List Op) (w : World) → AllSilent os → blocks_in m os w ≡ 0
unfolding blocks_in blocks_of
silent_blocks m [] w s = refl
silent_blocks m (step h n ∷ os) w s = absurd s
silent_blocks m (colour k ∷ os) w s = absurd s
silent_blocks m (silent o ∷ os) w s = omega (arith, silent_blocks m os (does m (silent o) w) s)

pub silent_closings : (m : ZXMachine) (os : List Op) (c : Core) → AllSilent os → closings m os c ≡ 0
unfolding closings closed_by
silent_closings m [] c s = refl
silent_closings m (step h n ∷ os) c s = absurd s
silent_closings m (colour k ∷ os) c s = absurd s
silent_closings m (silent o ∷ os) c s = omega (arith, silent_closings m os (in_core m (silent o) c) s)

pub poke_silent : (p : Place) (value : ℕ) → AllSilent (poking p value)
poke_silent (place.Rom at) value = tt
poke_silent (place.Ram at) value = tt

pub paged_silent : (p : Paged) → AllSilent (paging_ops p)
paged_silent paging.Absent = tt
paged_silent paging.Locked = tt
paged_silent (paging.Taken v) = tt
