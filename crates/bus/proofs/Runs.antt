-- The laws of operations one after the other: a run of them is taken apart anywhere, and what it reports is a sum that starts anywhere.
-- Assumes nothing.
use mathlib.Core.Path.{◌≡◌, refl, sym, ap, ◌∙◌, fun_ext}
use mathlib.Core.Bool.{Bool, true, false, ◌||◌}
use mathlib.Core.List.{List, [], ◌∷◌, ◌++◌, append_assoc, append-nil}
use Prim.Native.Nat.{ℕ, ◌+◌}
use native.Mathlib.Nat.{add_assoc, add-zero, zero-add}
use Rattle.machine.specs.declared.ZXMachine.{ZXMachine}
use Rattle.ports.specs.Hearers.{Hearer}
use Rattle.bus.specs.World.{Core, World}
use Rattle.bus.specs.Time.{Op, in_core, does, world_after}
use Rattle.bus.specs.Turns.{clocks_of, blocks_of, closed_by, Turn, turned, ran, core_after, fresh, Part, and_then, ran_by}
use Rattle.bus.specs.Calls.{acts, acted_on}

-- ---- a run taken apart

-- Some operations and then others are one run of both.
pub ran_append : (os ps : List Op) (t : Turn) → ran (os ++ ps) t ≡ ran ps (ran os t)
unfolding ran
ran_append [] ps t = refl
ran_append (o ∷ os) ps t = ran_append os ps (turned o t)

-- No operation changes the machine.
pub ran_machine : (os : List Op) (t : Turn) → (ran os t).machine ≡ t.machine
unfolding ran turned
ran_machine [] t = refl
ran_machine (o ∷ os) t = ran_machine os (turned o t)

-- The core after a run is what the core alone decides: neither screen, edge nor what was reported before it has a say.
pub ran_core : (os : List Op) (t : Turn) → (ran os t).world.core ≡ core_after t.machine os t.world.core
unfolding ran turned core_after
ran_core [] t = refl
ran_core (o ∷ os) t = ran_core os (turned o t)

pub core_append : (m : ZXMachine) (os ps : List Op) (c : Core) → core_after m (os ++ ps) c ≡ core_after m ps (core_after m os c)
unfolding core_after
core_append m [] ps c = refl
core_append m (o ∷ os) ps c = core_append m os ps (in_core m o c)

-- ---- parts

-- The core after one part and then another.
pub core_then : (m : ZXMachine) (f g : Part) (c : Core)
    → core_after m (and_then m f g c) c ≡ core_after m (g (core_after m (f c) c)) (core_after m (f c) c)
unfolding and_then
core_then m f g c = core_append m (f c) (g (core_after m (f c) c)) c

-- One part and then another are the two parts run one after the other: the second is decided by the core as the first leaves it.
pub ran_then : (m : ZXMachine) (f g : Part) (t : Turn) → t.machine ≡ m → ran_by (and_then m f g) t ≡ ran_by g (ran_by f t)
unfolding and_then
ran_then m f g t e =
    ran_append (f t.world.core) (g (core_after m (f t.world.core) t.world.core)) t
    ∙ ap (λ (c : Core). ran (g c) (ran_by f t)) (ap (λ (n : ZXMachine). core_after n (f t.world.core) t.world.core) (sym e) ∙ sym (ran_core (f t.world.core) t))

-- Where one alone hears a write, what all that hear it do is what that one does.
pub acts_alone : (m : ZXMachine) (h : Hearer) (v : ℕ) → acted_on m (h ∷ []) v ≡ acts m h v
acts_alone m h v = fun_ext (λ c. append-nil (acts m h v c))

-- Those that hear a write act one after the other: what some of them and then others do is one part and then another.
pub acted_then : (m : ZXMachine) (hs ks : List Hearer) (v : ℕ) (c : Core) → acted_on m (hs ++ ks) v c ≡ and_then m (acted_on m hs v) (acted_on m ks v) c
unfolding and_then core_after
acted_then m [] ks v c = refl
acted_then m (h ∷ hs) ks v c =
    let os = acts m h v c in
    let c₁ = core_after m os c in
    let ps = acted_on m hs v c₁ in
    ap (λ (qs : List Op). os ++ qs) (acted_then m hs ks v c₁)
    ∙ sym (append_assoc os ps (acted_on m ks v (core_after m ps c₁)))
    ∙ ap (λ (r : Core). (os ++ ps) ++ acted_on m ks v r) (sym (core_append m os ps c))

-- ---- what a run reports

-- the clocks of some operations, the blocks that they paint, and whether one of them closes a frame
unfoldable pub clocks_in : List Op → ℕ
clocks_in [] = 0
clocks_in (o ∷ os) = clocks_of o + clocks_in os

unfoldable pub blocks_in : ZXMachine → List Op → World → ℕ
blocks_in m [] w = 0
blocks_in m (o ∷ os) w = blocks_of m o w + blocks_in m os (does m o w)

unfoldable pub closed_in : ZXMachine → List Op → Core → Bool
closed_in m [] c = false
closed_in m (o ∷ os) c = closed_by m o c || closed_in m os (in_core m o c)

or_assoc : (a b c : Bool) → (a || b) || c ≡ a || (b || c)
or_assoc true b c = refl
or_assoc false b c = refl

or_false : (a : Bool) → a || false ≡ a
or_false true = refl
or_false false = refl

-- A call under way is what it was, moved on by the operations: the world by what they do, each report by what they report, whatever was
-- reported before.
pub ran_is : (os : List Op) (t : Turn)
    → ran os t
    ≡ record {
      machine = t.machine;
      world = world_after t.machine os t.world;
      clocks = t.clocks + clocks_in os;
      blocks = t.blocks + blocks_in t.machine os t.world;
      closed = t.closed || closed_in t.machine os t.world.core;
    }
unfolding ran turned clocks_in blocks_in closed_in world_after
ran_is [] t = simp (add-zero, or_false)
ran_is (o ∷ os) t = ran_is os (turned o t) ∙ simp (add_assoc, or_assoc)

module _ (os : List Op) (t : Turn) where
  -- field by field
  pub ran_world : (ran os t).world ≡ world_after t.machine os t.world
  ran_world = ap (λ (r : Turn). r.world) (ran_is os t)

  pub ran_clocks : (ran os t).clocks ≡ t.clocks + clocks_in os
  ran_clocks = ap (λ (r : Turn). r.clocks) (ran_is os t)

  pub ran_blocks : (ran os t).blocks ≡ t.blocks + blocks_in t.machine os t.world
  ran_blocks = ap (λ (r : Turn). r.blocks) (ran_is os t)

  pub ran_closed : (ran os t).closed ≡ t.closed || closed_in t.machine os t.world.core
  ran_closed = ap (λ (r : Turn). r.closed) (ran_is os t)

-- A call that begins with nothing to report reports the sums themselves.
module _ (os : List Op) (m : ZXMachine) (w : World) where
  pub fresh_clocks : (ran os (fresh m w)).clocks ≡ clocks_in os
  fresh_clocks = ran_clocks os (fresh m w) ∙ zero-add (clocks_in os)

  pub fresh_blocks : (ran os (fresh m w)).blocks ≡ blocks_in m os w
  fresh_blocks = ran_blocks os (fresh m w) ∙ zero-add (blocks_in m os w)

  pub fresh_closed : (ran os (fresh m w)).closed ≡ closed_in m os w.core
  fresh_closed = ran_closed os (fresh m w)

-- So a call that is under way only adds to its reports what the same operations would report from nothing.
module _ (os : List Op) (t : Turn) where
  pub clocks_add : (ran os t).clocks ≡ t.clocks + (ran os (fresh t.machine t.world)).clocks
  clocks_add = rw (fresh_clocks os t.machine t.world) (ran_clocks os t)

  pub blocks_add : (ran os t).blocks ≡ t.blocks + (ran os (fresh t.machine t.world)).blocks
  blocks_add = rw (fresh_blocks os t.machine t.world) (ran_blocks os t)

  pub closed_add : (ran os t).closed ≡ t.closed || (ran os (fresh t.machine t.world)).closed
  closed_add = rw (fresh_closed os t.machine t.world) (ran_closed os t)

-- ---- the sums taken apart

pub clocks_append : (os ps : List Op) → clocks_in (os ++ ps) ≡ clocks_in os + clocks_in ps
unfolding clocks_in
clocks_append [] ps = sym (zero-add (clocks_in ps))
clocks_append (o ∷ os) ps = rw (clocks_append os ps) (sym (add_assoc (clocks_of o) (clocks_in os) (clocks_in ps)))

pub clocks_then : (m : ZXMachine) (f g : Part) (c : Core)
    → clocks_in (and_then m f g c) ≡ clocks_in (f c) + clocks_in (g (core_after m (f c) c))
unfolding and_then
clocks_then m f g c = clocks_append (f c) (g (core_after m (f c) c))

-- the world's core is the core's own
pub world_core : (m : ZXMachine) (os : List Op) (w : World) → (world_after m os w).core ≡ core_after m os w.core
unfolding world_after core_after
world_core m [] w = refl
world_core m (o ∷ os) w = world_core m os (does m o w)
