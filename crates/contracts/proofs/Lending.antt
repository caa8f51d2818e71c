-- Buffers lent whole, in part, or with what follows them: what is lent and left alone comes back as it was, and what a call accepts was lent whole.
-- Assumes nothing.
use Prim.Native.Nat.{ℕ, ◌≤◌}
use mathlib.Core.List.{List, ◌++◌, append-nil}
use mathlib.Core.Path.{◌≡◌, refl, sym, ◌∙◌}
use native.Mathlib.Omega.{arith}
use lib.ListN.{length, take, take-append-drop, length-take, length-append, drop_of_length-le}
use lib.Seq.{take_all, take-take, take-append_seam, take-append-le}
use Rattle.laws.proofs.Cases.{split}
use Rattle.machine.specs.declared.ZXMachine.{ZXMachine}
use Rattle.record.specs.Record.{record_bytes}
use Rattle.bus.specs.World.{World, bus_of}
use Rattle.bus.proofs.Lengths.{SameLengths}
use Rattle.contracts.specs.Timed.{Lent, lent_by}
use Rattle.contracts.specs.Calls.{with_ram, with_state, Portion, lend, hand_back, Portions, lent_of, handed_back}

-- two buffers of one length, of which the same is lent
pub same_lent : (n : Portion) (xs ys : List ℕ) → length xs ≡ length ys → length (lend n xs) ≡ length (lend n ys)
same_lent n xs ys e =
    rw (
      length-take n.count (xs ++ n.beyond),
      length-take n.count (ys ++ n.beyond),
      length-append xs n.beyond,
      length-append ys n.beyond,
      e,
    )

-- THE LAWS OF ONE PORTION.
module _ (n : Portion) (xs : List ℕ) where
  -- as far as the buffer goes, what is lent is the buffer's front: what follows the buffer has no say there
  inside : take (length xs) (lend n xs) ≡ take n.count xs
  inside =
      split (length xs) n.count
      (λ h. take-take (length xs) n.count (xs ++ n.beyond) h ∙ take-append_seam xs n.beyond ∙ sym (take_all n.count xs h))
      (λ h. let few = length-take n.count (xs ++ n.beyond) in
      take_all (length xs) (lend n xs) (omega arith) ∙ take-append-le n.count xs n.beyond (omega arith))

  -- a slice that is left as it was lent hands the buffer back as it was, however it was lent
  pub portion_untouched : hand_back n xs (lend n xs) ≡ xs
  portion_untouched = rw inside (take-append-drop n.count xs)

  -- a slice of the buffer's own length is the buffer, and it is handed back as it is left
  module _ (e : length (lend n xs) ≡ length xs) where
    far : length xs ≤ n.count
    far = let f = length-take n.count (xs ++ n.beyond) in omega arith

    pub portion_whole : lend n xs ≡ xs
    portion_whole = sym (take_all (length xs) (lend n xs) (omega arith)) ∙ inside ∙ take_all n.count xs far

    pub portion_back : (out : List ℕ) → length out ≡ length xs → hand_back n xs out ≡ out
    portion_back out same =
        rw (take_all (length xs) out (omega arith), drop_of_length-le xs {i = n.count} far) (append-nil out)

module _ (n : Portions) (l : Lent) where
  -- A call that leaves what it was lent as it was leaves the buffers as they were, whatever it was lent of each.
  pub untouched : handed_back n l (lent_of n l) ≡ l
  untouched i =
      record {
        state = portion_untouched n.state l.state i;
        ram = portion_untouched n.ram l.ram i;
        a = portion_untouched n.a l.a i;
        b = portion_untouched n.b l.b i;
        border = portion_untouched n.border l.border i;
      }

  -- one that leaves other bytes in RAM, or in the state record, and was lent that slice whole, changes that buffer alone
  pub ram_changed : (xs : List ℕ) → length (lend n.ram l.ram) ≡ length l.ram → length xs ≡ length l.ram
      → handed_back n l (with_ram (lent_of n l) xs) ≡ with_ram l xs
  ram_changed xs e same i = with_ram (untouched i) (portion_back n.ram l.ram e xs same i)

  pub state_changed : (xs : List ℕ) → length (lend n.state l.state) ≡ length l.state → length xs ≡ length l.state
      → handed_back n l (with_state (lent_of n l) xs) ≡ with_state l xs
  state_changed xs e same i = with_state (untouched i) (portion_back n.state l.state e xs same i)

  -- the five slices are lent whole
  pub record LentWhole : Type 0 where
    pub state : length (lend n.state l.state) ≡ length l.state
    pub ram : length (lend n.ram l.ram) ≡ length l.ram
    pub a : length (lend n.a l.a) ≡ length l.a
    pub b : length (lend n.b l.b) ≡ length l.b
    pub border : length (lend n.border l.border) ≡ length l.border

  pub lent_whole : LentWhole → lent_of n l ≡ l
  lent_whole h i =
      record {
        state = portion_whole n.state l.state h.state i;
        ram = portion_whole n.ram l.ram h.ram i;
        a = portion_whole n.a l.a h.a i;
        b = portion_whole n.b l.b h.b i;
        border = portion_whole n.border l.border h.border i;
      }

-- the five slices lent whole, and left with other bytes of the same machine
pub handed_whole : (n : Portions) (m : ZXMachine) (w w' : World) → LentWhole n (lent_by m w) → SameLengths w w'
    → handed_back n (lent_by m w) (lent_by m w') ≡ lent_by m w'
handed_whole n m w w' h same i =
    record {
      state = portion_back n.state (record_bytes (bus_of m w)) h.state (record_bytes (bus_of m w')) refl i;
      ram = portion_back n.ram w.core.ram h.ram w'.core.ram same.ram i;
      a = portion_back n.a w.screen.a h.a w'.screen.a same.a i;
      b = portion_back n.b w.screen.b h.b w'.screen.b same.b i;
      border = portion_back n.border w.edge.pixels h.border w'.edge.pixels same.pixels i;
    }
