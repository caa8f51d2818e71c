-- Bytes put into a list one run after the other: `Put` of two texts is `Put` of the text that they make, and what a loop has left to put.
-- Assumes nothing.
use Prim.Native.Nat.{ℕ, suc, ◌+◌, ◌-◌, ◌≤◌}
use mathlib.Core.Path.{◌≡◌, refl, ap, sym, ◌∙◌}
use mathlib.Core.List.{List, [], ◌∷◌, ◌++◌, append_assoc}
use native.Mathlib.Nat.{add-zero}
use native.Mathlib.Omega.{arith}
use lib.ListN.{length, take, drop, set, length-append}
use lib.Seq.{sets, length-sets, sets-eq, drop-drop}
use borrow.Rule.Slice.PartMut.{put_mid}
use Rattle.beam.specs.Inner.{Put}

pub sets_append : (l : List ℕ) (i : ℕ) (a b : List ℕ) → sets (sets l i a) (i + length a) b ≡ sets l i (a ++ b)
sets_append l i [] b = rw add-zero
sets_append l i (x ∷ a) b =
    let e : i + suc (length a) ≡ suc i + length a = omega arith in
    rw e (sets_append (set l i x) (suc i) a b)

pub put_one : (l : List ℕ) (at b : ℕ) → Put l at (b ∷ []) (at + 1) (set l at b)
put_one l at b = record { moved = refl; written = refl }

pub put_then : {l l' l'' a b : List ℕ} {at p q : ℕ} → Put l at a p l' → Put l' p b q l'' → Put l at (a ++ b) q l''
put_then {l} {l'} {l''} {a} {b} {at} {p} {q} f g =
    record {
      moved = omega (arith, length-append a b, f.moved, g.moved);
      written = g.written ∙ rw (f.written, f.moved) (sets_append l at a b);
    }

-- nothing is made longer or shorter
pub put_long : {l l' a : List ℕ} {at p : ℕ} → Put l at a p l' → length l' ≡ length l
put_long {l} {l'} {a} {at} {p} f = ap length f.written ∙ length-sets l at a

-- of all that is to be put into l from `at` on, the rest is still to be put into `here` from `next` on
pub record Left (l : List ℕ) (at : ℕ) (all : List ℕ) (here : List ℕ) (next : ℕ) (rest : List ℕ) : Type 0 where
  pub counted : next + length rest ≡ at + length all
  pub written : sets here next rest ≡ sets l at all
  pub long : length here ≡ length l

pub left_start : (l : List ℕ) (at : ℕ) (all : List ℕ) → Left l at all l at all
left_start l at all = record { counted = refl; written = refl; long = refl }

pub left_step : {l all here here' a rest : List ℕ} {at next p : ℕ} → Left l at all here next (a ++ rest) → Put here next a p here' → Left l at all here' p rest
left_step {l} {all} {here} {here'} {a} {rest} {at} {next} {p} f g =
    record {
      counted = omega (arith, length-append a rest, f.counted, g.moved);
      written = rw (g.written, g.moved) (sets_append here next a rest) ∙ f.written;
      long = put_long g ∙ f.long;
    }

pub left_end : {l all here : List ℕ} {at next : ℕ} → Left l at all here next [] → Put l at all next here
left_end {l} {all} {here} {at} {next} f = record { moved = omega (arith, f.counted); written = f.written }

-- what is copied stands where it was put
pub copied : (l text : List ℕ) (at : ℕ) → at + length text ≤ length l
    → Put l at text (at + length text) (put_mid at ((at + length text) - at) l text)
copied l text at h =
    let k : (at + length text) - at ≡ length text = omega arith in
    record { moved = refl; written = rw (k, drop-drop) (sym (sets-eq text l at h ∙ append_assoc (take at l) text (drop (at + length text) l))) }
