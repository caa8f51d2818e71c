-- What the writers put one after the other is what is printed for a line.
-- Assumes nothing.
use Prim.Native.Nat.{ℕ, suc, ◌+◌, ◌<◌, ◌≤◌}
use mathlib.Core.Path.{◌≡◌, ap}
use mathlib.Core.List.{List, [], ◌∷◌, ◌++◌}
use native.Mathlib.Numerals.{add-one}
use native.Mathlib.Omega.{arith}
use lib.ListN.{length, get_or, drop, set, length-append, drop_of_length-le}
use lib.Seq.{drop-cons}
use Rattle.machine.specs.declared.ZXMachine.{ZXMachine}
use Rattle.beam.specs.declared.Question.{Question}
use Rattle.beam.specs.Decimal.{decimal}
use Rattle.beam.specs.Meaning.{model}
use Rattle.beam.specs.Printed.{spaced, answer_to}
use Rattle.beam.specs.Inner.{Put}
use Rattle.beam.proofs.Runs.{Left, put_one, put_then, left_step, left_end}

-- a question mark and a space, a number, and a newline
pub bad_put : (l l' : List ℕ) (at p n : ℕ) → Put l at (63 ∷ 32 ∷ []) p l' → (l'' : List ℕ) (q : ℕ) → Put l' p (decimal n) q l''
    → Put l at (63 ∷ 32 ∷ (decimal n ++ (10 ∷ []))) (q + 1) (set l'' q 10)
bad_put l l' at p n f l'' q g = put_then f (put_then g (put_one l'' q 10))

-- of numbers behind spaces, those from i on are left
module _ (l here : List ℕ) (at next : ℕ) (ns : List ℕ) (i : ℕ) (r : Left l at (spaced ns) here next (spaced (drop i ns))) where
  next_field : i < length ns → spaced (drop i ns) ≡ (32 ∷ decimal (get_or ns i 0)) ++ spaced (drop (suc i) ns)
  unfolding spaced
  next_field h = rw (drop-cons ns i 0 h)

  no_field : length ns ≤ i → spaced (drop i ns) ≡ 10 ∷ []
  unfolding spaced
  no_field h = rw (drop_of_length-le ns {i = i} h)

  pub spaced_room : at + length (spaced ns) ≤ length l → i < length ns → next + length (32 ∷ decimal (get_or ns i 0)) ≤ length here
  spaced_room h k =
      omega (arith, r.counted, r.long, ap length (next_field k), length-append (32 ∷ decimal (get_or ns i 0)) (spaced (drop (suc i) ns)))

  pub spaced_next : {p : ℕ} {here' : List ℕ} → i < length ns → Put here next (32 ∷ decimal (get_or ns i 0)) p here'
      → Left l at (spaced ns) here' p (spaced (drop (i + 1) ns))
  spaced_next {p} {here'} k f = rw add-one (left_step (rw (next_field k) at r) f)

  pub spaced_last : at + length (spaced ns) ≤ length l → length ns ≤ i → next < length here
  spaced_last h k = omega (arith, r.counted, r.long, ap length (no_field k))

  pub spaced_end : length ns ≤ i → Put l at (spaced ns) (next + 1) (set here next 10)
  spaced_end k = left_end (left_step {rest = []} (rw (no_field k) at r) (put_one here next 10))

-- the machine's name, and behind it the answer to the question that a match was told
pub answer_put : (question : Question) (m : ZXMachine) (t : ℕ) (l : List ℕ) (at k : ℕ) → k ≡ model m → (l' : List ℕ) (p : ℕ) → Put l at (decimal k) p l'
    → (asked : Question) → question ≡ asked → {l'' : List ℕ} {q : ℕ} → Put l' p (answer_to asked m t) q l''
    → Put l at (decimal (model m) ++ answer_to question m t) q l''
answer_put question m t l at k ek l' p f asked e g = rw (← ek, e) (put_then f g)

-- what is printed goes by what a match was told
pub told_put : {A : Type 0} (text : A → List ℕ) (x y : A) → x ≡ y → {l l' : List ℕ} {at p : ℕ} → Put l at (text x) p l' → Put l at (text y) p l'
told_put text x y e f = rw (← e) f
