-- The room that `report` asks for is enough, whatever is asked: a bad line prints at most 8 bytes and takes at least one of the input, and a good
-- one prints at most 31 and takes at least four.
-- Assumes nothing.
use Prim.Native.Nat.{ℕ, zero, suc, ◌+◌, ◌-◌, ◌*◌, ◌%◌, ◌^◌, ◌<◌, ◌≤◌}
use mathlib.Core.Path.{◌≡◌, refl}
use mathlib.Core.Bool.{Bool, true, false}
use mathlib.Core.List.{List, [], ◌∷◌, ◌++◌}
use native.Mathlib.Omega.{arith}
use borrow.Author.Tests.{lt-ltb, le-ltb}
use lib.Dec.{lit≤}
use lib.ListN.{length, take, drop, length-append, length-take, length-drop}
use Rattle.laws.proofs.Cases.{split, by_lt}
use Rattle.machine.specs.declared.ZXMachine.{ZXMachine}
use Rattle.machine.specs.declared.ZXMachine.TheVariants.{Sinclair48K, Sinclair128K}
use Rattle.machine.specs.declared.Delay.{Delay}
use Rattle.machine.specs.declared.BorderPixel.{BorderPixel}
use Rattle.std.specs.Prelude.{Option, Some, None}
use Rattle.machine.specs.Numbers.{specs_of}
use Rattle.machine.specs.Timing.{delay_at, first_column, border_at, frame_end, interrupt}
use Rattle.machine.proofs.Numbered.{regular}
use Rattle.machine.proofs.Why.{by_why}
use Rattle.machine.proofs.Bounds.{delay_small, blocks_small, Within, border_within}
use Rattle.beam.specs.declared.Question.{Question}
use Rattle.beam.specs.declared.Question.TheVariants.{Beam, Held}
use Rattle.beam.specs.declared.Asked.{Asked}
use Rattle.beam.specs.Decimal.{decimal}
use Rattle.beam.specs.Meaning.{asked, model, line_text, line_meaning, lines_of}
use Rattle.beam.specs.Printed.{border_line, border_pixel, flag, fields, spaced, outside, held_line, answer_to, line_report}
use Rattle.beam.specs.Whole.{title, lines_report, report_of, room}
use Rattle.beam.proofs.Spelling.{length_below, length_from, length_some}
use Rattle.beam.proofs.Means.{means_in}
use Rattle.beam.proofs.Cutting.{line_length, line_in, lines_first}

-- a clock has at most five digits, a machine two or three
frame_digits : (m : ZXMachine) → (specs_of m).frame ≤ 10 ^ 5
frame_digits Sinclair48K = lit≤ tt
frame_digits Sinclair128K = lit≤ tt

model_digits : (m : ZXMachine) → (10 ^ 1 ≤ model m) × (model m < 10 ^ 3)
model_digits Sinclair48K = (lit≤ tt, lit≤ tt)
model_digits Sinclair128K = (lit≤ tt, lit≤ tt)

place_digits : (p : Option BorderPixel) → Within p → (border_line p < 10 ^ 3) × (border_pixel p < 10 ^ 3)
place_digits (Some q) w = (omega (arith, w.0), omega (arith, w.1))
place_digits None w = (omega arith, omega arith)

flag_digit : (on : Bool) → flag on < 10 ^ 1
flag_digit true = lit≤ tt
flag_digit false = lit≤ tt

-- one number behind a space
spaced_length : (n : ℕ) (ns : List ℕ) → length (spaced (n ∷ ns)) ≡ 1 + length (decimal n) + length (spaced ns)
unfolding spaced
spaced_length n ns = omega (arith, length-append (decimal n) (spaced ns))

spaced_none : length (spaced []) ≡ 1
unfolding spaced
spaced_none = refl

-- numbers, each with at most one digit more than is said of it, and how many bytes they print at most
infixr 67 ◌&◌
data Digits : List ℕ → List ℕ → Type 0 where
  none : Digits [] []
  ◌&◌ : {k n : ℕ} {ks ns : List ℕ} → n < 10 ^ suc k → Digits ks ns → Digits (k ∷ ks) (n ∷ ns)

abbrev bytes : List ℕ → ℕ
bytes [] = 1
bytes (k ∷ ks) = 2 + k + bytes ks

spaced_short : {ks ns : List ℕ} → Digits ks ns → length (spaced ns) ≤ bytes ks
spaced_short none = rw spaced_none (omega arith)
spaced_short (◌&◌ {k} {n} {ks} {ns} h d) = rw (spaced_length n ns) (omega (arith, length_below k n h, spaced_short d))

clock_digits : (m : ZXMachine) (t : ℕ) → t < (specs_of m).frame → t < 10 ^ 5
clock_digits m t h = omega (arith, frame_digits m)

beam_length : (m : ZXMachine) (t : ℕ) → t < (specs_of m).frame → length (spaced (fields m t)) ≤ 28
unfolding fields
beam_length m t h =
    let s = specs_of m in
    let b = blocks_small s t in
    let p = place_digits (border_at s t) (border_within s t) in
    spaced_short {ks = 4 ∷ 0 ∷ 2 ∷ 1 ∷ 2 ∷ 2 ∷ 0 ∷ 0 ∷ []} {ns = fields m t}
    (clock_digits m t h
    & (omega (arith, delay_small s t))
    & (omega (arith, b.in_lines))
    & (omega (arith, b.in_columns))
    & p.0
    & p.1
    & flag_digit (frame_end s t)
    & flag_digit (interrupt t)
    & none)

held_length : (m : ZXMachine) (t : ℕ) → t < (specs_of m).frame → length (held_line t (delay_at (specs_of m) t)) ≤ 28
held_length m t h =
    by_why (specs_of m) (regular m).wide t (λ (d : Delay). length (held_line t d) ≤ 28)
    (λ line x i. let d : Digits (4 ∷ 2 ∷ 2 ∷ 1 ∷ 0 ∷ []) (t ∷ line ∷ x ∷ first_column x ∷ (6 - x % 8) ∷ []) =
    clock_digits m t h & (omega (arith, i.lines)) & (omega (arith, i.clocks)) & (omega (arith, i.clocks)) & (omega arith) & none in
    omega (arith, spaced_short d))
    (λ n. omega (arith, length-append (decimal t) outside, length_below 4 t (clock_digits m t h)))

answer_length : (question : Question) (m : ZXMachine) (t : ℕ) → t < (specs_of m).frame → length (answer_to question m t) ≤ 28
answer_length Beam m t h = beam_length m t h
answer_length Held m t h = held_length m t h

-- a good line prints at most 31 bytes and has at least four
good_room : (question : Question) (m : ZXMachine) (t number w : ℕ) → t < (specs_of m).frame → length (line_text m t) ≤ w
    → length (line_report question number (Some (asked m t))) ≤ 8 * w
good_room question m t number w h k =
    let d = model_digits m in
    omega (
      arith,
      length-append (decimal (model m)) (answer_to question m t),
      length_below 2 (model m) d.1,
      answer_length question m t h,
      length-append (decimal (model m) ++ (32 ∷ [])) (decimal t),
      length-append (decimal (model m)) (32 ∷ []),
      length_from 1 (model m) d.0,
      length_some t,
    )

bad_room : (question : Question) (number w : ℕ) → number < 10 ^ 5 → 1 ≤ w → length (line_report question number None) ≤ 8 * w
bad_room question number w h k = omega (arith, length-append (decimal number) (10 ∷ []), length_below 4 number h)

-- what a line prints has room in eight times the bytes that it takes of the input
pub line_room : (question : Question) (line : List ℕ) (number w : ℕ) → number < 10 ^ 5 → 1 ≤ w → length line ≤ w
    → length (line_report question number (line_meaning line)) ≤ 8 * w
line_room question line number w h k l = by_meaning (line_meaning line) refl where
  by_meaning : (x : Option Asked) → line_meaning line ≡ x → length (line_report question number x) ≤ 8 * w
  by_meaning (Some x) e =
      let i = means_in line x.machine x.clock e in
      good_room question x.machine x.clock number w i.1 (rw i.0 at l)
  by_meaning None e = bad_room question number w h k

no_lines : (s : List ℕ) → length s < 1 → lines_of s ≡ []
unfolding lines_of
no_lines [] h = refl
no_lines (b ∷ bs) h = let z : ⊥ = omega arith in absurd z

-- what all lines of a text print has room in eight times the text
lines_room : (question : Question) (k number : ℕ) (s : List ℕ) → length s ≤ k → number + length s ≤ 65537
    → length (lines_report question number (lines_of s)) ≤ 8 * length s
unfolding lines_report
lines_room question zero number s h b = rw (no_lines s (omega arith)) (omega arith)
lines_room question (suc k) number s h b =
    let n = line_length s in
    let d : length (drop (suc n) s) ≡ length s - suc n = length-drop (suc n) s in
    split 1 (length s)
    (λ p. let j : length (lines_report question (number + 1) (lines_of (drop (suc n) s))) ≤ 8 * length (drop (suc n) s) = lines_room question k (number + 1) (drop (suc n) s) (omega arith) (omega arith) in
    let i : length (line_report question number (line_meaning (take n s))) ≤ 8 * (length s - (length s - suc n)) =
    line_room question (take n s) number (length s - (length s - suc n)) (omega arith) (omega arith) (rw length-take (omega (arith, line_in s))) in
    rw (lines_first s p, length-append) (omega arith))
    (λ p. rw (no_lines s p) (omega arith))

-- both titles are as long
pub title_length : (question : Question) → length (title question) ≡ 11
title_length Beam = refl
title_length Held = refl

-- the room that `report` asks for is enough for every input's report
pub room_enough : (question : Question) (input : List ℕ) → length (report_of question input) ≤ room question input
unfolding report_of
room_enough question input =
    split 65537 (length input)
    (λ h. simp (lt-ltb 65536 (length input) h) (omega arith))
    (λ h. simp (le-ltb 65536 (length input) (omega arith)) (rw length-append (omega (arith, lines_room question (length input) 1 input (omega arith) (omega arith)))))

-- and 524,299 bytes are enough for the 65,537 bytes of input that are ever looked at
pub room_small : (question : Question) (input : List ℕ) → length input ≤ 65537 → room question input ≤ 524299
room_small question input h = by_lt (λ (n : ℕ). n ≤ 524299) 65536 (length input) (λ l. omega arith) (λ l. omega (arith, title_length question))
