-- The loop keeps what is left to print, and that there is room for it (`Walk`). What the kit cuts off is the first line of what is left (`first_line`),
-- and the count ends long behind the lines.
-- Assumes nothing.
use Prim.Native.Nat.{suc, ◌+◌}
use mathlib.Core.Path.{◌≡◌, ◌∙◌, ap}
use lib.Dec.{eqb}
use lib.ListN.{take, drop}
use native.Mathlib.Omega.{arith}
use borrow.Author.Rules.{rules}
use Rattle.std.specs.Iterator.Adapters.{zip_second}
use Rattle.std.specs.Slice.Iter.{split_inclusive_rest}
use Rattle.std.proofs.Common.{inl, inr}
use Rattle.std.proofs.lemmas.List.Sorted.{answers_always}
use Rattle.beam.proofs.Cutting.{line_length, first_line, rest_is, stripped}
use Rattle.beam.proofs.Walking.{walk_start, walk_room, walk_next, walk_end}
use Rattle.beam.proofs.put_lines.Goals as goal
use Rattle.beam.proofs.put_lines.Goals.{After-unwrap_or-line}

pub loop-number-init : goal.loop-number-init
loop-number-init c = search (walk_start, rules)

cut : (c : After-unwrap_or-line) → let s = split_inclusive_rest (zip_second c.loop-number.number-iterator) in
    (c.unwrap_or-line.result.now ≡ take (line_length s) s) × (split_inclusive_rest (zip_second c.next.new.self) ≡ drop (suc (line_length s)) s)
cut c =
    let h = c.in-Some.ensures.steps.1 in
    let f = h.1.2 (λ b. eqb b 10) (answers_always _ _ _ (λ f a r f' k. search rules)) in (
      first_line _ _ _ h.1.0 h.0 h.1.1 f.1.0 f.1.1 h.2 _
          (rw c.unwrap_or-line.ensures (stripped _ _ (omega (arith, h.1.1, h.2)) c.strip_suffix.ensures.cases)),
      rest_is _ _ _ h.1.0 h.0 h.1.1 f.1.0 f.1.1,
    )

pub put_line-next-requires : goal.put_line-next-requires
put_line-next-requires c =
    let k = cut (goal.at-put_line-next-requires c).After-unwrap_or-line in
    let n = c.in-Some.ensures.steps.0.0 in
    rw n (walk_room _ _ _ _ _ _ _ _ _ _ c.loop-number.invariant c.requires.input_len_bound c.in-Some.ensures.steps.1.2 k.0 k.1)

pub loop-number-preserved : goal.loop-number-preserved
loop-number-preserved c =
    let k = cut (goal.at-loop-number-preserved c).After-unwrap_or-line in
    let n = c.in-Some.ensures.steps.0 in
    rw (n.1 ∙ ap (λ x. x + 1) n.0)
    (walk_next _ _ _ _ _ _ _ _ _ _ c.loop-number.invariant c.requires.input_len_bound c.in-Some.ensures.steps.1.2 k.0 k.1 _ _
    (rw n.0 at c.put_line-next.ensures))

pub returns : goal.returns
returns c =
    elim c.in-None.ensures.steps [
      | inl x ↦ absurd (omega (arith, x.1.0, c.loop-number.invariant.counted, c.requires.input_len_bound))
      | inr x ↦ walk_end _ _ _ _ _ _ _ _ c.loop-number.invariant x.1.0
    ]
