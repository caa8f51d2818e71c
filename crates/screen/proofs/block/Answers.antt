-- The laws of packed numbers, at the code's own mask, ink and paper.
-- Assumes nothing.
use borrow.Author.Rules.{rules}
use Rattle.screen.proofs.Shown.{block_bytes}
use Rattle.screen.proofs.Packed.{mask_le, ink_lt, mixed_lt}
use Rattle.screen.proofs.block.Goals as goal

pub overflow_mul-w : goal.overflow_mul-w
overflow_mul-w c = search (ink_lt, rules)

pub overflow_sub-w : goal.overflow_sub-w
overflow_sub-w c = search (mask_le, rules)

pub overflow_add-w : goal.overflow_add-w
overflow_add-w c = search (mixed_lt, rules)

pub returns : goal.returns
returns c = search (block_bytes, rules)
