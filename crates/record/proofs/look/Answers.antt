-- Each way out is a case of the definition, by what the tests on the way say.
-- Assumes nothing.
use Rattle.record.proofs.Judged.{held_sound, held_unsound, held_uncoded, held_wrong}
use borrow.Author.Rules.{rules}
use Rattle.record.proofs.look.Goals as goal

pub returns-in_err-bytes : goal.returns-in_err-bytes
returns-in_err-bytes c = search (held_wrong, rules)

pub returns-then-not-coded : goal.returns-then-not-coded
returns-then-not-coded c = search (held_uncoded, rules)

pub returns-then-sound_bus : goal.returns-then-sound_bus
returns-then-sound_bus c = search (held_sound, rules)

pub returns-else-sound_bus : goal.returns-else-sound_bus
returns-else-sound_bus c = search (held_unsound, rules)
