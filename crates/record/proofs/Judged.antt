-- Each way out of the judging functions, over plain values: what the code has tested there is what the definitions test.
-- Assumes nothing.
use Prim.Native.Nat.{ℕ}
use mathlib.Core.Path.{◌≡◌}
use mathlib.Core.List.{List}
use mathlib.Core.Bool.{Bool, true, false, ◌&&◌}
use borrow.Author.Tests.{eq-eqb, ne_eqb}
use lib.ListN.{length}
use Rattle.std.specs.Prelude.{Ok, Err}
use Rattle.record.specs.declared.Bus.{Bus}
use Rattle.record.specs.declared.BadRecord.TheVariants.{WrongLength, Unsound}
use Rattle.record.specs.Record.{sound_bus, marked, codes_in_range, record_of, sound_bytes, held_by, record_length}

module _ (s : List ℕ) (l : length s ≡ record_length) (d : Bool) (hd : d ≡ (marked s && codes_in_range s)) where
  pub held_uncoded : d ≡ false → Err Unsound ≡ held_by s
  unfolding held_by sound_bytes
  held_uncoded e = rw (eq-eqb (length s) record_length l, ← hd, e)

  module _ (b : Bus) (t : Bool) (hb : b ≡ record_of s) (ht : t ≡ sound_bus b) where
    pub held_sound : d ≡ true → t ≡ true → Ok b ≡ held_by s
    unfolding held_by sound_bytes
    held_sound e f = rw (eq-eqb (length s) record_length l, ← hd, e, ← hb, ← ht, f)

    pub held_unsound : d ≡ true → t ≡ false → Err Unsound ≡ held_by s
    unfolding held_by sound_bytes
    held_unsound e f = rw (eq-eqb (length s) record_length l, ← hd, e, ← hb, ← ht, f)

pub held_wrong : (s : List ℕ) → (length s ≡ record_length → ⊥) → Err WrongLength ≡ held_by s
unfolding held_by
held_wrong s n = rw (ne_eqb (length s) record_length n)
