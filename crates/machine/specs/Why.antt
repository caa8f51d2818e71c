-- The delay's answer in the words of a loader author (02, Q-6): what it says of the clock it was asked at.
-- Assumes nothing.
use Rattle.std.specs.Prelude.{ℕ, ◌+◌, ◌-◌, ◌*◌, ◌%◌, ◌<◌, ◌≡◌, cond, ltb, leb}
use Rattle.machine.specs.declared.ZXSpecs.{ZXSpecs}
use Rattle.machine.specs.declared.Delay.TheVariants.{Held, Outside}
use Rattle.machine.specs.Timing.{entry, delay_at, delay}

-- the clock is "contention origin + l lines + x with l below 192 and x below 128"
pub record InPicture (s : ZXSpecs) (clock line x : ℕ) : Type 0 where
  pub lines : line < 192
  pub clocks : x < 128
  pub at : clock ≡ s.contention + line * s.line + x

-- the number as it was before it said why: document 01's sentences, and no more
abbrev pub number_before : ZXSpecs → ℕ → ℕ
number_before s clock =
    cond (ltb clock s.contention) 0
    (cond (leb (s.contention + 192 * s.line) clock) 0
    (cond (leb 128 ((clock - s.contention) % s.line)) 0
    (entry ((clock - s.contention) % s.line))))

-- WHAT THE ANSWER AT A CLOCK SAYS: held at a line and an x exactly when the clock is there, outside exactly otherwise; and the clocks are those
-- of before
pub record Why (s : ZXSpecs) (clock : ℕ) : Type 0 where
  pub held : (line x clocks : ℕ) → delay_at s clock ≡ Held line x clocks → InPicture s clock line x
  pub there : (line x : ℕ) → InPicture s clock line x → delay_at s clock ≡ Held line x (delay s clock)
  pub outside : delay_at s clock ≡ Outside → (line x : ℕ) → InPicture s clock line x → ⊥
  pub otherwise : ((line x : ℕ) → InPicture s clock line x → ⊥) → delay_at s clock ≡ Outside
  pub number : delay s clock ≡ number_before s clock
