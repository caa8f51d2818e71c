-- Document 01's flash, "on in phases 1 to 16" of 32 (specs/Time), and the public pages' "every 16 frames" (screen, specs/Pages) are one, from
-- any phase on and for ever. In which frame it begins no page says: that is document 01's alone.
-- Assumes nothing.
use mathlib.Core.Path.{◌≡◌, sym, ap, ◌∙◌}
use mathlib.Core.Bool.{cond, not, ◌||◌, xor}
use Prim.Native.Nat.{ℕ, zero, suc, ◌+◌, ◌-◌, ◌%◌, ◌<◌}
use native.Mathlib.Omega.{arith}
use lib.Dec.{eqb}
use Rattle.laws.proofs.Below.{same, same_bool}
use Rattle.screen.specs.Pages.{exchanged_after, exchanged_since_start}
use Rattle.screen.proofs.Pages.{one_frame}
use Rattle.bus.specs.Time.{flash_on}

-- "raises .. the phase by one modulo 32"
abbrev next : ℕ → ℕ
next phase = (phase + 1) % 32

-- frames after this one for which flash stays as it is
abbrev pub more_frames : ℕ → ℕ
more_frames phase = (32 - phase) % 16

module _ (phase : ℕ) (h : phase < 32) where
  -- SIXTEEN FRAMES ON, FLASH IS THE OTHER WAY ROUND.
  pub flash_turns : flash_on ((phase + 16) % 32) ≡ not (flash_on phase)
  flash_turns = same_bool (λ p. flash_on ((p + 16) % 32)) (λ p. not (flash_on p)) 32 tt phase h

  -- It changes behind phase 0 and behind phase 16, and behind no other.
  pub flash_changes : xor (flash_on phase) (flash_on (next phase)) ≡ (eqb phase 0 || eqb phase 16)
  unfolding xor
  flash_changes = same_bool (λ p. xor (flash_on p) (flash_on (next p))) (λ p. eqb p 0 || eqb p 16) 32 tt phase h

  next_flash : flash_on (next phase) ≡ cond (eqb (more_frames phase) 0) (not (flash_on phase)) (flash_on phase)
  next_flash = same_bool (λ p. flash_on (next p)) (λ p. cond (eqb (more_frames p) 0) (not (flash_on p)) (flash_on p)) 32 tt phase h

  next_more : more_frames (next phase) ≡ cond (eqb (more_frames phase) 0) 15 (more_frames phase - 1)
  next_more = same (λ p. more_frames (next p)) (λ p. cond (eqb (more_frames p) 0) 15 (more_frames p - 1)) 32 tt phase h

-- FLASH n FRAMES AFTER ANY PHASE IS THE PAGES'.
pub agree_flash_phase : (phase n : ℕ) → phase < 32 → flash_on ((phase + n) % 32) ≡ exchanged_after (flash_on phase) (more_frames phase) n
unfolding exchanged_after
agree_flash_phase phase zero h = let e : (phase + 0) % 32 ≡ phase = omega arith in rw e
agree_flash_phase phase (suc n) h =
    let e : (phase + suc n) % 32 ≡ (next phase + n) % 32 = omega arith in
    ap flash_on e
    ∙ (agree_flash_phase (next phase) n (omega arith)
    ∙ rw (next_flash phase h, next_more phase h) (sym (one_frame (flash_on phase) (more_frames phase) n)))

-- A start has phase 0: so, n frames after it, too.
pub agree_flash_start : (n : ℕ) → flash_on (n % 32) ≡ exchanged_since_start n
agree_flash_start n = let e : 0 + n ≡ n = omega arith in ap (λ (k : ℕ). flash_on (k % 32)) (sym e) ∙ agree_flash_phase 0 n (omega arith)
