-- What the log says that a catch-up sees (specs/Log, from document 01) is what the painter goes by (bus, specs/Time): position, bytes, shown page and flash.
-- Assumes nothing.
use Prim.Native.Nat.{ℕ, ◌+◌, ◌/◌, ◌%◌}
use mathlib.Core.Bool.{Bool, true, false, ◌&&◌}
use mathlib.Core.Path.{◌≡◌, refl, sym, ap, ◌∙◌}
use native.Mathlib.Omega.{arith}
use native.Mathlib.Decide.{ℕ_discrete}
use lib.Dec.{ltb, leb}
use borrow.Author.Tests.{lt-ltb, le-ltb, le-leb, lt-leb, eq-eqb, ne_eqb}
use Rattle.laws.proofs.Cases.{split}
use Rattle.machine.specs.declared.ZXMachine.{ZXMachine}
use Rattle.machine.specs.declared.ZXMachine.TheVariants.{Sinclair48K, Sinclair128K}
use Rattle.machine.specs.Numbers.{specs_of}
use Rattle.machine.specs.Timing.{block_position, border_position}
use Rattle.machine.proofs.Numbered.{regular}
use Rattle.machine.proofs.Agree.{blocks_are, pairs_are}
use Rattle.memory.specs.Paging.{shown_page}
use Rattle.bus.specs.World.{Core, Screen}
use Rattle.bus.specs.Time.{Look, tick, flash_on, look_at, shows_a, caught_up, closes, rewound, in_screen}
use Rattle.bus.proofs.OneStep.{screen_closed, screen_goes}
use Rattle.history.specs.Log.{Sight, blocks_come, pixels_come, page_seen, flash_seen, sight_at}

-- The blocks that have come are the position that a catch-up reaches.
pub come_is : (m : ZXMachine) (clock : ℕ) → blocks_come m clock ≡ block_position (specs_of m) clock
come_is m clock = blocks_are (specs_of m) clock (regular m).wide

-- And so are the border's pixels, where a border write goes.
pub pixels_are : (m : ZXMachine) (clock : ℕ) → pixels_come m clock ≡ border_position (specs_of m) clock
pixels_are m clock = pairs_are (specs_of m) clock (regular m).wide

page_is : (m : ZXMachine) (byte : ℕ) → page_seen m byte ≡ shown_page m byte
page_is Sinclair48K byte = refl
page_is Sinclair128K byte =
    elim (ℕ_discrete (byte / 8 % 2) 1) [
      | yes e ↦ rw (eq-eqb (byte / 8 % 2) 1 e, e)
      | no f ↦ let e : byte / 8 % 2 ≡ 0 = omega arith in rw (ne_eqb (byte / 8 % 2) 1 f, e)
    ]

flash_is : (phase : ℕ) → flash_seen phase ≡ flash_on phase
flash_is phase = ap (λ (t : Bool). leb 1 phase && t) below_17 where
  below_17 : ltb phase 17 ≡ leb phase 16
  below_17 =
      split phase 16 (λ h. lt-ltb phase 17 (omega arith) ∙ sym (le-leb phase 16 h)) (λ h. le-ltb phase 17 h ∙ sym (lt-leb phase 16 h))

-- a sight as the painter's look
abbrev pub look_of : Sight → Look
look_of s = record { at = s.at; ram = s.ram; page = s.page; flash = s.flash }

-- WHAT THE LOG SEES IS WHAT IS PAINTED.
pub seen_is_painted : (m : ZXMachine) (clock : ℕ) (c : Core) → look_of (sight_at m clock c) ≡ look_at m clock c
seen_is_painted m clock c i =
    record { at = come_is m clock i; ram = c.ram; page = page_is m c.paging i; flash = flash_is c.phase i }

-- so a step catches the screen up with what the log sees of it
module _ (m : ZXMachine) (n : ℕ) (c : Core) (s : Screen) where
  pub screen_ends : closes m n c ≡ true → in_screen m (tick n) c s ≡ rewound (caught_up (look_of (sight_at m (c.clock + n) c)) (shows_a c.phase) s)
  screen_ends e =
      screen_closed m n c s e ∙ ap (λ (l : Look). rewound (caught_up l (shows_a c.phase) s)) (sym (seen_is_painted m (c.clock + n) c))

  pub screen_on : closes m n c ≡ false → in_screen m (tick n) c s ≡ caught_up (look_of (sight_at m (c.clock + n) c)) (shows_a c.phase) s
  screen_on e = screen_goes m n c s e ∙ ap (λ (l : Look). caught_up l (shows_a c.phase) s) (sym (seen_is_painted m (c.clock + n) c))
