-- Where a step leaves the painted count, the pictures and the border, and above all what the clocks left over past a frame's end do: nothing.
-- Assumes nothing.
use mathlib.Core.Path.{◌≡◌, refl, sym, ap, ◌∙◌}
use mathlib.Core.Bool.{Bool, true, false, cond, not}
use mathlib.Core.List.{List}
use mathlib.Core.Logic.{inl}
use Prim.Native.Nat.{ℕ, ◌+◌, ◌-◌, ◌*◌, ◌%◌, ◌<◌, ◌≤◌}
use native.Mathlib.Omega.{arith}
use borrow.Author.Tests.{eq-eqb, ne_eqb, eqb-true, eqb-false}
use lib.ListN.{length, get_or}
use Rattle.machine.specs.declared.ZXMachine.{ZXMachine}
use Rattle.machine.specs.Numbers.{specs_of}
use Rattle.machine.specs.Timing.{block_position}
use Rattle.machine.proofs.Numbered.{regular}
use Rattle.machine.proofs.Rising.{blocks_at_end}
use Rattle.paint.specs.Paint.{block_at, paint}
use Rattle.paint.proofs.Painting.{paint_in, paint_out}
use Rattle.border.specs.Edge.{finished}
use Rattle.memory.specs.Paging.{shown_page}
use Rattle.memory.specs.Memory.{ram_page}
use Rattle.bus.specs.World.{Core, Screen, World}
use Rattle.bus.specs.Time.{Look, tick, closes, flash_on, shows_a, shown_picture, hidden_picture, caught_up, rewound, wrapped, does}
use Rattle.bus.proofs.OneStep.{frame_long, goes_on_at, closes_if, core_closed, core_goes, screen_closed, screen_goes, edge_closed}

-- ---- any step

module _ (m : ZXMachine) (n : ℕ) (w : World) where
  painted_by : (b : Bool) → closes m n w.core ≡ b → (does m (tick n) w).screen.painted ≡ cond b 0 (block_position (specs_of m) (w.core.clock + n))
  unfolding caught_up
  painted_by true e = rw (screen_closed m n w.core w.screen e) (omega arith)
  painted_by false e = rw (screen_goes m n w.core w.screen e) (omega arith)

  -- After a step the painted count is the position that the clock has reached, or 0 if the step closed the frame.
  pub step_painted : (does m (tick n) w).screen.painted ≡ cond (closes m n w.core) 0 (block_position (specs_of m) (w.core.clock + n))
  step_painted = painted_by (closes m n w.core) refl

  inside_by : (b : Bool) → closes m n w.core ≡ b → w.core.clock < (specs_of m).frame → n ≤ 65541 → (does m (tick n) w).core.clock < (specs_of m).frame
  inside_by true e h k = let l = frame_long m in rw (core_closed m n w.core e) (omega arith)
  inside_by false e h k = let l = goes_on_at m n w.core e in rw (core_goes m n w.core e) l

  -- A step of at most 65,541 clocks closes at most one frame: the clock is then within the frame.
  pub step_inside : w.core.clock < (specs_of m).frame → n ≤ 65541 → (does m (tick n) w).core.clock < (specs_of m).frame
  step_inside h k = inside_by (closes m n w.core) refl h k

-- ---- a step that closes the frame

-- the bytes that a catch-up sees: the shown page of RAM, and the flash
abbrev pub held_page : ZXMachine → Core → List ℕ
held_page m c = ram_page (shown_page m c.paging) c.ram

abbrev pub held_flash : Core → Bool
held_flash c = flash_on c.phase

-- a picture with the rest of its frame's blocks painted, from the painted count up to 6,144, with what the core holds
abbrev pub completed : ZXMachine → Core → ℕ → List ℕ → List ℕ
completed m c from picture = paint (held_page m c) (held_flash c) from (6144 - from) picture

-- A and B swap places as the phase goes on, from 31 to 0 too
swapped : (m : ZXMachine) (n : ℕ) (c : Core) (b : Bool) → shows_a c.phase ≡ b → shows_a (wrapped m n c).phase ≡ not b
swapped m n c true e = let h = eqb-true (c.phase % 2) 0 e in ne_eqb ((wrapped m n c).phase % 2) 0 (λ k. omega arith)
swapped m n c false e = let h = eqb-false (c.phase % 2) 0 e in eq-eqb ((wrapped m n c).phase % 2) 0 (omega arith)

-- the screen after a catch-up to the last block, and a new start
closed_screen : ZXMachine → Core → Screen → Screen
closed_screen m c s =
    record {
      painted = 0;
      a = cond (shows_a c.phase) s.a (completed m c s.painted s.a);
      b = cond (shows_a c.phase) (completed m c s.painted s.b) s.b;
    }

last_look : ZXMachine → Core → ℕ → Look
last_look m c at = record { at = at; ram = c.ram; page = shown_page m c.paging; flash = flash_on c.phase }

all_painted : (m : ZXMachine) (c : Core) (s : Screen) (b : Bool) → shows_a c.phase ≡ b → rewound (caught_up (last_look m c 6144) (shows_a c.phase) s) ≡ closed_screen m c s
unfolding caught_up closed_screen last_look
all_painted m c s true e = rw e
all_painted m c s false e = rw e

module _ (m : ZXMachine) (n : ℕ) (w : World) (over : (specs_of m).frame ≤ w.core.clock + n) where
  -- no n stands on the right: what is left of it past the frame's end has no say
  closed_screen_lem : (does m (tick n) w).screen ≡ closed_screen m w.core w.screen
  unfolding last_look
  closed_screen_lem =
      screen_closed m n w.core w.screen (closes_if m n w.core over)
      ∙ ap (λ (at : ℕ). rewound (caught_up (last_look m w.core at) (shows_a w.core.phase) w.screen))
      (blocks_at_end (specs_of m) (regular m) (w.core.clock + n) (omega arith))
      ∙ all_painted m w.core w.screen (shows_a w.core.phase) refl

  shows_by : (b : Bool) → shows_a w.core.phase ≡ b
      → (shown_picture (does m (tick n) w).core (does m (tick n) w).screen ≡ completed m w.core w.screen.painted (hidden_picture w.core w.screen))
      × (hidden_picture (does m (tick n) w).core (does m (tick n) w).screen ≡ shown_picture w.core w.screen)
  unfolding closed_screen
  shows_by true e = rw (core_closed m n w.core (closes_if m n w.core over), closed_screen_lem, swapped m n w.core true e, e) (refl, refl)
  shows_by false e = rw (core_closed m n w.core (closes_if m n w.core over), closed_screen_lem, swapped m n w.core false e, e) (refl, refl)

  -- THE FINISHED FRAME. The picture shown after a step that closes a frame is the one that was hidden, with the blocks from the painted
  -- count up to 6,144 painted with the bytes, shown page and flash held before the step, and no other block.
  pub closing_shows : shown_picture (does m (tick n) w).core (does m (tick n) w).screen
      ≡ completed m w.core w.screen.painted (hidden_picture w.core w.screen)
  closing_shows = (shows_by (shows_a w.core.phase) refl).0

  -- THE NEW FRAME will be painted into the picture shown until now, of which the step changes no byte,
  pub closing_hides : hidden_picture (does m (tick n) w).core (does m (tick n) w).screen ≡ shown_picture w.core w.screen
  closing_hides = (shows_by (shows_a w.core.phase) refl).1

  -- and has none of its blocks painted, however many clocks are left over.
  pub closing_rewinds : (does m (tick n) w).screen.painted ≡ 0
  unfolding closed_screen
  closing_rewinds = ap (λ (s : Screen). s.painted) closed_screen_lem

  -- THE BORDER is finished: filled to its end in the beam's colour unless a write at frame end did so.
  pub closing_border : (does m (tick n) w).edge ≡ finished w.edge
  closing_border = edge_closed m n w.core w.edge (closes_if m n w.core over)

  -- The same said pixel by pixel: block k from the painted count on has the eight pixels of what is held,
  pub closing_block : (k i : ℕ) → w.screen.painted ≤ k → k < 6144 → i < 8 → length (hidden_picture w.core w.screen) ≡ 49152
      → get_or (shown_picture (does m (tick n) w).core (does m (tick n) w).screen) (8 * k + i) 0 ≡ get_or (block_at (held_page m w.core) (held_flash w.core) k) i 0
  closing_block k i h l j size =
      ap (λ (p : List ℕ). get_or p (8 * k + i) 0) closing_shows
      ∙ paint_in (held_page m w.core) (held_flash w.core) w.screen.painted (6144 - w.screen.painted) (hidden_picture w.core w.screen) k i h
      (omega arith) j (omega arith)

  -- and the pixels of the blocks before it are those that earlier catch-ups of the frame left.
  pub closing_before : (j : ℕ) → j < 8 * w.screen.painted
      → get_or (shown_picture (does m (tick n) w).core (does m (tick n) w).screen) j 0 ≡ get_or (hidden_picture w.core w.screen) j 0
  closing_before j h =
      ap (λ (p : List ℕ). get_or p j 0) closing_shows
      ∙ paint_out (held_page m w.core) (held_flash w.core) w.screen.painted (6144 - w.screen.painted) (hidden_picture w.core w.screen) j (inl h)

-- THE LEFT-OVER THEOREM. "One build of our handheld painted the tail into the frame just finished." Here the tail paints nothing, neither into
-- the frame just finished nor into the new one: a step that closes a frame leaves the same pictures A and B, the same painted count and
-- the same border, whether it ends just at the frame's end or any number of clocks past it.
pub left_over : (m : ZXMachine) (n n' : ℕ) (w : World) → (specs_of m).frame ≤ w.core.clock + n → (specs_of m).frame ≤ w.core.clock + n'
    → ((does m (tick n) w).screen ≡ (does m (tick n') w).screen) × ((does m (tick n) w).edge ≡ (does m (tick n') w).edge)
left_over m n n' w h h' =
    (closed_screen_lem m n w h ∙ sym (closed_screen_lem m n' w h'), closing_border m n w h ∙ sym (closing_border m n' w h'))
