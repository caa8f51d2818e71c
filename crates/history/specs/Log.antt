-- What a frame is made of: its catch-ups, and its border writes. The log reads calls and time rules alone: it is a function of operations and
-- of the core, so that no picture and no painted count can reach it. What a catch-up sees is spelled out here from document 01, and not by the
-- definitions that the painter goes by (bus, specs/Time): that the two are one is proved (proofs/Seen.antt). Newest first throughout.
-- Assumes nothing.
use Rattle.std.specs.Prelude.{ℕ, ◌+◌, ◌-◌, ◌*◌, ◌/◌, ◌%◌, ◌≤◌, ◌<◌, Bool, false, cond, ◌&&◌, ◌≡◌, List, [], ◌∷◌, ◌++◌, ltb, leb, get_or, take, drop}
use Rattle.machine.specs.declared.ZXMachine.{ZXMachine}
use Rattle.machine.specs.declared.ZXMachine.TheVariants.{Sinclair48K, Sinclair128K}
use Rattle.machine.specs.Numbers.{specs_of}
use Rattle.machine.specs.Limits.{border_length}
use Rattle.machine.specs.Pages.{passed}
use Rattle.paint.specs.Paint.{block_at, blocks}
use Rattle.memory.specs.Memory.{ram_page}
use Rattle.bus.specs.World.{Core, World, clear_picture}
use Rattle.bus.specs.Time.{lasts, Op, step, colour, silent, closes, in_core, does, shown_picture}

-- what a catch-up sees: how many blocks have come, and "the bytes, shown page and flash held"
pub record Sight : Type 0 where
  pub at : ℕ
  pub ram : List ℕ
  pub page : ℕ
  pub flash : Bool

-- how many of the 6,144 blocks have come at a clock: the first at the block origin, 32 on each of 192 lines, 4 clocks apart
abbrev pub blocks_come : ZXMachine → ℕ → ℕ
blocks_come m clock = passed 192 32 4 (specs_of m).line (specs_of m).block clock

-- "the shown page (page 0 on 48K, 5 or 7 on 128K)", "bit 3 shows page 7": in a byte that bit counts 8
abbrev pub page_seen : ZXMachine → ℕ → ℕ
page_seen Sinclair48K byte = 0
page_seen Sinclair128K byte = 5 + 2 * (byte / 8 % 2)

-- "flash is on in phases 1 to 16"
abbrev pub flash_seen : ℕ → Bool
flash_seen phase = ltb 0 phase && ltb phase 17

-- a catch-up at a clock of the frame, by what the core holds then
abbrev pub sight_at : ZXMachine → ℕ → Core → Sight
sight_at m clock c =
    record { at = blocks_come m clock; ram = c.ram; page = page_seen m c.paging; flash = flash_seen c.phase }

-- how many of the border's 76,800 pixels have come at a clock: two at the border origin, 160 pairs on each of 240 lines, a clock apart
abbrev pub pixels_come : ZXMachine → ℕ → ℕ
pixels_come m clock = 2 * passed 240 160 1 (specs_of m).line (specs_of m).border clock

-- a border write: its position, and its colour
pub record Ink : Type 0 where
  pub at : ℕ
  pub colour : ℕ

-- a frame: its catch-ups, the colour that the border had as it began, and its border writes
pub record Frame : Type 0 where
  pub sights : List Sight
  pub enter : ℕ
  pub inks : List Ink

pub record Log : Type 0 where
  pub current : Frame
  pub done : List Frame

-- one catch-up more
abbrev pub with_sight : Sight → Frame → Frame
with_sight s f = record { sights = s ∷ f.sights; enter = f.enter; inks = f.inks }

-- one border write more
abbrev pub with_ink : Ink → Frame → Frame
with_ink i f = record { sights = f.sights; enter = f.enter; inks = i ∷ f.inks }

-- the colour last written
abbrev pub last_colour : ℕ → List Ink → ℕ
last_colour enter [] = enter
last_colour enter (i ∷ is) = i.colour

-- the next frame begins with it
abbrev pub opened : Frame → Frame
opened f = record { sights = []; enter = last_colour f.enter f.inks; inks = [] }

-- a step is a catch-up at the clock that it reaches, before anything is subtracted: the last of its frame if it closes it
abbrev pub frame_ends : ZXMachine → ℕ → Core → Log → Log
frame_ends m n c l = record { current = opened l.current; done = with_sight (sight_at m (c.clock + n) c) l.current ∷ l.done }

abbrev pub frame_goes_on : ZXMachine → ℕ → Core → Log → Log
frame_goes_on m n c l = record { current = with_sight (sight_at m (c.clock + n) c) l.current; done = l.done }

-- what an operation adds to the log
unfoldable pub noted : ZXMachine → Op → Core → Log → Log
noted m (step h n) c l = cond (closes m (lasts h n) c) (frame_ends m (lasts h n) c l) (frame_goes_on m (lasts h n) c l)
noted m (colour k) c l =
    record { current = with_ink (record { at = pixels_come m c.clock; colour = k }) l.current; done = l.done }
noted m (silent o) c l = l

unfoldable pub follow : ZXMachine → List Op → Core → Log → Log
follow m [] c l = l
follow m (o ∷ os) c l = follow m os (in_core m o c) (noted m o c l)

-- "the start's colour being the first"
abbrev pub blank : ℕ → Log
blank first = record { current = record { sights = []; enter = first; inks = [] }; done = [] }

-- ---- what a frame's log says of its pixels
-- the position of the last catch-up, 0 before the first
abbrev pub last_at : List Sight → ℕ
last_at [] = 0
last_at (s ∷ ss) = s.at

-- "the blocks of each catch-up start where the frame's last one ended, the first at 0": whether one that follows those before it paints block k
abbrev pub paints : ℕ → Sight → List Sight → Bool
paints k s before = leb (last_at before) k && ltb k s.at

-- how many catch-ups of a frame paint block k
unfoldable pub times_painted : ℕ → List Sight → ℕ
times_painted k [] = 0
times_painted k (s ∷ ss) = cond (paints k s ss) 1 0 + times_painted k ss

-- the one that reached it; a frame without catch-ups has none
abbrev pub no_sight : Sight
no_sight = record { at = 0; ram = []; page = 0; flash = false }

unfoldable pub reaching : ℕ → List Sight → Sight
reaching k [] = no_sight
reaching k (s ∷ ss) = cond (paints k s ss) s (reaching k ss)

-- the eight pixels of block k by "the bytes, shown page and flash" of a catch-up
abbrev pub block_by : Sight → ℕ → List ℕ
block_by s k = block_at (ram_page s.page s.ram) s.flash k

-- the eight pixels of block k in a picture
abbrev pub block_in : List ℕ → ℕ → List ℕ
block_in picture k = take 8 (drop (8 * k) picture)

-- what a catch-up draws from a block on
abbrev pub drawn_by : Sight → ℕ → List ℕ
drawn_by s from = blocks (ram_page s.page s.ram) s.flash from (s.at - from)

-- what the catch-ups draw, in raster order, one behind the other
unfoldable pub drawn : List Sight → List ℕ
drawn [] = []
drawn (s ∷ ss) = drawn ss ++ drawn_by s (last_at ss)

-- "the colour last written at or before it": a border write reaches the pixels from its position on
unfoldable pub border_colour : ℕ → ℕ → List Ink → ℕ
border_colour pixel enter [] = enter
border_colour pixel enter (i ∷ is) = cond (leb i.at pixel) i.colour (border_colour pixel enter is)

-- the picture of the newest completed frame, and of the one before; all 0, as the start left them, where there was none
abbrev pub newest : List Frame → List ℕ
newest [] = clear_picture
newest (f ∷ fs) = drawn f.sights

abbrev pub older : List Frame → List ℕ
older [] = clear_picture
older (f ∷ fs) = newest fs

-- the border of the newest completed frame
abbrev pub border_of : List Frame → ℕ → ℕ
border_of [] pixel = 0
border_of (f ∷ fs) pixel = border_colour pixel f.enter f.inks

-- ---- what memory holds as each frame closes
-- the picture shown and the border, read from memory as the closing step leaves them
pub record Shot : Type 0 where
  pub picture : List ℕ
  pub border : List ℕ

abbrev pub shot_of : World → Shot
shot_of w = record { picture = shown_picture w.core w.screen; border = w.edge.pixels }

unfoldable pub filmed : ZXMachine → Op → World → List Shot → List Shot
filmed m (step h n) w ss = cond (closes m (lasts h n) w.core) (shot_of (does m (step h n) w) ∷ ss) ss
filmed m (colour k) w ss = ss
filmed m (silent o) w ss = ss

unfoldable pub film : ZXMachine → List Op → World → List Shot → List Shot
film m [] w ss = ss
film m (o ∷ os) w ss = film m os (does m o w) (filmed m o w ss)

-- ---- the sentences of demand 3 that speak of one frame
-- each catch-up's position is at or past the one before
abbrev pub Rising : List Sight → Type 0
Rising [] = Unit {0}
Rising (s ∷ ss) = (last_at ss ≤ s.at) × Rising ss

-- "Each completed frame has painted each of its 6,144 blocks once, in raster order, with the bytes, shown page and flash held when its
-- catch-up reached it; each border pixel has the colour last written at or before it"
pub record Shows (s : Shot) (f : Frame) : Type 0 where
  -- each block "with the bytes, shown page and flash held when its catch-up reached it"
  pub blocks : (k : ℕ) → k < 6144 → block_in s.picture k ≡ block_by (reaching k f.sights) k
  -- "once"
  pub once : (k : ℕ) → k < 6144 → times_painted k f.sights ≡ 1
  -- "in raster order", to the last of them
  pub rising : Rising f.sights
  pub whole : last_at f.sights ≡ 6144
  -- and the picture is nothing but what was so drawn
  pub picture : s.picture ≡ drawn f.sights
  pub border : (pixel : ℕ) → pixel < border_length → get_or s.border pixel 0 ≡ border_colour pixel f.enter f.inks

abbrev pub AllShow : List Shot → List Frame → Type 0
AllShow [] [] = Unit {0}
AllShow [] (f ∷ fs) = ⊥
AllShow (s ∷ ss) [] = ⊥
AllShow (s ∷ ss) (f ∷ fs) = Shows s f × AllShow ss fs

-- a frame begins with the colour last written in the frames before it, "the start's colour being the first"
abbrev pub Chained : ℕ → Frame → List Frame → Type 0
Chained first f [] = f.enter ≡ first
Chained first f (g ∷ gs) = (f.enter ≡ last_colour g.enter g.inks) × Chained first g gs

-- ---- what memory holds after a call that closed a frame: the newest completed frame, and of the next frame's border nothing
abbrev pub NewestShows : Shot → List Frame → Type 0
NewestShows s [] = ⊥
NewestShows s (f ∷ fs) = Shows s f

pub record Ended (w : World) (fs : List Frame) : Type 0 where
  pub shows : NewestShows (shot_of w) fs
  pub unblocked : w.edge.blocked ≡ false
  pub pairs : w.edge.pairs ≡ 0
