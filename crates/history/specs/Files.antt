-- What a screen file that is read in mid-frame does to the frames (02, Q-2): "A file read mid-frame shows from the next catch-up on, so demand 3 stands."
-- Assumes nothing.
use Rattle.std.specs.Prelude.{ℕ, zero, suc, ◌≤◌, ◌<◌, ◌≡◌, List, [], ◌∷◌}
use Rattle.machine.specs.declared.ZXMachine.{ZXMachine}
use Rattle.memory.specs.Memory.{ram_page}
use Rattle.memory.specs.Screens.{screen_file}
use Rattle.paint.specs.Paint.{block_at}
use Rattle.contracts.specs.Calls.{Made}
use Rattle.history.specs.Log.{Sight, Frame, Shot, last_at, reaching, block_by, block_in}
use Rattle.history.specs.Demand.{History, gone_on}

-- the file of a page, as RAM has it
abbrev pub file_in : ℕ → List ℕ → List ℕ
file_in page ram = screen_file (ram_page page ram)

-- calls that leave the file of a page as it is: they may store bytes anywhere else
abbrev pub FileStays : ZXMachine → ℕ → List Made → History → Type 0
FileStays m page [] h = Unit {0}
FileStays m page (c ∷ cs) h =
    (file_in page (gone_on m c h).world.core.ram ≡ file_in page h.world.core.ram) × FileStays m page cs (gone_on m c h)

-- what a frame had seen when the file was read: the frame under way then, of age 0, the catch-ups before that; a later frame nothing
abbrev pub seen_before : ℕ → List Sight → List Sight
seen_before zero before = before
seen_before (suc age) before = []

-- A COMPLETED FRAME, and what memory held as it closed: blocks reached before keep the old bytes, blocks reached after have the file's.
pub record FileShows (file : List ℕ) (page : ℕ) (before : List Sight) (s : Shot) (f : Frame) : Type 0 where
  -- by the catch-up that reached each, which came before the file, with the bytes held then
  pub reached_before : (k : ℕ) → k < last_at before → block_in s.picture k ≡ block_by (reaching k before) k
  -- where the catch-up that reached it saw that page, with the flash that it saw
  pub reached_after : (k : ℕ) → last_at before ≤ k → k < 6144 → (reaching k f.sights).page ≡ page
      → block_in s.picture k ≡ block_at file (reaching k f.sights).flash k
