-- Document 02, Q-2, "Screen files": what stands in one, and into which pages one is read.
-- Assumes nothing.
use Rattle.std.specs.Prelude.{ℕ, Bool, ◌||◌, List, ◌++◌, eqb, take, drop}
use Rattle.machine.specs.declared.ZXMachine.{ZXMachine}
use Rattle.machine.specs.declared.ZXMachine.TheVariants.{Sinclair48K, Sinclair128K}

-- "6,144 bitmap bytes .., then 768 attribute bytes"
abbrev pub bitmap_length : ℕ
bitmap_length = 6144

abbrev pub attributes_length : ℕ
attributes_length = 768

-- "a lent file of 6,912"
abbrev pub screen_length : ℕ
screen_length = 6912

-- a video page begins with its bitmap, and the attributes stand behind that
abbrev pub bitmap_of : List ℕ → List ℕ
bitmap_of page = take bitmap_length page

abbrev pub attributes_of : List ℕ → List ℕ
attributes_of page = take attributes_length (drop bitmap_length page)

-- "SCR files: 6,144 bitmap bytes in page order, then 768 attribute bytes": the file of a page
abbrev pub screen_file : List ℕ → List ℕ
screen_file page = bitmap_of page ++ attributes_of page

-- "a named video page (0 on 48K; 5 or 7 on 128K)"
abbrev pub video_page : ZXMachine → ℕ → Bool
video_page Sinclair48K page = eqb page 0
video_page Sinclair128K page = eqb page 5 || eqb page 7
