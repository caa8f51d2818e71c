-- SCREEN FILES (02, Q-2): what was saved and is loaded back changes no byte of RAM, and what was loaded is what the page's file then is. What this says of
-- the calls stands in crate contracts, proofs/Screens.antt.
-- Assumes nothing.
use Prim.Native.Nat.{ℕ, ◌+◌, ◌-◌, ◌*◌, ◌≤◌, ◌<◌}
use native.Mathlib.Nat.{add-sub_cancel_left}
use mathlib.Core.Path.{◌≡◌, refl, sym, ap, ◌∙◌}
use mathlib.Core.Bool.{Bool, true, false, ◌||◌, false≢true}
use mathlib.Core.List.{List, ◌++◌}
use native.Mathlib.Omega.{arith}
use lib.Dec.{eqb, lit≤}
use lib.ListN.{length, get_or, take, drop, take-append-drop, length-drop}
use lib.Seq.{length-take-le, take-take, take-add, take_at, get_or-take}
use borrow.Author.Tests.{eqb-true}
use Rattle.laws.proofs.Cases.{by_bool}
use Rattle.machine.specs.declared.ZXMachine.{ZXMachine}
use Rattle.machine.specs.declared.ZXMachine.TheVariants.{Sinclair48K, Sinclair128K}
use Rattle.memory.specs.Paging.{bit_set, shown_page}
use Rattle.memory.specs.Memory.{ram_page, loaded}
use Rattle.memory.specs.Screens.{screen_length, screen_file, video_page}
use Rattle.memory.proofs.Stored.{loaded_cut, loaded_page}

-- a page's file is its first 6,912 bytes
pub file_is_front : (page : List ℕ) → screen_file page ≡ take screen_length page
file_is_front page = sym (take-add 6144 768 page)

module _ (p : ℕ) (ram : List ℕ) (whole : 16384 * p + 16384 ≤ length ram) where
  -- the file of a page of RAM, as a part of RAM
  file_in_ram : screen_file (ram_page p ram) ≡ take screen_length (drop (16384 * p) ram)
  file_in_ram = file_is_front (ram_page p ram) ∙ take-take screen_length 16384 (drop (16384 * p) ram) (lit≤ tt)

  pub file_long : length (screen_file (ram_page p ram)) ≡ screen_length
  file_long = ap length file_in_ram ∙ length-take-le screen_length (drop (16384 * p) ram) (rw length-drop (omega arith))

  -- WHAT WAS SAVED, LOADED BACK INTO THE PAGE THAT IT CAME FROM, CHANGES NO BYTE OF RAM.
  pub saved_loaded : loaded p (screen_file (ram_page p ram)) ram ≡ ram
  saved_loaded =
      loaded_cut p (screen_file (ram_page p ram)) ram (rw file_long (omega arith))
      ∙ ap (λ (n : ℕ). take (16384 * p) ram ++ screen_file (ram_page p ram) ++ drop (16384 * p + n) ram) file_long
      ∙ ap (λ (file : List ℕ). take (16384 * p) ram ++ file ++ drop (16384 * p + screen_length) ram) file_in_ram
      ∙ ap (λ (front : List ℕ). front ++ drop (16384 * p + screen_length) ram) (sym (take-add (16384 * p) screen_length ram))
      ∙ take-append-drop (16384 * p + screen_length) ram

  -- WHAT WAS LOADED IS WHAT THE PAGE'S FILE THEN IS,
  pub loaded_saved : (file : List ℕ) → length file ≡ screen_length → screen_file (ram_page p (loaded p file ram)) ≡ file
  loaded_saved file long =
      file_is_front (ram_page p (loaded p file ram))
      ∙ ap (take screen_length) (loaded_page p file ram whole (omega arith))
      ∙ take_at file (drop (length file) (ram_page p ram)) screen_length long

  -- the copy of the front of the page, as the code lends it, over a file of its length
  abbrev front : List ℕ
  front = take (16384 * p + screen_length - 16384 * p) (drop (16384 * p) ram)

  pub save_is : (old new : List ℕ) → length old ≡ screen_length → new ≡ front → new ≡ screen_file (ram_page p ram)
  save_is old new long f =
      let e : front ≡ screen_file (ram_page p ram) = rw add-sub_cancel_left (sym file_in_ram) in
      f ∙ e

-- BYTE FOR BYTE: where the file of a page is this one, byte i of the page is byte i of the file.
pub file_bytes : (p : ℕ) (ram file : List ℕ) → screen_file (ram_page p ram) ≡ file → (i : ℕ) → i < 6912 → get_or (ram_page p ram) i 0 ≡ get_or file i 0
file_bytes p ram file e i h =
    sym (get_or-take screen_length (ram_page p ram) i 0 h) ∙ ap (λ (l : List ℕ). get_or l i 0) (sym (file_is_front (ram_page p ram)) ∙ e)

-- THE VIDEO PAGES are those that are shown: the shown page is one, whatever the 7FFD byte,
pub shown_is_video : (m : ZXMachine) (paging : ℕ) → video_page m (shown_page m paging) ≡ true
shown_is_video Sinclair48K paging = refl
shown_is_video Sinclair128K paging = by_bool (λ (page : ℕ). video_page Sinclair128K page ≡ true) (bit_set 3 paging) (λ e. refl) (λ e. refl)

-- and a video page is one that some 7FFD byte shows: refusal 9 is given for pages that are never shown, and for no other
pub video_is_shown : (m : ZXMachine) (page : ℕ) → video_page m page ≡ true → (paging : ℕ) × (paging < 256) × (shown_page m paging ≡ page)
video_is_shown Sinclair48K page e = (0, omega arith, sym (eqb-true page 0 e))
video_is_shown Sinclair128K page e = by (eqb page 5) (eqb page 7) refl refl e where
  by : (five seven : Bool) → eqb page 5 ≡ five → eqb page 7 ≡ seven → (five || seven) ≡ true → (paging : ℕ) × (paging < 256) × (shown_page Sinclair128K paging ≡ page)
  by true seven f g h = (0, omega arith, sym (eqb-true page 5 f))
  by false true f g h = (8, omega arith, sym (eqb-true page 7 g))
  by false false f g h = absurd (false≢true h)
