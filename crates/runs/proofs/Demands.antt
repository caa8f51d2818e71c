-- BOTH DEMANDS, OF EVERY RUN OF THE C FUNCTIONS; where the start's colour shows; and what a screen file that is read in mid-frame shows.
-- Assumes nothing.
use Prim.Native.Nat.{ℕ, suc, ◌+◌, ◌<◌}
use mathlib.Core.List.{List, ◌∷◌, ◌++◌}
use mathlib.Core.Path.{◌≡◌, sym, ◌∙◌, subst}
use lib.ListN.{length, get_or, drop}
use Rattle.machine.specs.Numbers.{specs_of}
use Rattle.machine.specs.Limits.{border_length}
use Rattle.record.specs.Record.{machine_of}
use Rattle.contracts.specs.Timed.{Lent, lent_by}
use Rattle.contracts.specs.Calls.{Start, asked_machine, first_colour, started_world, started_by, load_screen, Made, Obeyed, NoSecondStart}
use Rattle.contracts.proofs.Starts.{start_left, first_beam}
use Rattle.screen.specs.Colour.{colour_of}
use Rattle.rustzx.specs.Controller.{ZXController, new, with_rom, set_beam}
use Rattle.rustzx.proofs.Helpers.{rust_colour}
use Rattle.rustzx.proofs.EveryState.{every_machine}
use Rattle.history.specs.Demand.{gone_on, history, Demand3}
use Rattle.history.specs.Fresh.{Fresh}
use Rattle.history.specs.First.{Unwritten, AllBehind}
use Rattle.history.specs.Files.{FileStays, seen_before, FileShows}
use Rattle.history.proofs.Fresh.{start_fresh}
use Rattle.history.proofs.Demand3.{demand3}
use Rattle.history.proofs.Sentences.{no_frame, no_shot}
use Rattle.history.proofs.Files.{file_shows}
use Rattle.history.proofs.First.{first_colour_shows}
use Rattle.surface.specs.Same.{SameLent, Clears}
use Rattle.surface.specs.Chain.{AllSame, OneRom}
use Rattle.surface.proofs.StartSame.{beam_held, white_beam, rust_named, rust_coloured}
use Rattle.surface.proofs.ChainSame.{from_held, held_by_some_lem}
use Rattle.runs.specs.Run.{Run, Begins}
use Rattle.runs.specs.Demands.{reported_over, Demands}
use Rattle.runs.proofs.Obeyed.{run_obeys, run_typed, run_begins}

-- a run begins with a fresh machine
begun_run : (how : Start) (before after : Lent) → Begins how before after
    → Fresh (machine_of (asked_machine how)) (started_world how) × (after ≡ lent_by (machine_of (asked_machine how)) (started_world how))
begun_run how before after begins =
    let b = run_begins how before after begins in
    (start_fresh how before b.0 b.1, sym b.2 ∙ start_left how before b.1)

pub both_demands : (how : Start) (before after : Lent) (cs : List Made) (rom : List ℕ) → Begins how before after → Run cs after → NoSecondStart cs
    → OneRom rom cs → length rom ≡ (specs_of (machine_of (asked_machine how))).rom → Demands how rom cs after
both_demands how before after cs rom begins run first its long =
    let b = run_begins how before after begins in
    let left : Lent = (started_by how before).slices in
    let obeyed = run_obeys cs after run in
    let typed = run_typed cs after run in
    let m = machine_of (asked_machine how) in
    let w = started_world how in
    let x = begun_run how before after begins in
    let color = rust_colour (colour_of (first_colour how)) in
    let coloured = rust_coloured how before b.1 in
    let held : (c : ZXController) → SameLent rom c after → AllSame rom cs c after =
    λ c s. subst (AllSame rom cs c) b.2 (from_held how before rom b.0 b.1 cs (subst (Obeyed cs) (sym b.2) obeyed) typed first its c (subst (SameLent rom c) (sym b.2) s)) in
    let beam : Clears how → AllSame rom cs (with_rom rom (set_beam color (new (every_machine m).0))) after =
    λ clears. held (with_rom rom (set_beam color (new (every_machine m).0))) (subst (SameLent rom (with_rom rom (set_beam color (new (every_machine m).0)))) b.2 (beam_held how clears before rom long b.1)) in
    record {
      rust = (every_machine m).0;
      named = rust_named how before b.1;
      color = color;
      coloured = coloured;
      demand2 = λ clears e. subst (λ (c : ZXController). AllSame rom cs (with_rom rom c) after) (white_beam (every_machine m).0 color (coloured ∙ e)) (beam clears);
      demand2_beam = beam;
      demand2_held = held;
      held_by_some = subst (λ (l : Lent). (c : ZXController) × SameLent rom c l) b.2 (held_by_some_lem how before rom b.0 long b.1);
      demand3 = subst (λ (l : Lent). Demand3 m w cs (history m w cs) (reported_over cs l)) (sym x.1)
          (demand3 m w x.0 cs (subst (Obeyed cs) x.1 obeyed) typed first);
    }

-- THE START'S COLOUR SHOWS UNTIL THE FIRST BORDER WRITE, in a run of the C functions: of completed frame i, 0 the newest, where the frames before it had no
-- border write, each pixel of the border that no write of its own frame has reached. After `ulb_start` that is black.
pub first_colour_in_run : (how : Start) (before after : Lent) (cs : List Made) → Begins how before after → Run cs after → NoSecondStart cs
    → let h = history (machine_of (asked_machine how)) (started_world how) cs in
    (i : ℕ) → i < length h.log.done → Unwritten (drop (suc i) h.log.done) → (pixel : ℕ) → pixel < border_length → AllBehind pixel (get_or h.log.done i no_frame).inks
    → get_or (get_or h.shots i no_shot).border pixel 0 ≡ first_colour how
first_colour_in_run how before after cs begins run first i p u pixel q behind =
    let x = begun_run how before after begins in
    subst (λ (colour : ℕ). get_or (get_or (history (machine_of (asked_machine how)) (started_world how) cs).shots i no_shot).border pixel 0 ≡ colour) (first_beam how) (
    first_colour_shows (machine_of (asked_machine how)) (started_world how) x.0 cs (subst (Obeyed cs) x.1 (run_obeys cs after run)) (run_typed cs after run) first i p u pixel q behind)

-- A FILE READ MID-FRAME, in a run of the C functions: `ulb_load_scr` was accepted after the calls cs, and the calls ds left the file's bytes in place. Of
-- each frame completed since, blocks reached before keep the old bytes, blocks reached after have the file's.
pub file_shows_in_run : (how : Start) (buffers after : Lent) (cs ds : List Made) (c : Made) → Begins how buffers after → Run (cs ++ c ∷ ds) after
    → NoSecondStart (cs ++ c ∷ ds) → (file : List ℕ) (page : ℕ) → c.call ≡ load_screen file page → c.result.code ≡ 0
    → let m = machine_of (asked_machine how) in
    let h = history m (started_world how) cs in
    let all = history m (started_world how) (cs ++ c ∷ ds) in
    FileStays m page ds (gone_on m c h) → (j age : ℕ) → length all.log.done ≡ length h.log.done + suc (j + age)
    → FileShows file page (seen_before age h.log.current.sights) (get_or all.shots j no_shot) (get_or all.log.done j no_frame)
file_shows_in_run how buffers after cs ds c begins run first file page reads accepted stays j age e =
    let x = begun_run how buffers after begins in
    file_shows (machine_of (asked_machine how)) (started_world how) x.0 cs ds c (subst (Obeyed (cs ++ c ∷ ds)) x.1 (run_obeys (cs ++ c ∷ ds) after run)) (run_typed (cs ++ c ∷ ds) after run) first
    file page reads accepted stays j age e
