-- What a judgement makes of slices that hold the Rust's machine: where the lengths are right, the number of a page or of a block alone decides.
-- Assumes nothing.
use Prim.Native.Nat.{ℕ}
use mathlib.Core.Path.{◌≡◌, refl, sym, ap, subst, ◌∙◌}
use mathlib.Core.Bool.{Bool, true, false, cond, not}
use mathlib.Core.List.{List, [], ◌∷◌}
use borrow.Author.Tests.{eq-eqb, leb-true, leb-false, lt-ltb, le-ltb}
use lib.Dec.{ltb, leb}
use lib.ListN.{length}
use Rattle.std.specs.Prelude.{Result, Ok, Err}
use Rattle.laws.proofs.Cases.{and_both}
use Rattle.machine.specs.declared.ZXMachine.{ZXMachine}
use Rattle.machine.specs.Numbers.{specs_of}
use Rattle.record.specs.declared.Bus.{Bus}
use Rattle.record.specs.Record.{record_of}
use Rattle.record.specs.Sound.{Sound}
use Rattle.record.proofs.Soundness.{sound_facts}
use Rattle.record.proofs.Round.{held_decode, held_sound}
use Rattle.memory.specs.Paging.{page_exists}
use Rattle.judgement.specs.declared.Refusal.{Refusal}
use Rattle.judgement.specs.declared.Refusal.TheVariants.{BadPage, BadNumber}
use Rattle.judgement.specs.Refusals.{cause, judged}
use Rattle.judgement.specs.Judges.{ram_fits, rom_fits, unless, judge_load, judge_ram_page, judge_block}
use Rattle.contracts.specs.Timed.{Lent, lent_world}
use Rattle.contracts.specs.Plain.{code_of, tell, change}
use Rattle.rustzx.specs.Controller.{ZXController}
use Rattle.rustzx.specs.Related.{Related}
use Rattle.surface.specs.Same.{SameLent}

-- where the lengths are right, the number alone decides
decided : (e : Refusal) (fit good : Bool) (bus : Bus) → fit ≡ true → judged (unless fit ∷ cause e (not good) ∷ []) bus ≡ cond good (Ok bus) (Err e)
unfolding judged
decided e fit true bus f = rw f
decided e fit false bus f = rw f

pub told_code : (number : Bus → ℕ) (answer : List ℕ) (v : Result Bus Refusal) → (tell number answer v).code ≡ code_of v
told_code number answer (Err e) = refl
told_code number answer (Ok bus) = refl

pub changed_code : (new : Bus → List ℕ) (old : List ℕ) (v : Result Bus Refusal) → (change new old v).code ≡ code_of v
changed_code new old (Err e) = refl
changed_code new old (Ok bus) = refl

beyond : (block : ℕ) (t : Bool) → leb block 3 ≡ t → ltb 3 block ≡ not t
beyond block true e = let h = leb-true block 3 e in le-ltb 3 block h
beyond block false e = let h = leb-false block 3 e in lt-ltb 3 block h

module _ (rom : List ℕ) (c : ZXController) (l : Lent) (s : SameLent rom c l) where
  abbrev bus : Bus
  bus = s.bus

  abbrev m : ZXMachine
  m = bus.machine

  pub sound : Sound bus
  sound = sound_facts bus (held_sound l.state bus s.is_held)

  pub decodes : record_of l.state ≡ bus
  decodes = (held_decode l.state bus s.is_held).2

  pub ram_is_lem : length l.ram ≡ (specs_of m).ram
  ram_is_lem = s.related.ram_long ∙ ap (λ (n : ZXMachine). (specs_of n).ram) s.machine

  rom_is_lem : length rom ≡ (specs_of m).rom
  rom_is_lem = s.related.rom_long ∙ ap (λ (n : ZXMachine). (specs_of n).rom) s.machine

  pub rom_long_lem : length rom ≡ (specs_of (record_of l.state).machine).rom
  rom_long_lem = rom_is_lem ∙ ap (λ (x : Bus). (specs_of x.machine).rom) (sym decodes)

  -- the same slices, by the record that their bytes stand for
  abbrev pub settled : SameLent rom c l
  settled =
      record {
        bus = record_of l.state;
        is_held = rw decodes s.is_held;
        machine = s.machine ∙ ap (λ (b : Bus). b.machine) (sym decodes);
        related = subst (λ (b : Bus). Related c.machine rom c (lent_world b l)) (sym decodes) s.related;
      }

  ram_fits_lem : ram_fits bus (length l.ram) ≡ true
  ram_fits_lem = eq-eqb (length l.ram) (specs_of m).ram ram_is_lem

  rom_fits_lem : rom_fits bus (length rom) ≡ true
  rom_fits_lem = eq-eqb (length rom) (specs_of m).rom rom_is_lem

  pub load_judged : (bytes number : ℕ) → bytes ≡ 16384
      → judge_load l.state (length l.ram) bytes number ≡ cond (page_exists m number) (Ok bus) (Err BadPage)
  unfolding judge_load
  load_judged bytes number e = rw s.is_held (decided BadPage _ (page_exists m number) bus (and_both _ _ ram_fits_lem (eq-eqb bytes 16384 e)))

  -- of the three that hand back a part, to C whose answer has its length, and to a Rattle caller, who lends none
  pub ram_page_judged : (number : ℕ) (fits : Bool) → fits ≡ true
      → judge_ram_page l.state (length l.ram) number fits ≡ cond (page_exists m number) (Ok bus) (Err BadPage)
  unfolding judge_ram_page
  ram_page_judged number fits e = rw s.is_held (decided BadPage _ (page_exists m number) bus (and_both _ _ ram_fits_lem e))

  pub block_judged : (block : ℕ) (fits : Bool) → fits ≡ true
      → judge_block l.state (length rom) (length l.ram) block fits ≡ cond (leb block 3) (Ok bus) (Err BadNumber)
  unfolding judge_block
  block_judged block fits e =
      rw (s.is_held, beyond block (leb block 3) refl) (decided BadNumber _ (leb block 3) bus (and_both _ _ (and_both _ _ rom_fits_lem ram_fits_lem) e))
