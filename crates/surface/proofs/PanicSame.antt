-- "Their panics and asserts become refusals 7 and 8", of the calls that take a page or a block by its number: on slices that hold the Rust's
-- machine, with lengths that are right, each returns its refusal exactly where the Rust panics, and 0 exactly where it does not.
-- Assumes nothing.
use Prim.Native.Nat.{ℕ}
use mathlib.Core.Path.{◌≡◌, refl, ap, ◌∙◌}
use mathlib.Core.Bool.{Bool, true, false, cond}
use mathlib.Core.List.{List}
use lib.Dec.{leb}
use borrow.Author.Tests.{eq-eqb}
use lib.ListN.{length}
use Rattle.std.specs.Prelude.{Result, Ok, Err}
use Rattle.machine.specs.declared.ZXMachine.{ZXMachine}
use Rattle.machine.specs.Numbers.{specs_of}
use Rattle.record.specs.declared.Bus.{Bus}
use Rattle.memory.specs.Paging.{page_exists}
use Rattle.bus.specs.World.{World}
use Rattle.judgement.specs.declared.Refusal.{Refusal}
use Rattle.judgement.specs.declared.Refusal.TheVariants.{BadPage, BadNumber}
use Rattle.judgement.specs.Refusals.{refusal_number}
use Rattle.judgement.specs.Judges.{number_fits, judge_load, judge_ram_page, judge_block}
use Rattle.contracts.specs.Timed.{Lent, lent_world}
use Rattle.contracts.specs.Plain as ulb
use Rattle.rustzx.specs.Panics.{panics}
use Rattle.rustzx.specs.Controller.{ZXController, load_and_refresh}
use Rattle.rustzx.specs.Related.{our_machine}
use Rattle.rustzx.specs.Calls as rust
use Rattle.rustzx.specs.Calls.{Call, performed}
use Rattle.rustzx.proofs.Pages.{bank_type_is, page_data_is, load_is}
use Rattle.surface.specs.Same.{SameLent, SameRefusal}
use Rattle.surface.proofs.OnMachine.{agrees}
use Rattle.surface.proofs.Judged.{told_code, changed_code, sound, load_judged, ram_page_judged, block_judged}

module _ (rom : List ℕ) (c : ZXController) (l : Lent) (s : SameLent rom c l) where
  abbrev bus : Bus
  bus = s.bus

  abbrev m : ZXMachine
  m = bus.machine

  abbrev w : World
  w = lent_world bus l

  -- the Rust by its own tests
  ram_long_lem : length c.memory.ram ≡ (specs_of (our_machine c.machine)).ram
  ram_long_lem = ap length s.related.memory.ram ∙ s.related.ram_long

  own_pages : (number : ℕ) → page_exists m number ≡ false → page_exists (our_machine c.machine) number ≡ false
  own_pages number e = ap (λ (n : ZXMachine). page_exists n number) s.machine ∙ e

  load_panics : (number : ℕ) (bytes : List ℕ) → page_exists m number ≡ false → performed (rust.load_page number bytes) c ≡ panics
  unfolding performed load_and_refresh
  load_panics number bytes e = rw (rw (own_pages number e) at (load_is c.machine c.memory ram_long_lem number bytes))

  page_panics : (number : ℕ) → page_exists m number ≡ false → performed (rust.ram_page_of number) c ≡ panics
  unfolding performed
  page_panics number e = rw (rw (own_pages number e) at (page_data_is c.machine c.memory ram_long_lem number))

  block_panics : (block : ℕ) → leb block 3 ≡ false → performed (rust.block_of block) c ≡ panics
  unfolding performed
  block_panics block e = rw (rw e at (bank_type_is c.memory block))

  -- a call whose number alone decides, beside the Rust's
  by_number : (k : Call) (e : Refusal) (good : Bool) (v : Result Bus Refusal) → v ≡ cond good (Ok bus) (Err e) → (good ≡ true → rust.Accepted m k w)
      → (good ≡ false → performed k c ≡ panics) → SameRefusal (refusal_number e) (performed k c) (ulb.code_of v)
  by_number k e true v p ok fails = rw (p, (agrees m rom c w s.machine s.related k (sound rom c l s) (ok refl)).ends) refl
  by_number k e false v p ok fails = rw (p, fails refl) refl

  -- ULB_LOAD_PAGE returns 7 where ram_page_data_mut panics.
  pub load_page_refusal : (bytes : List ℕ) (number : ℕ) → length bytes ≡ 16384
      → SameRefusal 7 (performed (rust.load_page number bytes) c) (ulb.load_page l.state l.ram bytes number).code
  unfolding ulb.load_page
  load_page_refusal bytes number e =
      rw (changed_code _ _ (judge_load l.state (length l.ram) (length bytes) number))
      (by_number (rust.load_page number bytes) BadPage (page_exists m number) _ (load_judged rom c l s (length bytes) number e) (λ g. (g, e)) (load_panics number bytes))

  -- ULB_RAM_PAGE returns 7 where ram_page_data panics.
  pub ram_page_refusal : (number : ℕ) (answer : List ℕ) → length answer ≡ 5
      → SameRefusal 7 (performed (rust.ram_page_of number) c) (ulb.ram_page_told l.state l.ram number answer).code
  unfolding ulb.ram_page_told
  ram_page_refusal number answer e =
      rw (told_code _ answer (judge_ram_page l.state (length l.ram) number (number_fits (length answer))))
      (by_number (rust.ram_page_of number) BadPage (page_exists m number) _ (ram_page_judged rom c l s number (number_fits (length answer)) (eq-eqb (length answer) 5 e)) (λ g. g) (page_panics number))

  -- ULB_BLOCK returns 8 where the assert of get_bank_type panics.
  pub block_refusal : (block : ℕ) (answer : List ℕ) → length answer ≡ 5
      → SameRefusal 8 (performed (rust.block_of block) c) (ulb.block_told l.state rom l.ram block answer).code
  unfolding ulb.block_told
  block_refusal block answer e =
      rw (told_code _ answer (judge_block l.state (length rom) (length l.ram) block (number_fits (length answer))))
      (by_number (rust.block_of block) BadNumber (leb block 3) _ (block_judged rom c l s block (number_fits (length answer)) (eq-eqb (length answer) 5 e)) (λ g. g) (block_panics block))
