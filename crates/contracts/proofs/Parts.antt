-- PARTS: the two forms of the three calls that hand back a part agree. Where C is told a number, the part that a Rattle caller gets is the
-- bytes from that number on, counted in ROM with RAM behind it, or in picture A with B behind it; where C is refused, given an answer of five
-- bytes, the Rattle caller's part is empty.
-- Assumes nothing.
use Prim.Native.Nat.{ℕ, ◌^◌, ◌<◌}
use mathlib.Core.Path.{◌≡◌, refl, sym, ap, subst, ◌∙◌}
use mathlib.Core.Bool.{Bool, true, false, cond}
use mathlib.Core.List.{List, [], ◌++◌}
use native.Mathlib.Omega.{arith}
use borrow.Author.Tests.{eq-eqb}
use lib.ListN.{length, take, drop}
use lib.Seq.{take_at, drop_at, take-length}
use Rattle.std.specs.Prelude.{Result, Ok, Err}
use Rattle.laws.proofs.Words.{long_back}
use Rattle.machine.specs.declared.ZXMachine.{ZXMachine}
use Rattle.machine.specs.declared.ZXMachine.TheVariants.{Sinclair48K, Sinclair128K}
use Rattle.machine.specs.Numbers.{specs_of}
use Rattle.machine.specs.Limits.{picture_length, page_length}
use Rattle.record.specs.declared.Bus.{Bus}
use Rattle.record.specs.Record.{record_of}
use Rattle.memory.specs.declared.Page.{Page}
use Rattle.memory.specs.declared.Page.TheVariants as page
use Rattle.memory.specs.Paging.{page_at}
use Rattle.memory.specs.Memory.{Holds, ram_page, page_part, part_start}
use Rattle.memory.proofs.Places.{exists_fits, map_holds}
use Rattle.memory.proofs.Stored.{length_part, part_found}
use Rattle.bus.specs.Time.{shows_a}
use Rattle.judgement.specs.declared.Refusal.{Refusal}
use Rattle.judgement.specs.Judges.{number_fits, judge_ram_page, judge_block, judge_shown}
use Rattle.judgement.specs.Answers.{number_answer, number_length}
use Rattle.judgement.proofs.Accepted.{ready_ram_page, ready_block, ready_shown}
use Rattle.contracts.specs.Map.{number_in}
use Rattle.contracts.specs.Plain.{tell, part, ram_page_part, block_part, shown_part, ram_page_told, block_told, shown_told}
use Rattle.contracts.proofs.Refusals.{not_zero}

pub number_back : (n : ℕ) → n < 2 ^ 32 → number_in (number_answer n) ≡ n
number_back n h = long_back n h

pub told_bus : (number : Bus → ℕ) (answer : List ℕ) (w : Result Bus Refusal) → (tell number answer w).code ≡ 0 → (bus : Bus) × (w ≡ Ok bus)
told_bus number answer (Err e) p = absurd (not_zero e p)
told_bus number answer (Ok bus) p = (bus, refl)

-- C's verdict is the Rattle caller's where its answer has five bytes: then a call that is not told hands back nothing
none_handed : (number : Bus → ℕ) (whole : Bus → List ℕ) (answer : List ℕ) (v w : Result Bus Refusal) → v ≡ w
    → ((tell number answer w).code ≡ 0 → ⊥) → part whole v ≡ []
none_handed number whole answer (Err e) w f n = refl
none_handed number whole answer (Ok b) w f n = absurd (n (rw (← f)))

-- ---- where a page starts fits 32 bits
pub start_small : (m : ZXMachine) (p : Page) → Holds p (specs_of m).rom (specs_of m).ram → part_start m p < 2 ^ 32
start_small Sinclair48K (page.Rom p) h = omega arith
start_small Sinclair48K (page.Ram p) h = omega arith
start_small Sinclair128K (page.Rom p) h = omega arith
start_small Sinclair128K (page.Ram p) h = omega arith

-- a page by its number told, of a ROM and a RAM of the machine's lengths
page_told : (m : ZXMachine) (p : Page) (rom ram : List ℕ) → length rom ≡ (specs_of m).rom → length ram ≡ (specs_of m).ram
    → Holds p (specs_of m).rom (specs_of m).ram
    → (page_part p rom ram ≡ take page_length (drop (number_in (number_answer (part_start m p))) (rom ++ ram))) × (length (page_part p rom ram) ≡ page_length)
page_told m p rom ram r n h =
    let f : Holds p (length rom) (length ram) = rw (r, n) h in
    (rw (number_back (part_start m p) (start_small m p h)) (sym (part_found m p rom ram r f)), length_part p rom ram f)

-- "the shown picture": picture A from 0 on, or B from 49,152 on
picture_told : (t : Bool) (n : ℕ) (a b : List ℕ) → n < 2 ^ 32 → length a ≡ n → length b ≡ n
    → (cond t a b ≡ take n (drop (number_in (number_answer (cond t 0 n))) (a ++ b))) × (length (cond t a b) ≡ n)
picture_told true n a b h p q = (sym (take_at a b n p), p)
picture_told false n a b h p q =
    (rw (number_back n h, drop_at a b n p) (sym (subst (λ (k : ℕ). take k b ≡ b) q (take-length b))), q)

-- ---- RAM page
module _ (state ram answer : List ℕ) (number : ℕ) where
  abbrev ram_page_start : Bus → ℕ
  ram_page_start bus = part_start bus.machine (page.Ram number)

  abbrev ram_page_verdict : Bool → Result Bus Refusal
  ram_page_verdict fits = judge_ram_page state (length ram) number fits

  ram_page_told_lem : (bus : Bus) → ram_page_verdict (number_fits (length answer)) ≡ Ok bus → (rom : List ℕ) → length rom ≡ (specs_of (record_of state).machine).rom
      → (ram_page_part state ram number ≡ take page_length (drop (number_in (ram_page_told state ram number answer).answer) (rom ++ ram)))
      × (length (ram_page_part state ram number) ≡ page_length)
  unfolding ram_page_told ram_page_part
  ram_page_told_lem bus p rom r =
      let k = ready_ram_page state bus (length ram) number (number_fits (length answer)) p in
      let m = bus.machine in
      rw (rw k.answer_fits at p, p)
      (page_told m (page.Ram number) rom ram (r ∙ ap (λ (x : Bus). (specs_of x.machine).rom) k.on_record.decodes) k.ram_is (exists_fits m number k.exists))

  -- told: whatever ROM of the machine's length C counts before RAM, the bytes from the number on are the page
  pub ram_page_found : (ram_page_told state ram number answer).code ≡ 0 → (rom : List ℕ) → length rom ≡ (specs_of (record_of state).machine).rom
      → (ram_page_part state ram number ≡ take page_length (drop (number_in (ram_page_told state ram number answer).answer) (rom ++ ram)))
      × (length (ram_page_part state ram number) ≡ page_length)
  unfolding ram_page_told
  ram_page_found c rom r = let t = told_bus ram_page_start answer (ram_page_verdict (number_fits (length answer))) c in ram_page_told_lem t.0 t.1 rom r

  -- not told: the part is empty
  pub ram_page_empty : length answer ≡ number_length → ((ram_page_told state ram number answer).code ≡ 0 → ⊥) → ram_page_part state ram number ≡ []
  unfolding ram_page_told ram_page_part
  ram_page_empty l n =
      none_handed ram_page_start (λ bus. ram_page number ram) answer (ram_page_verdict true) (ram_page_verdict (number_fits (length answer)))
      (ap ram_page_verdict (sym (eq-eqb (length answer) number_length l))) n

-- ---- block
module _ (state rom ram answer : List ℕ) (number : ℕ) where
  abbrev block_start : Bus → ℕ
  block_start bus = part_start bus.machine (page_at bus.machine bus.paging number)

  abbrev block_verdict : Bool → Result Bus Refusal
  block_verdict fits = judge_block state (length rom) (length ram) number fits

  block_told_lem : (bus : Bus) → block_verdict (number_fits (length answer)) ≡ Ok bus
      → (block_part state rom ram number ≡ take page_length (drop (number_in (block_told state rom ram number answer).answer) (rom ++ ram)))
      × (length (block_part state rom ram number) ≡ page_length)
  unfolding block_told block_part
  block_told_lem bus p =
      let k = ready_block state bus (length rom) (length ram) number (number_fits (length answer)) p in
      let m = bus.machine in
      rw (rw k.answer_fits at p, p) (page_told m (page_at m bus.paging number) rom ram k.rom_is k.ram_is (map_holds m bus.paging number))

  -- told: the bytes from the number on, of the lent ROM with the lent RAM behind it, are the block's 16 KiB
  pub block_found : (block_told state rom ram number answer).code ≡ 0
      → (block_part state rom ram number ≡ take page_length (drop (number_in (block_told state rom ram number answer).answer) (rom ++ ram)))
      × (length (block_part state rom ram number) ≡ page_length)
  unfolding block_told
  block_found c = let t = told_bus block_start answer (block_verdict (number_fits (length answer))) c in block_told_lem t.0 t.1

  -- not told: the part is empty
  pub block_empty : length answer ≡ number_length → ((block_told state rom ram number answer).code ≡ 0 → ⊥) → block_part state rom ram number ≡ []
  unfolding block_told block_part
  block_empty l n =
      none_handed block_start (λ bus. page_part (page_at bus.machine bus.paging number) rom ram) answer (block_verdict true)
      (block_verdict (number_fits (length answer))) (ap block_verdict (sym (eq-eqb (length answer) number_length l))) n

-- ---- shown picture
module _ (state a b answer : List ℕ) where
  abbrev shown_start : Bus → ℕ
  shown_start bus = cond (shows_a bus.phase) 0 picture_length

  abbrev shown_verdict : Bool → Result Bus Refusal
  shown_verdict fits = judge_shown state (length a) (length b) fits

  shown_told_lem : (bus : Bus) → shown_verdict (number_fits (length answer)) ≡ Ok bus
      → (shown_part state a b ≡ take picture_length (drop (number_in (shown_told state a b answer).answer) (a ++ b))) × (length (shown_part state a b) ≡ picture_length)
  unfolding shown_told shown_part
  shown_told_lem bus p =
      let k = ready_shown state bus (length a) (length b) (number_fits (length answer)) p in
      rw (rw k.answer_fits at p, p) (picture_told (shows_a bus.phase) picture_length a b (omega arith) k.a_is k.b_is)

  -- told: the bytes from the number on, of picture A with B behind it, are the shown picture
  pub shown_found : (shown_told state a b answer).code ≡ 0
      → (shown_part state a b ≡ take picture_length (drop (number_in (shown_told state a b answer).answer) (a ++ b))) × (length (shown_part state a b) ≡ picture_length)
  unfolding shown_told
  shown_found c = let t = told_bus shown_start answer (shown_verdict (number_fits (length answer))) c in shown_told_lem t.0 t.1

  -- not told: the part is empty
  pub shown_empty : length answer ≡ number_length → ((shown_told state a b answer).code ≡ 0 → ⊥) → shown_part state a b ≡ []
  unfolding shown_told shown_part
  shown_empty l n =
      none_handed shown_start (λ bus. cond (shows_a bus.phase) a b) answer (shown_verdict true) (shown_verdict (number_fits (length answer)))
      (ap shown_verdict (sym (eq-eqb (length answer) number_length l))) n
