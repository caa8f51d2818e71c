-- The three calls that hand back a part, as C calls them: from the number of the five bytes on, in ROM with RAM behind it or in picture A with B
-- behind it, stand the bytes that the Rust gives.
-- Assumes nothing.
use Prim.Native.Nat.{ℕ}
use mathlib.Core.Path.{◌≡◌, ap, ◌∙◌}
use mathlib.Core.Bool.{cond}
use mathlib.Core.List.{List, ◌++◌}
use lib.ListN.{length}
use Rattle.machine.specs.declared.ZXMachine.{ZXMachine}
use Rattle.record.specs.declared.Bus.{Bus}
use Rattle.memory.specs.declared.Page.TheVariants as page
use Rattle.memory.specs.Paging.{page_at}
use Rattle.memory.specs.Memory.{part_start}
use Rattle.bus.specs.Time.{shows_a}
use Rattle.judgement.specs.Judges.{number_fits}
use Rattle.judgement.proofs.Order.{ram_page_ordered, block_ordered, shown_ordered}
use Rattle.judgement.proofs.Accepted.{ready_ram_page, ready_block, ready_shown}
use Rattle.contracts.specs.Timed.{Lent}
use Rattle.contracts.specs.Plain as ulb
use Rattle.contracts.proofs.Refusals.{ram_page_numbered, block_numbered, shown_picture_numbered}
use Rattle.contracts.proofs.Parts.{ram_page_found, block_found, shown_found}
use Rattle.rustzx.specs.Controller.{ZXController}
use Rattle.rustzx.specs.Calls as rust
use Rattle.surface.specs.Same.{SameLent, SameFound}
use Rattle.surface.proofs.Judged.{rom_long_lem, settled}
use Rattle.surface.proofs.PlainSame.{ram_page_same, block_same, shown_same}

module _ (rom : List ℕ) (c : ZXController) (l : Lent) (s : SameLent rom c l) where
  abbrev here : SameLent rom c l
  here = settled rom c l s

  abbrev bus : Bus
  bus = here.bus

  abbrev m : ZXMachine
  m = bus.machine

  -- ULB_RAM_PAGE is ram_page_data: "RAM counted after ROM".
  pub ram_page_told_same : (number : ℕ) (answer : List ℕ) → (ulb.ram_page_told l.state l.ram number answer).code ≡ 0
      → SameFound (rust.ram_page_of number) c (ulb.ram_page_told l.state l.ram number answer) 16384 (rom ++ l.ram)
  unfolding ulb.ram_page_told
  ram_page_told_same number answer z =
      let v = (ram_page_ordered l.state (length l.ram) number (number_fits (length answer))).none_accepts ((ram_page_numbered l.state l.ram number answer).zero_by_none z) in
      let h = ready_ram_page l.state bus (length l.ram) number (number_fits (length answer)) v in
      let f = ram_page_found l.state l.ram answer number z rom (rom_long_lem rom c l s) in
      let g = ram_page_same bus l.ram l.a l.b l.border rom c here.machine here.related l.state number (rw h.answer_fits at v) in
      record {
        given = g.given;
        number = part_start m (page.Ram number);
        ends = g.ends;
        code = z;
        answer = rw v;
        valued = g.valued ∙ f.0;
        whole = ap length g.valued ∙ f.1;
      }

  -- ULB_BLOCK is the data of the page that get_bank_type names: ROM from 0 on, "RAM counted after ROM".
  pub block_told_same : (block : ℕ) (answer : List ℕ) → (ulb.block_told l.state rom l.ram block answer).code ≡ 0
      → SameFound (rust.block_of block) c (ulb.block_told l.state rom l.ram block answer) 16384 (rom ++ l.ram)
  unfolding ulb.block_told
  block_told_same block answer z =
      let v = (block_ordered l.state (length rom) (length l.ram) block (number_fits (length answer))).none_accepts ((block_numbered l.state rom l.ram block answer).zero_by_none z) in
      let h = ready_block l.state bus (length rom) (length l.ram) block (number_fits (length answer)) v in
      let f = block_found l.state rom l.ram answer block z in
      let g = block_same bus l.ram l.a l.b l.border rom c here.machine here.related l.state block (rw h.answer_fits at v) in
      record {
        given = g.given;
        number = part_start m (page_at m bus.paging block);
        ends = g.ends;
        code = z;
        answer = rw v;
        valued = g.valued ∙ f.0;
        whole = ap length g.valued ∙ f.1;
      }

  -- ULB_SHOWN_PICTURE is the screen's frame_buffer: A from 0 on, "B after A".
  pub shown_told_same : (answer : List ℕ) → (ulb.shown_told l.state l.a l.b answer).code ≡ 0
      → SameFound rust.screen_buffer c (ulb.shown_told l.state l.a l.b answer) 49152 (l.a ++ l.b)
  unfolding ulb.shown_told
  shown_told_same answer z =
      let v = (shown_ordered l.state (length l.a) (length l.b) (number_fits (length answer))).none_accepts ((shown_picture_numbered l.state l.a l.b answer).zero_by_none z) in
      let h = ready_shown l.state bus (length l.a) (length l.b) (number_fits (length answer)) v in
      let f = shown_found l.state l.a l.b answer z in
      let g = shown_same bus l.ram l.a l.b l.border rom c here.machine here.related l.state (rw h.answer_fits at v) in
      record {
        given = g.given;
        number = cond (shows_a bus.phase) 0 49152;
        ends = g.ends;
        code = z;
        answer = rw v;
        valued = g.valued ∙ f.0;
        whole = ap length g.valued ∙ f.1;
      }
