-- EVERY CALL: its number is that of the first of its causes that holds, 0 where none does; and where it is refused it leaves everything as it was.
-- The cases of `Refusals`, as one law each.
-- Assumes nothing.
use Prim.Native.Nat.{ℕ}
use mathlib.Core.List.{List}
use mathlib.Core.Path.{◌≡◌, refl, ap}
use Rattle.judgement.specs.Order.{Numbered}
use Rattle.contracts.specs.Timed.{Lent}
use Rattle.contracts.specs.Calls.{Start, plain_start, colour_start, snapshot_start, started_by, lent_to_fill, filled_by, start_causes_of, TimedCall, plain, mreq, no_mreq, port_in, port_out, Helper, line_addr, line_of, column_of, attr_row_of, attr_column_of, colour_bits, Question, byte_read, paging_read, interrupt_asked, frames_asked, page_asked, block_asked, shown_asked, still_asked, file_asked, snapshot_asked, help, Call, start_again, take_time, write_byte, write_paging, reset_passed, load_ram, load_screen, ask, result, waited, helped_by, replied, performed, timed_causes, helper_range, helper_causes, question_causes, causes_of, refused_reply, refused_filled}
use Rattle.contracts.specs.Helpers.{helper_call}
use Rattle.contracts.proofs.Refusals as refusals

-- ---- numbers
timed_numbered : (t : TimedCall) (l : Lent) (answer : List ℕ) → Numbered (waited t l answer).code (timed_causes t l answer)
unfolding waited
timed_numbered (plain n) l answer = refusals.wait_internal_numbered l n answer
timed_numbered (mreq addr n) l answer = refusals.wait_at_numbered l addr n answer
timed_numbered (no_mreq addr n) l answer = refusals.wait_at_numbered l addr n answer
timed_numbered (port_in devices port) l answer = refusals.read_io_numbered l devices port answer
timed_numbered (port_out devices port value) l answer = refusals.write_io_numbered l devices port value answer

helped_numbered : (h : Helper) (n : ℕ) (answer : List ℕ) → Numbered (helper_call (helped_by h n) answer).code (helper_causes (helper_range h n) answer)
helped_numbered line_addr n answer = refusals.bitmap_line_addr_numbered n answer
helped_numbered line_of n answer = refusals.bitmap_line_rel_numbered n answer
helped_numbered column_of n answer = refusals.bitmap_col_rel_numbered n answer
helped_numbered attr_row_of n answer = refusals.attr_row_rel_numbered n answer
helped_numbered attr_column_of n answer = refusals.attr_col_rel_numbered n answer
helped_numbered colour_bits n answer = refusals.color_from_bits_numbered n answer

reply_numbered : (q : Question) (l : Lent) (out : List ℕ) → Numbered (replied q l out).code (question_causes q l out)
unfolding replied
reply_numbered (byte_read rom addr) l answer = refusals.read_internal_numbered l.state rom l.ram addr answer
reply_numbered paging_read l answer = refusals.read_7ffd_numbered l.state answer
reply_numbered interrupt_asked l answer = refusals.int_active_numbered l.state answer
reply_numbered frames_asked l answer = refusals.frames_count_numbered l.state answer
reply_numbered (page_asked page) l answer = refusals.ram_page_numbered l.state l.ram page answer
reply_numbered (block_asked rom block) l answer = refusals.block_numbered l.state rom l.ram block answer
reply_numbered shown_asked l answer = refusals.shown_picture_numbered l.state l.a l.b answer
reply_numbered (still_asked flash) l picture = refusals.still_picture_numbered l.state l.ram picture flash
reply_numbered file_asked l file = refusals.save_scr_numbered l.state l.ram file
reply_numbered (snapshot_asked registers) l file = refusals.save_sna_numbered l.state l.ram file registers
reply_numbered (help h n) l answer = helped_numbered h n answer

started_numbered : (how : Start) (l : Lent) → Numbered (started_by how l).code (start_causes_of how l)
started_numbered (plain_start machine) l = refusals.start_numbered l machine
started_numbered (colour_start machine colour) l = refusals.start_colour_numbered l machine colour
started_numbered (snapshot_start machine file registers) l = refusals.load_sna_numbered l file registers machine

-- THE NUMBER OF ANY CALL is that of the first of its causes, in document 01's order, that holds; 0, exactly when none holds.
pub call_numbered : (k : Call) (l : Lent) → Numbered (performed k l).code (causes_of k l)
unfolding performed
call_numbered (start_again how) l = started_numbered how l
call_numbered (take_time t answer) l = timed_numbered t l answer
call_numbered (write_byte addr value) l = refusals.write_internal_numbered l.state l.ram addr value
call_numbered (write_paging value answer) l = refusals.write_7ffd_numbered l.state value answer
call_numbered reset_passed l = refusals.reset_frames_numbered l.state
call_numbered (load_ram bytes page) l = refusals.load_page_numbered l.state l.ram bytes page
call_numbered (load_screen file page) l = refusals.load_scr_numbered l.state l.ram file page
call_numbered (ask q out) l = reply_numbered q l out

-- ---- what a refused call leaves
module _ (l : Lent) where
  timed_refused : (t : TimedCall) (answer : List ℕ) → ((waited t l answer).code ≡ 0 → ⊥)
      → performed (take_time t answer) l ≡ result (waited t l answer).code l (refused_filled (take_time t answer) (waited t l answer).code)
  unfolding performed waited
  timed_refused (plain n) answer z = rw ((refusals.wait_internal_unaltered l n answer z).0, (refusals.wait_internal_unaltered l n answer z).1)
  timed_refused (mreq addr n) answer z = rw ((refusals.wait_at_unaltered l addr n answer z).0, (refusals.wait_at_unaltered l addr n answer z).1)
  timed_refused (no_mreq addr n) answer z = rw ((refusals.wait_at_unaltered l addr n answer z).0, (refusals.wait_at_unaltered l addr n answer z).1)
  timed_refused (port_in devices port) answer z = rw ((refusals.read_io_unaltered l devices port answer z).0, (refusals.read_io_unaltered l devices port answer z).1)
  timed_refused (port_out devices port value) answer z =
      rw ((refusals.write_io_unaltered l devices port value answer z).0, (refusals.write_io_unaltered l devices port value answer z).1)

  reply_refused : (q : Question) (out : List ℕ) → ((replied q l out).code ≡ 0 → ⊥) → (replied q l out).answer ≡ refused_reply q out (replied q l out).code
  unfolding replied
  reply_refused (byte_read rom addr) answer z = refusals.read_internal_unaltered l.state rom l.ram addr answer z
  reply_refused paging_read answer z = refusals.read_7ffd_unaltered l.state answer z
  reply_refused interrupt_asked answer z = refusals.int_active_unaltered l.state answer z
  reply_refused frames_asked answer z = refusals.frames_count_unaltered l.state answer z
  reply_refused (page_asked page) answer z = refusals.ram_page_unaltered l.state l.ram page answer z
  reply_refused (block_asked rom block) answer z = refusals.block_unaltered l.state rom l.ram block answer z
  reply_refused shown_asked answer z = refusals.shown_picture_unaltered l.state l.a l.b answer z
  reply_refused (still_asked flash) picture z = refusals.still_picture_unaltered l.state l.ram picture flash z
  reply_refused file_asked file z = refusals.save_scr_unaltered l.state l.ram file z
  reply_refused (snapshot_asked registers) file z = refusals.save_sna_unaltered l.state l.ram file registers z
  reply_refused (help h n) answer z = refusals.helper_unaltered (helped_by h n) answer z

  started_refused : (how : Start) → ((started_by how l).code ≡ 0 → ⊥) → (started_by how l).slices ≡ l
  started_refused (plain_start machine) z = refusals.start_unaltered l machine z
  started_refused (colour_start machine colour) z = refusals.start_colour_unaltered l machine colour z
  started_refused (snapshot_start machine file registers) z = (refusals.load_sna_unaltered l file registers machine z).0

  filled_refused : (how : Start) → ((started_by how l).code ≡ 0 → ⊥) → filled_by how l ≡ lent_to_fill how
  filled_refused (plain_start machine) z = refl
  filled_refused (colour_start machine colour) z = refl
  filled_refused (snapshot_start machine file registers) z = (refusals.load_sna_unaltered l file registers machine z).1

  -- A REFUSED CALL, whichever it is, leaves the machine's slices as they were, and its answer as document 01 says.
  pub call_refused : (k : Call) → ((performed k l).code ≡ 0 → ⊥) → performed k l ≡ result (performed k l).code l (refused_filled k (performed k l).code)
  unfolding performed
  call_refused (start_again how) z = rw (started_refused how z, filled_refused how z)
  call_refused (take_time t answer) z = timed_refused t answer z
  call_refused (write_byte addr value) z = rw (refusals.write_internal_unaltered l.state l.ram addr value z)
  call_refused (write_paging value answer) z =
      rw ((refusals.write_7ffd_unaltered l.state value answer z).0, (refusals.write_7ffd_unaltered l.state value answer z).1)
  call_refused reset_passed z = rw (refusals.reset_frames_unaltered l.state z)
  call_refused (load_ram bytes page) z = rw (refusals.load_page_unaltered l.state l.ram bytes page z)
  call_refused (load_screen file page) z = rw (refusals.load_scr_unaltered l.state l.ram file page z)
  call_refused (ask q out) z = ap (λ (answer : List ℕ). result (replied q l out).code l answer) (reply_refused q out z)
