-- A RUN OF THE C FUNCTIONS: a start, either of the two, or an import, and then any calls. What a call may return and leave is said by the contract of the function that it calls, and by
-- nothing else: `ulb-start.Post` is the `ensures` clause of `ulb_start` itself, which the check has proved of its code, at the arguments, the number
-- returned and the parameters at exit; `kinds-start.ps` are the function's parameters with their types; and so for each function. No equation
-- and no range is written out again here, so that none has to be held against the source by reading.
-- Assumes nothing.
use Rattle.std.specs.Prelude.{ℕ, ◌+◌, List, [], ◌∷◌, ◌≡◌}
use contract.Lifetimes.{Lfts}
use Rattle.std.specs.Borrow.{Bor, MutBor}
use denote.Triple.Clauses.{AtExit}
use borrow.Fn.Kinds.{ParamKind, ResultKind, Out, Dens, GoodsP, res_t, ended_of}
use Rattle.record.specs.Words.{Bytes}
use Rattle.contracts.specs.Timed.{Lent}
use Rattle.contracts.specs.Calls.{Start, plain_start, colour_start, snapshot_start, plain, mreq, no_mreq, port_in, port_out, Helper, line_addr, line_of, column_of, attr_row_of, attr_column_of, colour_bits, Question, byte_read, paging_read, interrupt_asked, frames_asked, page_asked, block_asked, shown_asked, still_asked, file_asked, snapshot_asked, help, Call, start_again, take_time, write_byte, write_paging, reset_passed, load_ram, load_screen, ask, Result, result, with_ram, with_state, lent_of, Made, buffers_after}
use Rattle.ulb_start.proofs.ulb_start.Reads as ulb-start
use Rattle.ulb_start.proofs.ulb_start.Kinds as kinds-start
use Rattle.ulb_start.proofs.ulb_start_colour.Reads as ulb-start-colour
use Rattle.ulb_start.proofs.ulb_start_colour.Kinds as kinds-start-colour
use Rattle.ulb_wait_internal.proofs.ulb_wait_internal.Reads as ulb-wait-internal
use Rattle.ulb_wait_internal.proofs.ulb_wait_internal.Kinds as kinds-wait-internal
use Rattle.ulb_wait_mreq.proofs.ulb_wait_mreq.Reads as ulb-wait-mreq
use Rattle.ulb_wait_mreq.proofs.ulb_wait_mreq.Kinds as kinds-wait-mreq
use Rattle.ulb_wait_no_mreq.proofs.ulb_wait_no_mreq.Reads as ulb-wait-no-mreq
use Rattle.ulb_wait_no_mreq.proofs.ulb_wait_no_mreq.Kinds as kinds-wait-no-mreq
use Rattle.ulb_read_io.proofs.ulb_read_io.Reads as ulb-read-io
use Rattle.ulb_read_io.proofs.ulb_read_io.Kinds as kinds-read-io
use Rattle.ulb_write_io.proofs.ulb_write_io.Reads as ulb-write-io
use Rattle.ulb_write_io.proofs.ulb_write_io.Kinds as kinds-write-io
use Rattle.ulb_memory.proofs.ulb_read_internal.Reads as ulb-read-internal
use Rattle.ulb_memory.proofs.ulb_read_internal.Kinds as kinds-read-internal
use Rattle.ulb_write_internal.proofs.ulb_write_internal.Reads as ulb-write-internal
use Rattle.ulb_write_internal.proofs.ulb_write_internal.Kinds as kinds-write-internal
use Rattle.ulb_memory.proofs.ulb_load_page.Reads as ulb-load-page
use Rattle.ulb_memory.proofs.ulb_load_page.Kinds as kinds-load-page
use Rattle.ulb_memory.proofs.ulb_ram_page.Reads as ulb-ram-page
use Rattle.ulb_memory.proofs.ulb_ram_page.Kinds as kinds-ram-page
use Rattle.ulb_memory.proofs.ulb_block.Reads as ulb-block
use Rattle.ulb_memory.proofs.ulb_block.Kinds as kinds-block
use Rattle.ulb_state.proofs.ulb_write_7ffd.Reads as ulb-write-7ffd
use Rattle.ulb_state.proofs.ulb_write_7ffd.Kinds as kinds-write-7ffd
use Rattle.ulb_state.proofs.ulb_read_7ffd.Reads as ulb-read-7ffd
use Rattle.ulb_state.proofs.ulb_read_7ffd.Kinds as kinds-read-7ffd
use Rattle.ulb_state.proofs.ulb_int_active.Reads as ulb-int-active
use Rattle.ulb_state.proofs.ulb_int_active.Kinds as kinds-int-active
use Rattle.ulb_state.proofs.ulb_frames_count.Reads as ulb-frames-count
use Rattle.ulb_state.proofs.ulb_frames_count.Kinds as kinds-frames-count
use Rattle.ulb_state.proofs.ulb_reset_frame_counter.Reads as ulb-reset-frame-counter
use Rattle.ulb_state.proofs.ulb_reset_frame_counter.Kinds as kinds-reset-frame-counter
use Rattle.ulb_scr.proofs.ulb_save_scr.Reads as ulb-save-scr
use Rattle.ulb_scr.proofs.ulb_save_scr.Kinds as kinds-save-scr
use Rattle.ulb_scr.proofs.ulb_load_scr.Reads as ulb-load-scr
use Rattle.ulb_scr.proofs.ulb_load_scr.Kinds as kinds-load-scr
use Rattle.ulb_sna.proofs.ulb_load_sna.Reads as ulb-load-sna
use Rattle.ulb_sna.proofs.ulb_load_sna.Kinds as kinds-load-sna
use Rattle.ulb_sna.proofs.ulb_save_sna.Reads as ulb-save-sna
use Rattle.ulb_sna.proofs.ulb_save_sna.Kinds as kinds-save-sna
use Rattle.ulb_pictures.proofs.ulb_shown_picture.Reads as ulb-shown-picture
use Rattle.ulb_pictures.proofs.ulb_shown_picture.Kinds as kinds-shown-picture
use Rattle.ulb_pictures.proofs.ulb_still_picture.Reads as ulb-still-picture
use Rattle.ulb_pictures.proofs.ulb_still_picture.Kinds as kinds-still-picture
use Rattle.ulb_helpers.proofs.ulb_bitmap_line_addr.Reads as ulb-bitmap-line-addr
use Rattle.ulb_helpers.proofs.ulb_bitmap_line_addr.Kinds as kinds-bitmap-line-addr
use Rattle.ulb_helpers.proofs.ulb_bitmap_line_rel.Reads as ulb-bitmap-line-rel
use Rattle.ulb_helpers.proofs.ulb_bitmap_line_rel.Kinds as kinds-bitmap-line-rel
use Rattle.ulb_helpers.proofs.ulb_bitmap_col_rel.Reads as ulb-bitmap-col-rel
use Rattle.ulb_helpers.proofs.ulb_bitmap_col_rel.Kinds as kinds-bitmap-col-rel
use Rattle.ulb_helpers.proofs.ulb_attr_row_rel.Reads as ulb-attr-row-rel
use Rattle.ulb_helpers.proofs.ulb_attr_row_rel.Kinds as kinds-attr-row-rel
use Rattle.ulb_helpers.proofs.ulb_attr_col_rel.Reads as ulb-attr-col-rel
use Rattle.ulb_helpers.proofs.ulb_attr_col_rel.Kinds as kinds-attr-col-rel
use Rattle.ulb_helpers.proofs.ulb_color_from_bits.Reads as ulb-color-from-bits
use Rattle.ulb_helpers.proofs.ulb_color_from_bits.Kinds as kinds-color-from-bits

-- a `&mut [u8]` of the code: where it points, its name in the proofs, and its bytes now; and a `&[u8]`, which has no such name
abbrev pub Slice : Type 0
Slice = MutBor (List ℕ)

abbrev pub Shared : Type 0
Shared = Bor (List ℕ)

-- a function's parameters in their order, as the tuple that its contract takes
infixr 3 ◌&◌
abbrev pub ◌&◌ : {A B : Type 0} → A → B → A × B
x & y = (x, y)

-- ONE CALL OF A FUNCTION, by its parameters' kinds and its `ensures` clause: what was passed are values of the parameters' own types, and the clause
-- admits the number returned and the parameters at exit.
abbrev pub Admits : (n : ℕ) (ps : List (ParamKind n)) (r : ResultKind n) → Out n ps r → (κs : Lfts n) → Dens κs ps → (res_t r κs).Denot → AtExit (ended_of n ps r) κs → Type 0
Admits n ps r Post κs entry code exit = GoodsP κs ps entry × Post κs entry code exit

-- where the firmware has the slices of a call, numbered by their order among its parameters: block and offset, and the name that the proofs know each
-- by that is lent to be written
pub record Where : Type 0 where
  pub ptr : ℕ × ℕ
  pub name : ℕ

module _ (at : ℕ → Where) where
  -- a slice of these bytes, lent to be written; and one lent to be read alone
  abbrev pub slice : ℕ → List ℕ → Slice
  slice i bytes = record { ref_ptr = (at i).ptr; ghost_name = (at i).name; now = bytes }

  abbrev pub shared : ℕ → List ℕ → Shared
  shared i bytes = record { ref_ptr = (at i).ptr; now = bytes }

  -- the machine's pictures and border, and all five of its slices: as a timed call has them, RAM to be read alone, and as a start has them
  abbrev pub paintings : {A : Type 0} → ℕ → Lent → A → Slice × (Slice × (Slice × A))
  paintings i l rest = slice i l.a & slice (i + 1) l.b & slice (i + 2) l.border & rest

  abbrev pub five : {A : Type 0} → Lent → A → Slice × (Shared × (Slice × (Slice × (Slice × A))))
  five l rest = slice 0 l.state & shared 1 l.ram & paintings 2 l rest

  abbrev pub five_cleared : {A : Type 0} → Lent → A → Slice × (Slice × (Slice × (Slice × (Slice × A))))
  five_cleared l rest = slice 0 l.state & slice 1 l.ram & paintings 2 l rest

  -- with the device record second, as the port calls have it
  abbrev pub six : {A : Type 0} → List ℕ → Lent → A → Slice × (Shared × (Shared × (Slice × (Slice × (Slice × A)))))
  six devices l rest = slice 0 l.state & shared 1 devices & shared 2 l.ram & paintings 3 l rest

  -- with file and registers between RAM and the pictures, as an import has them
  abbrev pub seven : {A : Type 0} → Lent → List ℕ → List ℕ → A → Slice × (Slice × (Shared × (Slice × (Slice × (Slice × (Slice × A))))))
  seven l file registers rest = slice 0 l.state & slice 1 l.ram & shared 2 file & slice 3 registers & paintings 4 l rest

-- A HELPER, each by the function that it is
abbrev pub HelperAdmits : Helper → Lfts 1 → ℕ → Slice → ℕ → Slice → Type 0
HelperAdmits line_addr κs n answer code answer' = Admits 1 kinds-bitmap-line-addr.ps kinds-bitmap-line-addr.r ulb-bitmap-line-addr.Post κs (n & answer & tt) code (n & answer' & tt)
HelperAdmits line_of κs n answer code answer' = Admits 1 kinds-bitmap-line-rel.ps kinds-bitmap-line-rel.r ulb-bitmap-line-rel.Post κs (n & answer & tt) code (n & answer' & tt)
HelperAdmits column_of κs n answer code answer' = Admits 1 kinds-bitmap-col-rel.ps kinds-bitmap-col-rel.r ulb-bitmap-col-rel.Post κs (n & answer & tt) code (n & answer' & tt)
HelperAdmits attr_row_of κs n answer code answer' = Admits 1 kinds-attr-row-rel.ps kinds-attr-row-rel.r ulb-attr-row-rel.Post κs (n & answer & tt) code (n & answer' & tt)
HelperAdmits attr_column_of κs n answer code answer' = Admits 1 kinds-attr-col-rel.ps kinds-attr-col-rel.r ulb-attr-col-rel.Post κs (n & answer & tt) code (n & answer' & tt)
HelperAdmits colour_bits κs n answer code answer' = Admits 1 kinds-color-from-bits.ps kinds-color-from-bits.r ulb-color-from-bits.Post κs (n & answer & tt) code (n & answer' & tt)

-- A QUESTION, on what is lent of the machine: `out` is the slice that it fills, `filled` what stands there at exit
abbrev pub Replies : Question → (at : ℕ → Where) → Lent → List ℕ → ℕ → List ℕ → Type 0
Replies (byte_read rom addr) at l out code filled =
    (κs : Lfts 4) × Admits 4 kinds-read-internal.ps kinds-read-internal.r ulb-read-internal.Post κs
    (shared at 0 l.state & shared at 1 rom & shared at 2 l.ram & addr & slice at 3 out & tt) code
    (shared at 0 l.state & shared at 1 rom & shared at 2 l.ram & addr & slice at 3 filled & tt)
Replies paging_read at l out code filled =
    (κs : Lfts 2) × Admits 2 kinds-read-7ffd.ps kinds-read-7ffd.r ulb-read-7ffd.Post κs
    (shared at 0 l.state & slice at 1 out & tt) code
    (shared at 0 l.state & slice at 1 filled & tt)
Replies interrupt_asked at l out code filled =
    (κs : Lfts 2) × Admits 2 kinds-int-active.ps kinds-int-active.r ulb-int-active.Post κs
    (shared at 0 l.state & slice at 1 out & tt) code
    (shared at 0 l.state & slice at 1 filled & tt)
Replies frames_asked at l out code filled =
    (κs : Lfts 2) × Admits 2 kinds-frames-count.ps kinds-frames-count.r ulb-frames-count.Post κs
    (shared at 0 l.state & slice at 1 out & tt) code
    (shared at 0 l.state & slice at 1 filled & tt)
Replies (page_asked page) at l out code filled =
    (κs : Lfts 3) × Admits 3 kinds-ram-page.ps kinds-ram-page.r ulb-ram-page.Post κs
    (shared at 0 l.state & shared at 1 l.ram & page & slice at 2 out & tt) code
    (shared at 0 l.state & shared at 1 l.ram & page & slice at 2 filled & tt)
Replies (block_asked rom block) at l out code filled =
    (κs : Lfts 4) × Admits 4 kinds-block.ps kinds-block.r ulb-block.Post κs
    (shared at 0 l.state & shared at 1 rom & shared at 2 l.ram & block & slice at 3 out & tt) code
    (shared at 0 l.state & shared at 1 rom & shared at 2 l.ram & block & slice at 3 filled & tt)
Replies shown_asked at l out code filled =
    (κs : Lfts 4) × Admits 4 kinds-shown-picture.ps kinds-shown-picture.r ulb-shown-picture.Post κs
    (shared at 0 l.state & shared at 1 l.a & shared at 2 l.b & slice at 3 out & tt) code
    (shared at 0 l.state & shared at 1 l.a & shared at 2 l.b & slice at 3 filled & tt)
Replies (still_asked flash) at l out code filled =
    (κs : Lfts 3) × Admits 3 kinds-still-picture.ps kinds-still-picture.r ulb-still-picture.Post κs
    (shared at 0 l.state & shared at 1 l.ram & slice at 2 out & flash & tt) code
    (shared at 0 l.state & shared at 1 l.ram & slice at 2 filled & flash & tt)
Replies file_asked at l out code filled =
    (κs : Lfts 3) × Admits 3 kinds-save-scr.ps kinds-save-scr.r ulb-save-scr.Post κs
    (shared at 0 l.state & shared at 1 l.ram & slice at 2 out & tt) code
    (shared at 0 l.state & shared at 1 l.ram & slice at 2 filled & tt)
Replies (snapshot_asked registers) at l out code filled =
    (κs : Lfts 4) × Admits 4 kinds-save-sna.ps kinds-save-sna.r ulb-save-sna.Post κs
    (shared at 0 l.state & shared at 1 l.ram & slice at 2 out & shared at 3 registers & tt) code
    (shared at 0 l.state & shared at 1 l.ram & slice at 2 filled & shared at 3 registers & tt)
Replies (help h n) at l out code filled = (κs : Lfts 1) × HelperAdmits h κs n (slice at 0 out) code (slice at 0 filled)

-- ANY CALL, on what is lent of the machine. A slice that is lent to be read comes back as it was; so do those that are not lent. Of a slice the kit's
-- `GoodsP` says the length alone; that every element of a snapshot is a byte, as in every slice of bytes in code, stands beside it (`Bytes`).
abbrev pub Steps : Call → (at : ℕ → Where) → Lent → Result → Type 0
Steps (start_again (plain_start machine)) at l r =
    (κs : Lfts 5) × Admits 5 kinds-start.ps kinds-start.r ulb-start.Post κs
    (five_cleared at l (machine & tt)) r.code
    (five_cleared at r.slices (machine & tt))
    × (r.filled ≡ [])
Steps (start_again (colour_start machine colour)) at l r =
    (κs : Lfts 5) × Admits 5 kinds-start-colour.ps kinds-start-colour.r ulb-start-colour.Post κs
    (five_cleared at l (machine & colour & tt)) r.code
    (five_cleared at r.slices (machine & colour & tt))
    × (r.filled ≡ [])
Steps (start_again (snapshot_start machine file registers)) at l r =
    (κs : Lfts 7) × Admits 7 kinds-load-sna.ps kinds-load-sna.r ulb-load-sna.Post κs
    (seven at l file registers (machine & tt)) r.code
    (seven at r.slices file r.filled (machine & tt))
    × Bytes file
Steps (take_time (plain n) answer) at l r =
    (κs : Lfts 6) × Admits 6 kinds-wait-internal.ps kinds-wait-internal.r ulb-wait-internal.Post κs
    (five at l (n & slice at 5 answer & tt)) r.code
    (five at r.slices (n & slice at 5 r.filled & tt))
    × (r.slices.ram ≡ l.ram)
Steps (take_time (mreq addr n) answer) at l r =
    (κs : Lfts 6) × Admits 6 kinds-wait-mreq.ps kinds-wait-mreq.r ulb-wait-mreq.Post κs
    (five at l (addr & n & slice at 5 answer & tt)) r.code
    (five at r.slices (addr & n & slice at 5 r.filled & tt))
    × (r.slices.ram ≡ l.ram)
Steps (take_time (no_mreq addr n) answer) at l r =
    (κs : Lfts 6) × Admits 6 kinds-wait-no-mreq.ps kinds-wait-no-mreq.r ulb-wait-no-mreq.Post κs
    (five at l (addr & n & slice at 5 answer & tt)) r.code
    (five at r.slices (addr & n & slice at 5 r.filled & tt))
    × (r.slices.ram ≡ l.ram)
Steps (take_time (port_in devices port) answer) at l r =
    (κs : Lfts 7) × Admits 7 kinds-read-io.ps kinds-read-io.r ulb-read-io.Post κs
    (six at devices l (port & slice at 6 answer & tt)) r.code
    (six at devices r.slices (port & slice at 6 r.filled & tt))
    × (r.slices.ram ≡ l.ram)
Steps (take_time (port_out devices port value) answer) at l r =
    (κs : Lfts 7) × Admits 7 kinds-write-io.ps kinds-write-io.r ulb-write-io.Post κs
    (six at devices l (port & value & slice at 6 answer & tt)) r.code
    (six at devices r.slices (port & value & slice at 6 r.filled & tt))
    × (r.slices.ram ≡ l.ram)
Steps (write_byte addr value) at l r =
    (κs : Lfts 2) × Admits 2 kinds-write-internal.ps kinds-write-internal.r ulb-write-internal.Post κs
    (shared at 0 l.state & slice at 1 l.ram & addr & value & tt) r.code
    (shared at 0 l.state & slice at 1 r.slices.ram & addr & value & tt)
    × (r.slices ≡ with_ram l r.slices.ram)
    × (r.filled ≡ [])
Steps (write_paging value answer) at l r =
    (κs : Lfts 2) × Admits 2 kinds-write-7ffd.ps kinds-write-7ffd.r ulb-write-7ffd.Post κs
    (slice at 0 l.state & value & slice at 1 answer & tt) r.code
    (slice at 0 r.slices.state & value & slice at 1 r.filled & tt)
    × (r.slices ≡ with_state l r.slices.state)
Steps reset_passed at l r =
    (κs : Lfts 1) × Admits 1 kinds-reset-frame-counter.ps kinds-reset-frame-counter.r ulb-reset-frame-counter.Post κs
    (slice at 0 l.state & tt) r.code
    (slice at 0 r.slices.state & tt)
    × (r.slices ≡ with_state l r.slices.state)
    × (r.filled ≡ [])
Steps (load_ram bytes page) at l r =
    (κs : Lfts 3) × Admits 3 kinds-load-page.ps kinds-load-page.r ulb-load-page.Post κs
    (shared at 0 l.state & slice at 1 l.ram & shared at 2 bytes & page & tt) r.code
    (shared at 0 l.state & slice at 1 r.slices.ram & shared at 2 bytes & page & tt)
    × (r.slices ≡ with_ram l r.slices.ram)
    × (r.filled ≡ [])
Steps (load_screen file page) at l r =
    (κs : Lfts 3) × Admits 3 kinds-load-scr.ps kinds-load-scr.r ulb-load-scr.Post κs
    (shared at 0 l.state & slice at 1 l.ram & shared at 2 file & page & tt) r.code
    (shared at 0 l.state & slice at 1 r.slices.ram & shared at 2 file & page & tt)
    × (r.slices ≡ with_ram l r.slices.ram)
    × (r.filled ≡ [])
Steps (ask q out) at l r = Replies q at l out r.code r.filled × (r.slices ≡ l)

-- THE RUN: each call on the buffers that the one before it left, by what the firmware lends of them, at any places in its memory
abbrev pub Run : List Made → Lent → Type 0
Run [] l = Unit {0}
Run (c ∷ cs) l = ((at : ℕ → Where) × Steps c.call at (lent_of c.lending l) c.result) × Run cs (buffers_after c l)

-- a start that returned 0 and left the slices `after`, and an import's registers as they then stand
abbrev pub Begins : Start → Lent → Lent → Type 0
Begins how before after = (filled : List ℕ) × ((at : ℕ → Where) × Steps (start_again how) at before (result 0 after filled))
