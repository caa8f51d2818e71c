-- THE EXPORTS' CONTRACTS ARE THE FUNCTIONS': what each export is passed, returns, requires and ensures is what the function of its name in crate ulb_state is
-- passed, returns, requires and ensures. So what crate `runs` says of the functions it says of the calls that C makes.
-- Assumes nothing.
use Rattle.std.proofs.Common.{ℕ, List, ◌≡◌, refl}
use borrow.Fn.Kinds.{ParamKind, ResultKind, In, Out}
use Rattle.ulb_state.proofs.ulb_write_7ffd.Kinds as kinds-write-7ffd
use Rattle.ulb_state.proofs.ulb_write_7ffd.Reads as ulb-write-7ffd
use Rattle.ulb_state_c.proofs.ulb_write_7ffd.Kinds as kinds-c-write-7ffd
use Rattle.ulb_state_c.proofs.ulb_write_7ffd.Reads as c-write-7ffd
use Rattle.ulb_state.proofs.ulb_read_7ffd.Kinds as kinds-read-7ffd
use Rattle.ulb_state.proofs.ulb_read_7ffd.Reads as ulb-read-7ffd
use Rattle.ulb_state_c.proofs.ulb_read_7ffd.Kinds as kinds-c-read-7ffd
use Rattle.ulb_state_c.proofs.ulb_read_7ffd.Reads as c-read-7ffd
use Rattle.ulb_state.proofs.ulb_int_active.Kinds as kinds-int-active
use Rattle.ulb_state.proofs.ulb_int_active.Reads as ulb-int-active
use Rattle.ulb_state_c.proofs.ulb_int_active.Kinds as kinds-c-int-active
use Rattle.ulb_state_c.proofs.ulb_int_active.Reads as c-int-active
use Rattle.ulb_state.proofs.ulb_frames_count.Kinds as kinds-frames-count
use Rattle.ulb_state.proofs.ulb_frames_count.Reads as ulb-frames-count
use Rattle.ulb_state_c.proofs.ulb_frames_count.Kinds as kinds-c-frames-count
use Rattle.ulb_state_c.proofs.ulb_frames_count.Reads as c-frames-count
use Rattle.ulb_state.proofs.ulb_reset_frame_counter.Kinds as kinds-reset-frame-counter
use Rattle.ulb_state.proofs.ulb_reset_frame_counter.Reads as ulb-reset-frame-counter
use Rattle.ulb_state_c.proofs.ulb_reset_frame_counter.Kinds as kinds-c-reset-frame-counter
use Rattle.ulb_state_c.proofs.ulb_reset_frame_counter.Reads as c-reset-frame-counter

-- parameters, result, `requires` and `ensures` of a function of n references
abbrev Contract : ℕ → Type 3
Contract n = (ps : List (ParamKind n)) × (r : ResultKind n) × In n ps × Out n ps r

pub same_write_7ffd : ◌≡◌ {A = Contract 2} (kinds-c-write-7ffd.ps, kinds-c-write-7ffd.r, c-write-7ffd.Pre, c-write-7ffd.Post) (kinds-write-7ffd.ps, kinds-write-7ffd.r, ulb-write-7ffd.Pre, ulb-write-7ffd.Post)
same_write_7ffd = refl

pub same_read_7ffd : ◌≡◌ {A = Contract 2} (kinds-c-read-7ffd.ps, kinds-c-read-7ffd.r, c-read-7ffd.Pre, c-read-7ffd.Post) (kinds-read-7ffd.ps, kinds-read-7ffd.r, ulb-read-7ffd.Pre, ulb-read-7ffd.Post)
same_read_7ffd = refl

pub same_int_active : ◌≡◌ {A = Contract 2} (kinds-c-int-active.ps, kinds-c-int-active.r, c-int-active.Pre, c-int-active.Post) (kinds-int-active.ps, kinds-int-active.r, ulb-int-active.Pre, ulb-int-active.Post)
same_int_active = refl

pub same_frames_count : ◌≡◌ {A = Contract 2} (kinds-c-frames-count.ps, kinds-c-frames-count.r, c-frames-count.Pre, c-frames-count.Post) (kinds-frames-count.ps, kinds-frames-count.r, ulb-frames-count.Pre, ulb-frames-count.Post)
same_frames_count = refl

pub same_reset_frame_counter : ◌≡◌ {A = Contract 1} (kinds-c-reset-frame-counter.ps, kinds-c-reset-frame-counter.r, c-reset-frame-counter.Pre, c-reset-frame-counter.Post) (kinds-reset-frame-counter.ps, kinds-reset-frame-counter.r, ulb-reset-frame-counter.Pre, ulb-reset-frame-counter.Post)
same_reset_frame_counter = refl
