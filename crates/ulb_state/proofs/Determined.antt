-- DETERMINACY of each call here: see crate contracts, proofs/Determined.antt.
-- Assumes nothing.
use mathlib.Core.Path.{◌≡◌}
use contract.Lifetimes.{Lfts}
use denote.Triple.Clauses.{AtExit}
use borrow.Fn.World.{ArgsD, ResD}
use borrow.Fn.Kinds.{ended_of}
use Rattle.contracts.proofs.Determined.{changed_equal, repaged_equal, told_equal}
use Rattle.ulb_state.specs.contracts.ulb_write_7ffd as ulb-write-7ffd
use Rattle.ulb_state.proofs.ulb_write_7ffd.Kinds as ulb-write-7ffd-kinds
use Rattle.ulb_state.proofs.ulb_write_7ffd.Reads as ulb-write-7ffd-contract
use Rattle.ulb_state.specs.contracts.ulb_read_7ffd as ulb-read-7ffd
use Rattle.ulb_state.proofs.ulb_read_7ffd.Kinds as ulb-read-7ffd-kinds
use Rattle.ulb_state.proofs.ulb_read_7ffd.Reads as ulb-read-7ffd-contract
use Rattle.ulb_state.specs.contracts.ulb_int_active as ulb-int-active
use Rattle.ulb_state.proofs.ulb_int_active.Kinds as ulb-int-active-kinds
use Rattle.ulb_state.proofs.ulb_int_active.Reads as ulb-int-active-contract
use Rattle.ulb_state.specs.contracts.ulb_frames_count as ulb-frames-count
use Rattle.ulb_state.proofs.ulb_frames_count.Kinds as ulb-frames-count-kinds
use Rattle.ulb_state.proofs.ulb_frames_count.Reads as ulb-frames-count-contract
use Rattle.ulb_state.specs.contracts.ulb_reset_frame_counter as ulb-reset-frame-counter
use Rattle.ulb_state.proofs.ulb_reset_frame_counter.Kinds as ulb-reset-frame-counter-kinds
use Rattle.ulb_state.proofs.ulb_reset_frame_counter.Reads as ulb-reset-frame-counter-contract

pub ulb_write_7ffd_determined : (κs : Lfts 2) (a : ArgsD ulb-write-7ffd.signature κs) (r r' : ResD ulb-write-7ffd.signature κs)
    (s s' : AtExit (ended_of 2 ulb-write-7ffd-kinds.ps ulb-write-7ffd-kinds.r) κs)
    → ulb-write-7ffd-contract.Post κs a r s → ulb-write-7ffd-contract.Post κs a r' s'
    → (r ≡ r') × (s.0.now ≡ s'.0.now) × (s.1.1.0.now ≡ s'.1.1.0.now)
ulb_write_7ffd_determined κs a r r' s s' p q = repaged_equal _ r r' s.0.now s'.0.now s.1.1.0.now s'.1.1.0.now p q

pub ulb_read_7ffd_determined : (κs : Lfts 2) (a : ArgsD ulb-read-7ffd.signature κs) (r r' : ResD ulb-read-7ffd.signature κs)
    (s s' : AtExit (ended_of 2 ulb-read-7ffd-kinds.ps ulb-read-7ffd-kinds.r) κs)
    → ulb-read-7ffd-contract.Post κs a r s → ulb-read-7ffd-contract.Post κs a r' s'
    → (r ≡ r') × (s.1.0.now ≡ s'.1.0.now)
ulb_read_7ffd_determined κs a r r' s s' p q = told_equal _ r r' s.1.0.now s'.1.0.now p q

pub ulb_int_active_determined : (κs : Lfts 2) (a : ArgsD ulb-int-active.signature κs) (r r' : ResD ulb-int-active.signature κs)
    (s s' : AtExit (ended_of 2 ulb-int-active-kinds.ps ulb-int-active-kinds.r) κs)
    → ulb-int-active-contract.Post κs a r s → ulb-int-active-contract.Post κs a r' s'
    → (r ≡ r') × (s.1.0.now ≡ s'.1.0.now)
ulb_int_active_determined κs a r r' s s' p q = told_equal _ r r' s.1.0.now s'.1.0.now p q

pub ulb_frames_count_determined : (κs : Lfts 2) (a : ArgsD ulb-frames-count.signature κs) (r r' : ResD ulb-frames-count.signature κs)
    (s s' : AtExit (ended_of 2 ulb-frames-count-kinds.ps ulb-frames-count-kinds.r) κs)
    → ulb-frames-count-contract.Post κs a r s → ulb-frames-count-contract.Post κs a r' s'
    → (r ≡ r') × (s.1.0.now ≡ s'.1.0.now)
ulb_frames_count_determined κs a r r' s s' p q = told_equal _ r r' s.1.0.now s'.1.0.now p q

pub ulb_reset_frame_counter_determined : (κs : Lfts 1) (a : ArgsD ulb-reset-frame-counter.signature κs) (r r' : ResD ulb-reset-frame-counter.signature κs)
    (s s' : AtExit (ended_of 1 ulb-reset-frame-counter-kinds.ps ulb-reset-frame-counter-kinds.r) κs)
    → ulb-reset-frame-counter-contract.Post κs a r s → ulb-reset-frame-counter-contract.Post κs a r' s'
    → (r ≡ r') × (s.0.now ≡ s'.0.now)
ulb_reset_frame_counter_determined κs a r r' s s' p q = changed_equal _ r r' s.0.now s'.0.now p q
