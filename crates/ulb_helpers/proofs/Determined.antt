-- DETERMINACY of each call here: see crate contracts, proofs/Determined.antt.
-- Assumes nothing.
use mathlib.Core.Path.{◌≡◌}
use contract.Lifetimes.{Lfts}
use denote.Triple.Clauses.{AtExit}
use borrow.Fn.World.{ArgsD, ResD}
use borrow.Fn.Kinds.{ended_of}
use Rattle.contracts.proofs.Determined.{told_equal}
use Rattle.ulb_helpers.specs.contracts.ulb_bitmap_line_addr as ulb-bitmap-line-addr
use Rattle.ulb_helpers.proofs.ulb_bitmap_line_addr.Kinds as ulb-bitmap-line-addr-kinds
use Rattle.ulb_helpers.proofs.ulb_bitmap_line_addr.Reads as ulb-bitmap-line-addr-contract
use Rattle.ulb_helpers.specs.contracts.ulb_bitmap_line_rel as ulb-bitmap-line-rel
use Rattle.ulb_helpers.proofs.ulb_bitmap_line_rel.Kinds as ulb-bitmap-line-rel-kinds
use Rattle.ulb_helpers.proofs.ulb_bitmap_line_rel.Reads as ulb-bitmap-line-rel-contract
use Rattle.ulb_helpers.specs.contracts.ulb_bitmap_col_rel as ulb-bitmap-col-rel
use Rattle.ulb_helpers.proofs.ulb_bitmap_col_rel.Kinds as ulb-bitmap-col-rel-kinds
use Rattle.ulb_helpers.proofs.ulb_bitmap_col_rel.Reads as ulb-bitmap-col-rel-contract
use Rattle.ulb_helpers.specs.contracts.ulb_attr_row_rel as ulb-attr-row-rel
use Rattle.ulb_helpers.proofs.ulb_attr_row_rel.Kinds as ulb-attr-row-rel-kinds
use Rattle.ulb_helpers.proofs.ulb_attr_row_rel.Reads as ulb-attr-row-rel-contract
use Rattle.ulb_helpers.specs.contracts.ulb_attr_col_rel as ulb-attr-col-rel
use Rattle.ulb_helpers.proofs.ulb_attr_col_rel.Kinds as ulb-attr-col-rel-kinds
use Rattle.ulb_helpers.proofs.ulb_attr_col_rel.Reads as ulb-attr-col-rel-contract
use Rattle.ulb_helpers.specs.contracts.ulb_color_from_bits as ulb-color-from-bits
use Rattle.ulb_helpers.proofs.ulb_color_from_bits.Kinds as ulb-color-from-bits-kinds
use Rattle.ulb_helpers.proofs.ulb_color_from_bits.Reads as ulb-color-from-bits-contract

pub ulb_bitmap_line_addr_determined : (κs : Lfts 1) (a : ArgsD ulb-bitmap-line-addr.signature κs) (r r' : ResD ulb-bitmap-line-addr.signature κs)
    (s s' : AtExit (ended_of 1 ulb-bitmap-line-addr-kinds.ps ulb-bitmap-line-addr-kinds.r) κs)
    → ulb-bitmap-line-addr-contract.Post κs a r s → ulb-bitmap-line-addr-contract.Post κs a r' s'
    → (r ≡ r') × (s.1.0.now ≡ s'.1.0.now)
ulb_bitmap_line_addr_determined κs a r r' s s' p q = told_equal _ r r' s.1.0.now s'.1.0.now p q

pub ulb_bitmap_line_rel_determined : (κs : Lfts 1) (a : ArgsD ulb-bitmap-line-rel.signature κs) (r r' : ResD ulb-bitmap-line-rel.signature κs)
    (s s' : AtExit (ended_of 1 ulb-bitmap-line-rel-kinds.ps ulb-bitmap-line-rel-kinds.r) κs)
    → ulb-bitmap-line-rel-contract.Post κs a r s → ulb-bitmap-line-rel-contract.Post κs a r' s'
    → (r ≡ r') × (s.1.0.now ≡ s'.1.0.now)
ulb_bitmap_line_rel_determined κs a r r' s s' p q = told_equal _ r r' s.1.0.now s'.1.0.now p q

pub ulb_bitmap_col_rel_determined : (κs : Lfts 1) (a : ArgsD ulb-bitmap-col-rel.signature κs) (r r' : ResD ulb-bitmap-col-rel.signature κs)
    (s s' : AtExit (ended_of 1 ulb-bitmap-col-rel-kinds.ps ulb-bitmap-col-rel-kinds.r) κs)
    → ulb-bitmap-col-rel-contract.Post κs a r s → ulb-bitmap-col-rel-contract.Post κs a r' s'
    → (r ≡ r') × (s.1.0.now ≡ s'.1.0.now)
ulb_bitmap_col_rel_determined κs a r r' s s' p q = told_equal _ r r' s.1.0.now s'.1.0.now p q

pub ulb_attr_row_rel_determined : (κs : Lfts 1) (a : ArgsD ulb-attr-row-rel.signature κs) (r r' : ResD ulb-attr-row-rel.signature κs)
    (s s' : AtExit (ended_of 1 ulb-attr-row-rel-kinds.ps ulb-attr-row-rel-kinds.r) κs)
    → ulb-attr-row-rel-contract.Post κs a r s → ulb-attr-row-rel-contract.Post κs a r' s'
    → (r ≡ r') × (s.1.0.now ≡ s'.1.0.now)
ulb_attr_row_rel_determined κs a r r' s s' p q = told_equal _ r r' s.1.0.now s'.1.0.now p q

pub ulb_attr_col_rel_determined : (κs : Lfts 1) (a : ArgsD ulb-attr-col-rel.signature κs) (r r' : ResD ulb-attr-col-rel.signature κs)
    (s s' : AtExit (ended_of 1 ulb-attr-col-rel-kinds.ps ulb-attr-col-rel-kinds.r) κs)
    → ulb-attr-col-rel-contract.Post κs a r s → ulb-attr-col-rel-contract.Post κs a r' s'
    → (r ≡ r') × (s.1.0.now ≡ s'.1.0.now)
ulb_attr_col_rel_determined κs a r r' s s' p q = told_equal _ r r' s.1.0.now s'.1.0.now p q

pub ulb_color_from_bits_determined : (κs : Lfts 1) (a : ArgsD ulb-color-from-bits.signature κs) (r r' : ResD ulb-color-from-bits.signature κs)
    (s s' : AtExit (ended_of 1 ulb-color-from-bits-kinds.ps ulb-color-from-bits-kinds.r) κs)
    → ulb-color-from-bits-contract.Post κs a r s → ulb-color-from-bits-contract.Post κs a r' s'
    → (r ≡ r') × (s.1.0.now ≡ s'.1.0.now)
ulb_color_from_bits_determined κs a r r' s s' p q = told_equal _ r r' s.1.0.now s'.1.0.now p q
