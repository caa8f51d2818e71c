-- THE EXPORTS' CONTRACTS ARE THE FUNCTIONS': what each export is passed, returns, requires and ensures is what the function of its name in crate ulb_helpers is
-- passed, returns, requires and ensures. So what crate `runs` says of the functions it says of the calls that C makes.
-- Assumes nothing.
use Rattle.std.proofs.Common.{ℕ, List, ◌≡◌, refl}
use borrow.Fn.Kinds.{ParamKind, ResultKind, In, Out}
use Rattle.ulb_helpers.proofs.ulb_bitmap_line_addr.Kinds as kinds-bitmap-line-addr
use Rattle.ulb_helpers.proofs.ulb_bitmap_line_addr.Reads as ulb-bitmap-line-addr
use Rattle.ulb_helpers_c.proofs.ulb_bitmap_line_addr.Kinds as kinds-c-bitmap-line-addr
use Rattle.ulb_helpers_c.proofs.ulb_bitmap_line_addr.Reads as c-bitmap-line-addr
use Rattle.ulb_helpers.proofs.ulb_bitmap_line_rel.Kinds as kinds-bitmap-line-rel
use Rattle.ulb_helpers.proofs.ulb_bitmap_line_rel.Reads as ulb-bitmap-line-rel
use Rattle.ulb_helpers_c.proofs.ulb_bitmap_line_rel.Kinds as kinds-c-bitmap-line-rel
use Rattle.ulb_helpers_c.proofs.ulb_bitmap_line_rel.Reads as c-bitmap-line-rel
use Rattle.ulb_helpers.proofs.ulb_bitmap_col_rel.Kinds as kinds-bitmap-col-rel
use Rattle.ulb_helpers.proofs.ulb_bitmap_col_rel.Reads as ulb-bitmap-col-rel
use Rattle.ulb_helpers_c.proofs.ulb_bitmap_col_rel.Kinds as kinds-c-bitmap-col-rel
use Rattle.ulb_helpers_c.proofs.ulb_bitmap_col_rel.Reads as c-bitmap-col-rel
use Rattle.ulb_helpers.proofs.ulb_attr_row_rel.Kinds as kinds-attr-row-rel
use Rattle.ulb_helpers.proofs.ulb_attr_row_rel.Reads as ulb-attr-row-rel
use Rattle.ulb_helpers_c.proofs.ulb_attr_row_rel.Kinds as kinds-c-attr-row-rel
use Rattle.ulb_helpers_c.proofs.ulb_attr_row_rel.Reads as c-attr-row-rel
use Rattle.ulb_helpers.proofs.ulb_attr_col_rel.Kinds as kinds-attr-col-rel
use Rattle.ulb_helpers.proofs.ulb_attr_col_rel.Reads as ulb-attr-col-rel
use Rattle.ulb_helpers_c.proofs.ulb_attr_col_rel.Kinds as kinds-c-attr-col-rel
use Rattle.ulb_helpers_c.proofs.ulb_attr_col_rel.Reads as c-attr-col-rel
use Rattle.ulb_helpers.proofs.ulb_color_from_bits.Kinds as kinds-color-from-bits
use Rattle.ulb_helpers.proofs.ulb_color_from_bits.Reads as ulb-color-from-bits
use Rattle.ulb_helpers_c.proofs.ulb_color_from_bits.Kinds as kinds-c-color-from-bits
use Rattle.ulb_helpers_c.proofs.ulb_color_from_bits.Reads as c-color-from-bits

-- parameters, result, `requires` and `ensures` of a function of n references
abbrev Contract : ℕ → Type 3
Contract n = (ps : List (ParamKind n)) × (r : ResultKind n) × In n ps × Out n ps r

pub same_bitmap_line_addr : ◌≡◌ {A = Contract 1} (kinds-c-bitmap-line-addr.ps, kinds-c-bitmap-line-addr.r, c-bitmap-line-addr.Pre, c-bitmap-line-addr.Post) (kinds-bitmap-line-addr.ps, kinds-bitmap-line-addr.r, ulb-bitmap-line-addr.Pre, ulb-bitmap-line-addr.Post)
same_bitmap_line_addr = refl

pub same_bitmap_line_rel : ◌≡◌ {A = Contract 1} (kinds-c-bitmap-line-rel.ps, kinds-c-bitmap-line-rel.r, c-bitmap-line-rel.Pre, c-bitmap-line-rel.Post) (kinds-bitmap-line-rel.ps, kinds-bitmap-line-rel.r, ulb-bitmap-line-rel.Pre, ulb-bitmap-line-rel.Post)
same_bitmap_line_rel = refl

pub same_bitmap_col_rel : ◌≡◌ {A = Contract 1} (kinds-c-bitmap-col-rel.ps, kinds-c-bitmap-col-rel.r, c-bitmap-col-rel.Pre, c-bitmap-col-rel.Post) (kinds-bitmap-col-rel.ps, kinds-bitmap-col-rel.r, ulb-bitmap-col-rel.Pre, ulb-bitmap-col-rel.Post)
same_bitmap_col_rel = refl

pub same_attr_row_rel : ◌≡◌ {A = Contract 1} (kinds-c-attr-row-rel.ps, kinds-c-attr-row-rel.r, c-attr-row-rel.Pre, c-attr-row-rel.Post) (kinds-attr-row-rel.ps, kinds-attr-row-rel.r, ulb-attr-row-rel.Pre, ulb-attr-row-rel.Post)
same_attr_row_rel = refl

pub same_attr_col_rel : ◌≡◌ {A = Contract 1} (kinds-c-attr-col-rel.ps, kinds-c-attr-col-rel.r, c-attr-col-rel.Pre, c-attr-col-rel.Post) (kinds-attr-col-rel.ps, kinds-attr-col-rel.r, ulb-attr-col-rel.Pre, ulb-attr-col-rel.Post)
same_attr_col_rel = refl

pub same_color_from_bits : ◌≡◌ {A = Contract 1} (kinds-c-color-from-bits.ps, kinds-c-color-from-bits.r, c-color-from-bits.Pre, c-color-from-bits.Post) (kinds-color-from-bits.ps, kinds-color-from-bits.r, ulb-color-from-bits.Pre, ulb-color-from-bits.Post)
same_color_from_bits = refl
