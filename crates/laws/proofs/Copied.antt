-- What the kit's `bytes::copy` leaves where source and target are of one length: the source.
-- Assumes nothing.
use Prim.Native.Nat.{ℕ, ◌≤◌}
use mathlib.Core.Path.{◌≡◌}
use mathlib.Core.List.{List, ◌++◌, append-nil}
use native.Mathlib.Omega.{arith}
use lib.ListN.{length, take, drop, drop_of_length-le}
use lib.Seq.{take-length}

pub whole : (source target after : List ℕ) → after ≡ take (length source) source ++ drop (length source) target → length target ≡ length source → after ≡ source
whole source target after e l =
    let h : length target ≤ length source = omega arith in
    rw (e, take-length, drop_of_length-le target h, append-nil)
