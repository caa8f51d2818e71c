-- By the law of the blocks whose page is contended; the mask is the low three bits.
use Prim.Native.Nat.{◌/◌}
use mathlib.Core.Path.{sym}
use lib.Bits.{and_mask}
use Rattle.memory.proofs.Maps.{contended_128}
use Rattle.memory.proofs.Map.addr_is_contended.Goals as goal

pub returns-in-Sinclair128K : goal.returns-in-Sinclair128K
returns-in-Sinclair128K c =
    let a = c.args in
    rw (c.bank_is_contended.ensures, c.from-paged.ensures, and_mask a.self.paging 3, c.in-Sinclair128K.is) (sym (contended_128 a.self.paging (a.addr / 16384)))
