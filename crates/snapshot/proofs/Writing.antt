-- Banks of RAM written into a file, over plain values: each is whole in RAM, and is stored right behind the one before it.
-- Assumes nothing.
use Prim.Native.Nat.{ℕ, ◌+◌, ◌*◌, ◌≤◌, ◌<◌}
use mathlib.Core.Path.{◌≡◌, ap, ◌∙◌}
use mathlib.Core.List.{List}
use native.Mathlib.Omega.{arith}
use lib.ListN.{length, get_or, take, drop, length-drop}
use lib.Seq.{sets, length-take-le, get_or-take}
use Rattle.memory.specs.Memory.{ram_page}
use Rattle.snapshot.specs.File.{laid}
use Rattle.snapshot.specs.Written.{Writes}
use Rattle.snapshot.proofs.Laid.{laid_more, length_laid}
use Rattle.snapshot.proofs.Front.{sets_sets}

pub page_long : (b : ℕ) (ram : List ℕ) → 16384 * b + 16384 ≤ length ram → length (ram_page b ram) ≡ 16384
page_long b ram h = length-take-le 16384 (drop (16384 * b) ram) (rw length-drop (omega arith))

-- the first k of the banks are 16 KiB each
banks_long : (ram banks : List ℕ) (k : ℕ) → k ≤ length banks
    → ((j : ℕ) → j < length banks → 16384 * get_or banks j 0 + 16384 ≤ length ram)
    → length (laid (λ bank. ram_page bank ram) (take k banks)) ≡ 16384 * k
banks_long ram banks k few whole =
    let long : length (take k banks) ≡ k = length-take-le k banks few in
    length_laid 16384 (λ bank. ram_page bank ram) (take k banks) (λ j g.
    let i : j < k = omega arith in
    rw (get_or-take k banks j 0 i) (page_long (get_or banks j 0) ram (whole j (omega arith))))
    ∙ ap (λ (n : ℕ). 16384 * n) long

-- one bank more, put behind the k that stand there
pub bank_written : (ram banks file₀ file then : List ℕ) (at k : ℕ) → Writes banks (length ram) (length file₀) at → k < length banks
    → file ≡ sets file₀ at (laid (λ bank. ram_page bank ram) (take k banks))
    → then ≡ sets file (at + 16384 * k) (ram_page (get_or banks k 0) ram)
    → then ≡ sets file₀ at (laid (λ bank. ram_page bank ram) (take (k + 1) banks))
bank_written ram banks file₀ file then at k w h so_far put =
    let x = laid (λ bank. ram_page bank ram) (take k banks) in
    let page = ram_page (get_or banks k 0) ram in
    let long : length x ≡ 16384 * k = banks_long ram banks k (omega arith) w.in_ram in
    put ∙ rw (so_far, laid_more (λ bank. ram_page bank ram) banks k h, ← long) (sets_sets file₀ x page at)
