-- The definitions of document 01 (specs/Timing) and those of the public pages (specs/Pages) agree at each clock, over any numbers that go together.
-- Assumes nothing.
use mathlib.Core.Path.{◌≡◌, refl, ap, sym, ◌∙◌}
use mathlib.Core.Bool.{cond}
use Prim.Native.Nat.{ℕ, zero, suc, ◌+◌, ◌-◌, ◌*◌, ◌/◌, ◌%◌, ◌<◌, ◌≤◌}
use native.Mathlib.Nat.{mod-eq_of_lt, mod-eq-sub-mod, div-eq_of_lt, div-eq-sub-div, div-lt_iff_lt-mul, suc-mul, mul-add}
use native.Mathlib.Numerals.{add-one, one-add}
use native.Mathlib.Omega.{arith}
use borrow.Author.Tests.{lt-ltb, le-ltb, le-leb, lt-leb, eq-eqb, ne_eqb}
use lib.Dec.{ltb, leb, lit≤}
use lib.ListN.{get_or}
use Rattle.laws.proofs.Cases.{split}
use Rattle.machine.specs.declared.ZXMachine.{ZXMachine}
use Rattle.machine.specs.declared.ZXMachine.TheVariants.{Sinclair48K, Sinclair128K}
use Rattle.machine.specs.declared.ZXSpecs.{ZXSpecs}
use Rattle.machine.specs.Numbers.{specs_of}
use Rattle.machine.specs.Timing.{pattern, delay, blocks_capped, blocks_from, blocks_at, block_position, border_capped, border_from, border_at, border_position, interrupt}
use Rattle.machine.specs.Pages.{Page, page_of, laps, patterns, scan, lasts, interrupt48k, ticks, passed, page_delay, page_blocks, window_start, page_pairs, read_shift}
use Rattle.machine.proofs.Why.{number_is}

-- what the two sets of numbers of one machine have to do with each other
pub record Same (p : Page) (s : ZXSpecs) : Type 0 where
  pub line : p.per_line ≡ s.line
  pub contention : p.first_held ≡ s.contention
  pub block : p.first_byte + read_shift ≡ s.block
  pub border : window_start p ≡ s.border
  pub frame : laps p.lines p.per_line ≡ s.frame
  pub wide : 160 ≤ s.line

-- the pages' numbers and document 01's go together on both machines
pub same : (m : ZXMachine) → Same (page_of m) (specs_of m)
unfolding laps
same Sinclair48K = record { line = refl; contention = refl; block = refl; border = refl; frame = refl; wide = lit≤ tt }
same Sinclair128K = record { line = refl; contention = refl; block = refl; border = refl; frame = refl; wide = lit≤ tt }

-- the 48K page's two ways to say where the picture starts meet: 64 lines are 14,336 T-states; the 128K page's differ by two
pub first_byte_48k : laps (page_of Sinclair48K).top (page_of Sinclair48K).per_line ≡ (page_of Sinclair48K).first_byte
unfolding laps
first_byte_48k = refl

pub first_byte_128k : laps (page_of Sinclair128K).top (page_of Sinclair128K).per_line ≡ (page_of Sinclair128K).first_byte + 2
unfolding laps
first_byte_128k = refl

-- lines after the picture: 56 on both machines
pub below_picture : (m : ZXMachine) → (page_of m).top + 192 + 56 ≡ (page_of m).lines
below_picture Sinclair48K = refl
below_picture Sinclair128K = refl

-- ---- the delay
patterns_at : (k x : ℕ) → x < 8 * k → get_or (patterns k) x 0 ≡ get_or pattern (x % 8) 0
unfolding patterns
patterns_at zero x h = let z : ⊥ = omega arith in absurd z
patterns_at (suc k) zero h = refl
patterns_at (suc k) (suc zero) h = refl
patterns_at (suc k) (suc (suc zero)) h = refl
patterns_at (suc k) (suc (suc (suc zero))) h = refl
patterns_at (suc k) (suc (suc (suc (suc zero)))) h = refl
patterns_at (suc k) (suc (suc (suc (suc (suc zero))))) h = refl
patterns_at (suc k) (suc (suc (suc (suc (suc (suc zero)))))) h = refl
patterns_at (suc k) (suc (suc (suc (suc (suc (suc (suc zero))))))) h = refl
patterns_at (suc k) (suc (suc (suc (suc (suc (suc (suc (suc y)))))))) h = let e : y % 8 ≡ suc (suc (suc (suc (suc (suc (suc (suc y))))))) % 8 = omega arith in patterns_at k y (omega arith) ∙ ap (λ (i : ℕ). get_or pattern i 0) e

-- document 01's delay, c clocks after the start of k lines
doc : ℕ → ℕ → ℕ → ℕ → ℕ
doc k start line t = cond (ltb t start) 0 (cond (leb (start + k * line) t) 0 (cond (leb 128 ((t - start) % line)) 0 (get_or pattern ((t - start) % line % 8) 0)))

doc_next : (k start line t : ℕ) → 0 < line → start + line ≤ t → doc k (start + line) line t ≡ doc (suc k) start line t
unfolding doc
doc_next k start line t w h =
    let e₁ : start + line + k * line ≡ start + suc k * line = omega (arith, suc-mul k line) in
    let e₂ : (t - (start + line)) % line ≡ (t - start) % line = ap (λ (x : ℕ). x % line) (omega arith) ∙ sym (mod-eq-sub-mod {n = t - start} {m = line} (omega arith)) in
    simp (le-ltb t (start + line) h, le-ltb t start (omega arith), e₁, e₂)

-- past the 128 T-states of a line the next lines decide
scan_past : (k start line t : ℕ) → start + 128 ≤ t → scan (suc k) start line t ≡ scan k (start + line) line t
unfolding scan
scan_past k start line t h = simp (le-ltb t start (omega arith), le-ltb t (start + 128) h)

scan_is : (k start line t : ℕ) → 128 ≤ line → scan k start line t ≡ doc k start line t
unfolding scan doc
scan_is zero start line t w = split start t (λ h. simp (le-ltb t start h, le-leb (start + 0 * line) t (omega arith))) (λ h. simp (lt-ltb t start h))
scan_is (suc k) start line t w =
    split start t (λ h. split (start + 128) t (λ h₁. split (start + line) t
    (λ h₂. scan_past k start line t h₁ ∙ (scan_is k (start + line) line t w ∙ doc_next k start line t (omega arith) h₂))
    (λ h₂. simp (le-ltb t start h, le-ltb t (start + 128) h₁, scan_is k (start + line) line t w, lt-ltb t (start + line) h₂, lt-leb (start + suc k * line) t (omega (arith, suc-mul k line)), mod-eq_of_lt {n = t - start} {m = line} (omega arith), le-leb 128 (t - start) (omega arith))))
    (λ h₁. simp (le-ltb t start h, lt-ltb t (start + 128) h₁, lt-leb (start + suc k * line) t (omega (arith, suc-mul k line)), mod-eq_of_lt {n = t - start} {m = line} (omega arith), lt-leb 128 (t - start) (omega arith), patterns_at 16 (t - start) (omega arith))))
    (λ h. simp (lt-ltb t start h))

-- ---- the counts of blocks and of pixel pairs: of n moments in a line, c clocks after its start
upto : ℕ → ℕ → ℕ
upto n x = cond (leb x n) x n

upto_all : (n x : ℕ) → n ≤ x → upto n x ≡ n
unfolding upto
upto_all n x h = split x n (λ l. simp (le-leb x n l) (omega arith)) (λ l. simp (lt-leb x n l))

upto_more : (n x : ℕ) → suc (upto n x) ≡ upto (suc n) (suc x)
unfolding upto
upto_more n x = split x n (λ l. simp (le-leb x n l, le-leb (suc x) (suc n) (omega arith))) (λ l. simp (lt-leb x n l, lt-leb (suc x) (suc n) (omega arith)))

upto_one : (n : ℕ) → upto (suc n) 1 ≡ 1
unfolding upto
upto_one n = simp (le-leb 1 (suc n) (omega arith))

pub ticks_before : (n step start t : ℕ) → t < start → ticks n step start t ≡ 0
unfolding ticks
ticks_before zero step start t h = refl
ticks_before (suc n) step start t h = simp (lt-leb start t h, ticks_before n step (start + step) t (omega arith))

ticks_is : (n step start t : ℕ) → 0 < step → start ≤ t → ticks n step start t ≡ upto n ((t - start) / step + 1)
unfolding ticks
ticks_is zero step start t p h = sym (upto_all 0 ((t - start) / step + 1) (omega arith))
ticks_is (suc n) step start t p h =
    split (start + step) t
    (λ l.
    let X = (t - (start + step)) / step in
    let e : t - start - step ≡ t - (start + step) = omega arith in
    let d : (t - start) / step ≡ X + 1 = div-eq-sub-div {m = step} {n = t - start} p (omega arith) ∙ ap (λ (x : ℕ). x / step + 1) e in
    simp (le-leb start t h, ticks_is n step (start + step) t p l, d, one-add, add-one) (upto_more n (suc X)))
    (λ l. simp (le-leb start t h, ticks_before n step (start + step) t l, div-eq_of_lt {n = t - start} {m = step} (omega arith)) (sym (upto_one n)))

-- the closed form: of k lines of n moments, c clocks after the first
pos : ℕ → ℕ → ℕ → ℕ → ℕ → ℕ
pos k n step line c = cond (leb k (c / line)) (k * n) (n * (c / line) + upto n (c % line / step + 1))

pub passed_before : (k n step line start t : ℕ) → t < start → passed k n step line start t ≡ 0
unfolding passed
passed_before zero n step line start t h = refl
passed_before (suc k) n step line start t h = simp (ticks_before n step start t h, passed_before k n step line (start + line) t (omega arith))

-- a line that is long enough is full before the next one starts
pub ticks_all : (n step line start t : ℕ) → 0 < step → n * step ≤ line → start + line ≤ t → ticks n step start t ≡ n
ticks_all n step line start t p w h = ticks_is n step start t p (omega arith) ∙ upto_all n ((t - start) / step + 1) (split n ((t - start) / step) (λ l. omega arith) (λ l. let z : ⊥ = omega (arith, (div-lt_iff_lt-mul {k = step} {x = t - start} {y = n} p).0 l) in absurd z))

-- a line on: one line more, the same clocks in it
pos_next : (k n step line c c' : ℕ) → 0 < line → line ≤ c → c' ≡ c - line → n + pos k n step line c' ≡ pos (suc k) n step line c
unfolding pos
pos_next k n step line c c' p h e =
    let d : c / line ≡ c' / line + 1 = div-eq-sub-div {m = line} {n = c} p h ∙ ap (λ (x : ℕ). x / line + 1) (sym e) in
    let m : c % line ≡ c' % line = mod-eq-sub-mod {n = c} {m = line} h ∙ ap (λ (x : ℕ). x % line) (sym e) in
    split k (c' / line)
    (λ l. simp (d, m, le-leb k (c' / line) l, le-leb (suc k) (c' / line + 1) (omega arith)) (omega (arith, suc-mul k n)))
    (λ l. simp (d, m, lt-leb k (c' / line) l, lt-leb (suc k) (c' / line + 1) (omega arith)) (omega (arith, mul-add n (c' / line) 1)))

passed_is : (k n step line start t : ℕ) → 0 < step → 0 < line → n * step ≤ line → start ≤ t → passed k n step line start t ≡ pos k n step line (t - start)
unfolding passed pos
passed_is zero n step line start t p q w h = simp (le-leb 0 ((t - start) / line) (omega arith)) (omega arith)
passed_is (suc k) n step line start t p q w h =
    split (start + line) t
    (λ l. rw (ticks_all n step line start t p w l, passed_is k n step line (start + line) t p q w l) (pos_next k n step line (t - start) (t - (start + line)) q (omega arith) (omega arith)))
    (λ l. simp (ticks_is n step start t p h, passed_before k n step line (start + line) t l, div-eq_of_lt {n = t - start} {m = line} (omega arith), mod-eq_of_lt {n = t - start} {m = line} (omega arith), lt-leb (suc k) 0 (omega arith)) (omega arith))

-- ---- document 01's positions in the closed form
blocks_pos : (s : ZXSpecs) (t : ℕ) → s.block ≤ t → block_position s t ≡ pos 192 32 4 s.line (t - s.block)
unfolding blocks_at blocks_from blocks_capped pos upto
blocks_pos s t h =
    let q = (t - s.block) / s.line in
    let x = (t - s.block) % s.line / 4 + 1 in
    split x 32
    (λ l. split 192 q
    (λ l₁. simp (le-ltb t s.block h, le-ltb 32 x l, le-leb x 32 l, le-leb 192 q l₁))
    (λ l₁. simp (le-ltb t s.block h, le-ltb 32 x l, le-leb x 32 l, lt-leb 192 q l₁)))
    (λ l. split 192 q
    (λ l₁. simp (le-ltb t s.block h, lt-ltb 32 x l, lt-leb x 32 l, le-leb 192 q l₁, le-leb 192 (q + 1) (omega arith)))
    (λ l₁. split 192 (q + 1)
    (λ l₂. simp (le-ltb t s.block h, lt-ltb 32 x l, lt-leb x 32 l, lt-leb 192 q l₁, le-leb 192 (q + 1) l₂) (omega arith))
    (λ l₂. simp (le-ltb t s.block h, lt-ltb 32 x l, lt-leb x 32 l, lt-leb 192 q l₁, lt-leb 192 (q + 1) l₂) (omega arith))))

border_pos : (s : ZXSpecs) (t : ℕ) → s.border ≤ t → border_position s t ≡ 2 * pos 240 160 1 s.line (t - s.border)
unfolding border_at border_from border_capped pos upto
border_pos s t h =
    let q = (t - s.border) / s.line in
    let r = (t - s.border) % s.line in
    let e : r / 1 ≡ r = omega arith in
    split (2 * (r + 1)) 320
    (λ l. split 240 q
    (λ l₁. simp (le-ltb t s.border h, e, le-ltb 320 (2 * (r + 1)) l, le-leb 240 q l₁))
    (λ l₁. simp (le-ltb t s.border h, e, le-ltb 320 (2 * (r + 1)) l, le-leb (r + 1) 160 (omega arith), lt-leb 240 q l₁) (omega arith)))
    (λ l. split 240 q
    (λ l₁. simp (le-ltb t s.border h, e, lt-ltb 320 (2 * (r + 1)) l, le-leb 240 q l₁, le-leb 240 (q + 1) (omega arith)))
    (λ l₁. split 240 (q + 1)
    (λ l₂. simp (le-ltb t s.border h, e, lt-ltb 320 (2 * (r + 1)) l, lt-leb (r + 1) 160 (omega arith), lt-leb 240 q l₁, le-leb 240 (q + 1) l₂) (omega arith))
    (λ l₂. simp (le-ltb t s.border h, e, lt-ltb 320 (2 * (r + 1)) l, lt-leb (r + 1) 160 (omega arith), lt-leb 240 q l₁, lt-leb 240 (q + 1) l₂) (omega arith))))

-- the block position counts the moments at which blocks come
pub blocks_are : (s : ZXSpecs) (t : ℕ) → 160 ≤ s.line → passed 192 32 4 s.line s.block t ≡ block_position s t
unfolding blocks_at
blocks_are s t w =
    split s.block t
    (λ h. passed_is 192 32 4 s.line s.block t (omega arith) (omega arith) (omega arith) h ∙ sym (blocks_pos s t h))
    (λ h. passed_before 192 32 4 s.line s.block t h ∙ simp (lt-ltb t s.block h))

-- the border position counts the moments at which pixel pairs come, two pixels each
pub pairs_are : (s : ZXSpecs) (t : ℕ) → 160 ≤ s.line → 2 * passed 240 160 1 s.line s.border t ≡ border_position s t
unfolding border_at
pairs_are s t w =
    split s.border t
    (λ h. ap (λ (x : ℕ). 2 * x) (passed_is 240 160 1 s.line s.border t (omega arith) (omega arith) (omega arith) h) ∙ sym (border_pos s t h))
    (λ h. ap (λ (x : ℕ). 2 * x) (passed_before 240 160 1 s.line s.border t h) ∙ simp (lt-ltb t s.border h))

-- ---- the interrupt
lasts_is : (n start t : ℕ) → start ≤ t → lasts n start t ≡ ltb t (start + n)
unfolding lasts
lasts_is zero start t h = sym (le-ltb t (start + 0) (omega arith))
lasts_is (suc n) start t h =
    split (start + 1) t
    (λ k. let e : start + 1 + n ≡ start + suc n = omega arith in
    rw (ne_eqb t start (λ q. omega arith)) (lasts_is n (start + 1) t k ∙ ap (λ (x : ℕ). ltb t x) e))
    (λ k. rw (eq-eqb t start (omega arith)) (sym (lt-ltb t (start + suc n) (omega arith))))

-- The 48K page's interrupt is document 01's at every T-state. Document 01 has the same 32 clocks on 128K, for which no page states any.
pub agree_interrupt_48k : (t : ℕ) → interrupt48k t ≡ interrupt t
agree_interrupt_48k t = lasts_is 32 0 t (omega arith)

-- ---- the theorems, over any machine whose two sets of numbers go together, at every clock
module _ (p : Page) (s : ZXSpecs) (e : Same p s) (t : ℕ) where
  -- the page's delay is document 01's
  pub agree_delay : page_delay p t ≡ delay s t
  unfolding doc
  agree_delay = rw (e.line, e.contention) (scan_is 192 s.contention s.line t (omega (arith, e.wide)) ∙ sym (number_is s t))

  -- the blocks that have come at the pace of the page's pixels are document 01's block position
  pub agree_blocks : page_blocks p t ≡ block_position s t
  agree_blocks = rw (e.line, e.block) (blocks_are s t e.wide)

  -- the pixel pairs that have come by the page are half of document 01's border position
  pub agree_border : 2 * page_pairs p t ≡ border_position s t
  agree_border = rw (e.border, e.line) (pairs_are s t e.wide)
