-- "Bytes of an absent device are ignored", and no other byte is.
-- Assumes nothing.
use Prim.Native.Nat.{ℕ, zero, suc, ◌+◌, ◌-◌, ◌<◌}
use mathlib.Core.Path.{◌≡◌, refl, sym, ap, ◌∙◌}
use mathlib.Core.Bool.{Bool, true, false, cond, ◌&&◌, ◌||◌}
use mathlib.Core.List.{List}
use native.Mathlib.Omega.{arith}
use borrow.Author.Tests.{ne_eqb, ltb-true, lt-leb}
use lib.Dec.{eqb, ltb}
use lib.ListN.{length, take, get_or, length-take}
use lib.Seq.{ext_get_or, get_or-take}
use Rattle.laws.proofs.Cases.{split, and_left, and_right}
use Rattle.machine.specs.declared.ZXMachine.{ZXMachine}
use Rattle.ports.specs.declared.Device.TheVariants.{Absent, Present}
use Rattle.ports.specs.declared.MousePorts.{MousePorts}
use Rattle.ports.specs.declared.Devices.{Devices}
use Rattle.ports.specs.Devices.{device_byte, device_of, rows_of, devices_of, flags_of, ignored}
use Rattle.ports.specs.Order.{read_order}
use Rattle.ports.specs.Hearers.{hearers}

-- ---- two records that agree but for ignored bytes stand for the same devices
early : (s : List ℕ) (k : ℕ) → k < 26 → ignored s k ≡ false
unfolding ignored
early s k h = rw (ne_eqb k 26 (λ (e : k ≡ 26). omega arith), ne_eqb k 28 (λ (e : k ≡ 28). omega arith), ne_eqb k 30 (λ (e : k ≡ 30). omega arith), lt-leb 32 k (omega arith))

-- the mouse's three bytes
abbrev ports : List ℕ → MousePorts
ports s = record { buttons = device_byte s 32; x = device_byte s 33; y = device_byte s 34 }

module _ (s t : List ℕ) (ls : length s ≡ 35) (lt : length t ≡ 35) (h : (k : ℕ) → ignored s k ≡ false → device_byte s k ≡ device_byte t k) where
  rows_same : rows_of s ≡ rows_of t
  rows_same =
      let a : length (take 24 s) ≡ 24 = length-take 24 s ∙ rw ls in
      let b : length (take 24 t) ≡ 24 = length-take 24 t ∙ rw lt in
      ext_get_or 0 (take 24 s) (take 24 t) (a ∙ sym b)
      (λ i l. let g : i < 24 = omega arith in get_or-take 24 s i 0 g ∙ (h i (early s i (omega arith)) ∙ sym (get_or-take 24 t i 0 g)))

  -- a device with bytes of any type, its flag at any place
  one : {B : Type 0} (f : ℕ) (b c : B) → device_byte s f ≡ device_byte t f → (eqb (device_byte s f) 0 ≡ false → b ≡ c)
      → device_of (device_byte s f) b ≡ device_of (device_byte t f) c
  one {B} f b c e g = rw (← e) (by_flag (eqb (device_byte s f) 0) g) where
    by_flag : (z : Bool) → (z ≡ false → b ≡ c) → cond z Absent (Present b) ≡ cond z Absent (Present c)
    by_flag true k = refl
    by_flag false k = ap Present (k refl)

  -- the bytes of an absent device do not matter: records that differ in such bytes alone are read as the same devices
  pub absent_ignored : devices_of s ≡ devices_of t
  unfolding devices_of ignored
  absent_ignored =
      rw (
        rows_same,
        h 24 refl,
        one 25 _ _ (h 25 refl) (λ e. h 26 (rw e)),
        one 27 _ _ (h 27 refl) (λ e. h 28 (rw e)),
        one 29 _ _ (h 29 refl) (λ e. h 30 (rw e)),
        one 31 (ports s) (ports t) (h 31 refl) (λ e. rw (h 32 e, h 33 e, h 34 e)),
      )

  -- they are judged alike, and every port reads and hears alike
  pub same_flags : flags_of s ≡ flags_of t
  unfolding ignored
  same_flags = rw (h 24 refl, h 25 refl, h 27 refl, h 29 refl, h 31 refl)

  pub same_reads : (port : ℕ) → read_order (devices_of s) port ≡ read_order (devices_of t) port
  same_reads port = ap (λ (d : Devices). read_order d port) absent_ignored

  pub same_writes : (m : ZXMachine) (port : ℕ) → hearers m (devices_of s) port ≡ hearers m (devices_of t) port
  same_writes m port = ap (λ (d : Devices). hearers m d port) absent_ignored

-- ---- and nothing else is lost: records that are read as the same devices agree in every byte that is not ignored
never : {A : Type 0} → true ≡ false → A
never e = let z : ◌≡◌ {A = ℕ} 0 1 = cc in let y : ⊥ = omega arith in absurd y

-- a device gives back its flag, and its bytes if it is there
back : {B : Type 0} (f g : ℕ) (b c : B) → f < 2 → g < 2 → device_of f b ≡ device_of g c → (f ≡ g) × (eqb f 0 ≡ false → b ≡ c)
back zero zero b c hf hg e = (refl, λ z. never z)
back zero (suc zero) b c hf hg e = let z : ◌≡◌ {A = ℕ} 0 1 = cc in let y : ⊥ = omega arith in absurd y
back (suc zero) zero b c hf hg e = let z : ◌≡◌ {A = ℕ} 0 1 = cc in let y : ⊥ = omega arith in absurd y
back (suc zero) (suc zero) b c hf hg e = (refl, λ z. cc)
back (suc (suc f)) g b c hf hg e = let y : ⊥ = omega arith in absurd y
back zero (suc (suc g)) b c hf hg e = let y : ⊥ = omega arith in absurd y
back (suc zero) (suc (suc g)) b c hf hg e = let y : ⊥ = omega arith in absurd y

or_left : (a b : Bool) → (a || b) ≡ false → a ≡ false
or_left true b e = e
or_left false b e = refl

-- what the judged flags say
record Judged (s : List ℕ) : Type 0 where
  extender_flag : device_byte s 25 < 2
  ay_flag : device_byte s 27 < 2
  joystick_flag : device_byte s 29 < 2
  mouse_flag : device_byte s 31 < 2

judged : (s : List ℕ) → flags_of s ≡ true → Judged s
judged s e =
    let a = ltb (device_byte s 24) 2 in
    let b = ltb (device_byte s 25) 2 in
    let c = ltb (device_byte s 27) 2 in
    let d = ltb (device_byte s 29) 2 in
    let f = ltb (device_byte s 31) 2 in
    let e₄ : (a && b && c && d) ≡ true = and_left (a && b && c && d) f e in
    let e₃ : (a && b && c) ≡ true = and_left (a && b && c) d e₄ in
    let e₂ : (a && b) ≡ true = and_left (a && b) c e₃ in
    record {
      extender_flag = ltb-true (device_byte s 25) 2 (and_right a b e₂);
      ay_flag = ltb-true (device_byte s 27) 2 (and_right (a && b) c e₃);
      joystick_flag = ltb-true (device_byte s 29) 2 (and_right (a && b && c) d e₄);
      mouse_flag = ltb-true (device_byte s 31) 2 (and_right (a && b && c && d) f e);
    }

module _ (s t : List ℕ) (fs : flags_of s ≡ true) (ft : flags_of t ≡ true) (e : devices_of s ≡ devices_of t) where
  row_kept : (k : ℕ) → k < 24 → device_byte s k ≡ device_byte t k
  unfolding devices_of
  row_kept k h = sym (get_or-take 24 s k 0 h) ∙ (ap (λ (d : Devices). get_or d.rows k 0) e ∙ get_or-take 24 t k 0 h)

  extender_kept : (device_byte s 25 ≡ device_byte t 25) × (eqb (device_byte s 25) 0 ≡ false → device_byte s 26 ≡ device_byte t 26)
  unfolding devices_of
  extender_kept =
      back (device_byte s 25) (device_byte t 25) (device_byte s 26) (device_byte t 26)
      (judged s fs).extender_flag (judged t ft).extender_flag (ap (λ (d : Devices). d.extender) e)

  ay_kept : (device_byte s 27 ≡ device_byte t 27) × (eqb (device_byte s 27) 0 ≡ false → device_byte s 28 ≡ device_byte t 28)
  unfolding devices_of
  ay_kept =
      back (device_byte s 27) (device_byte t 27) (device_byte s 28) (device_byte t 28)
      (judged s fs).ay_flag (judged t ft).ay_flag (ap (λ (d : Devices). d.ay) e)

  joystick_kept : (device_byte s 29 ≡ device_byte t 29) × (eqb (device_byte s 29) 0 ≡ false → device_byte s 30 ≡ device_byte t 30)
  unfolding devices_of
  joystick_kept =
      back (device_byte s 29) (device_byte t 29) (device_byte s 30) (device_byte t 30)
      (judged s fs).joystick_flag (judged t ft).joystick_flag (ap (λ (d : Devices). d.joystick) e)

  mouse_kept : (device_byte s 31 ≡ device_byte t 31) × (eqb (device_byte s 31) 0 ≡ false → ports s ≡ ports t)
  unfolding devices_of
  mouse_kept =
      back (device_byte s 31) (device_byte t 31) (ports s) (ports t) (judged s fs).mouse_flag (judged t ft).mouse_flag (ap (λ (d : Devices). d.mouse) e)

  late_kept : (j : ℕ) → j < 11 → ignored s (24 + j) ≡ false → device_byte s (24 + j) ≡ device_byte t (24 + j)
  unfolding ignored devices_of
  late_kept zero h i = ap (λ (d : Devices). d.tape) e
  late_kept (suc zero) h i = extender_kept.0
  late_kept (suc (suc zero)) h i = extender_kept.1 (or_left _ false (or_left _ false (or_left _ false i)))
  late_kept (suc (suc (suc zero))) h i = ay_kept.0
  late_kept (suc (suc (suc (suc zero)))) h i = ay_kept.1 (or_left _ false (or_left _ false i))
  late_kept (suc (suc (suc (suc (suc zero))))) h i = joystick_kept.0
  late_kept (suc (suc (suc (suc (suc (suc zero)))))) h i = joystick_kept.1 (or_left _ false i)
  late_kept (suc (suc (suc (suc (suc (suc (suc zero))))))) h i = mouse_kept.0
  late_kept (suc (suc (suc (suc (suc (suc (suc (suc zero)))))))) h i = ap (λ (p : MousePorts). p.buttons) (mouse_kept.1 i)
  late_kept (suc (suc (suc (suc (suc (suc (suc (suc (suc zero))))))))) h i = ap (λ (p : MousePorts). p.x) (mouse_kept.1 i)
  late_kept (suc (suc (suc (suc (suc (suc (suc (suc (suc (suc zero)))))))))) h i = ap (λ (p : MousePorts). p.y) (mouse_kept.1 i)
  late_kept (suc (suc (suc (suc (suc (suc (suc (suc (suc (suc (suc j))))))))))) h i = let y : ⊥ = omega arith in absurd y

  pub nothing_lost : (k : ℕ) → k < 35 → ignored s k ≡ false → device_byte s k ≡ device_byte t k
  nothing_lost k h i =
      split 24 k
      (λ g. let p : 24 + (k - 24) ≡ k = omega arith in
      sym (ap (device_byte s) p) ∙ (late_kept (k - 24) (omega arith) (ap (ignored s) p ∙ i) ∙ ap (device_byte t) p))
      (λ g. row_kept k g)
