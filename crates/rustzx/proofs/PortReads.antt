-- What a port reads is the same on both sides: keys and tape, the devices in their order, and the floating bus, which never panics.
-- Assumes nothing.
use mathlib.Core.Path.{◌≡◌, refl, sym, ap, ap₂, ◌∙◌}
use mathlib.Core.Bool.{Bool, true, false, cond, not, ◌&&◌}
use mathlib.Core.List.{List, []}
use Prim.Native.Nat.{ℕ, zero, suc, ◌+◌, ◌-◌, ◌*◌, ◌/◌, ◌%◌, ◌^◌, ◌<◌, ◌≤◌}
use native.Mathlib.Nat.{zero-add}
use lib.ListN.{get_or, take, drop}
use lib.Seq.{get_or-take, get_or-drop}
use lib.Pow.{shr-shr}
use native.Mathlib.Omega.{arith}
use lib.Dec.{ltb, leb, eqb}
use lib.Bits.{bit_and, bit_xor, and_mask}
use borrow.Author.Tests.{ltb-true, ltb-false, leb-true, leb-false, lt-ltb, le-ltb, le-leb, eq-eqb, ne_eqb}
use Rattle.std.specs.Prelude.{Option, Some, None}
use Rattle.machine.specs.Numbers.{specs_of}
use Rattle.screen.proofs.OneBit.{mask_bit}
use Rattle.memory.specs.Memory.{place_of, peeked}
use Rattle.ports.specs.declared.Devices.{Devices}
use Rattle.ports.specs.declared.Device.{Device}
use Rattle.ports.specs.declared.Device.TheVariants.{Absent, Present}
use Rattle.ports.specs.declared.MousePorts.{MousePorts}
use Rattle.ports.specs.declared.Fetched.{Fetched}
use Rattle.ports.specs.declared.Fetched.TheVariants.{Bitmap, Attribute}
use Rattle.ports.specs.Keys.{selected, row_in, rows_and, keys_read}
use Rattle.offsets.specs.Offset.{line_start}
use Rattle.ports.specs.Floating.{column_at, fetched, floating_in, floating_place, floating_address}
use Rattle.ports.specs.Order.{buttons_port, x_port, y_port, class_c000, joystick_port, with_joystick, ay_byte, with_ay, with_mouse, with_extender, even_port, read_order}
use Rattle.ports.proofs.Rows.{rows_byte, and_byte}
use Rattle.bus.specs.World.{Core, World}
use Rattle.bus.specs.Calls.{floating_byte, floating_bus, answered}
use Rattle.rustzx.specs.Machine.{ZXMachine, Sinclair48K, Sinclair128K}
use Rattle.rustzx.specs.Panics.{OrPanic, done, each}
use Rattle.rustzx.specs.Memory.{read}
use Rattle.rustzx.specs.Addresses.{bitmap_line_addr}
use Rattle.rustzx.specs.Controller.{ZXController, keyboard_byte, row_read, ula_read, floating_column, fetch_floating, floating_bus_value, kempston_read, ay_read, after_mouse, mouse_read, extender_read}
use Rattle.rustzx.specs.Related.{our_machine, byte_gives, mouse_gives, attached_of, SameMemory, Related}
use Rattle.rustzx.proofs.Loops.{each_last}
use Rattle.rustzx.proofs.Timing.{numbers, port_is}
use Rattle.rustzx.proofs.Helpers.{line_address_is}
use Rattle.rustzx.proofs.Pages.{read_is}

-- ---- keys
-- bit n of the high byte is bit 8 + n of the port
high_bit : (port n : ℕ) → eqb (bit_and (port / 256 / 2 ^ n) 0x01) 0 ≡ selected port n
unfolding selected
high_bit port n =
    ap (λ (x : ℕ). eqb x 0) (and_mask (port / 256 / 2 ^ n) 1 ∙ ap (λ (x : ℕ). x % 2) (shr-shr port 8 n))

row_kept : (t : Bool) (tmp k : ℕ) → tmp < 256 → cond t (bit_and tmp k) tmp ≡ bit_and tmp (cond t k 0xFF)
row_kept true tmp k h = refl
row_kept false tmp k h = sym (and_byte tmp h)

-- the three keyboards are the three sets of rows
set_is : (at : ℕ) (rows : List ℕ) (n k : ℕ) → n < 8 → n + at ≡ k → get_or (take 8 (drop at rows)) n 0 ≡ get_or rows k 0
set_is at rows n k h e = get_or-take 8 (drop at rows) n 0 h ∙ get_or-drop at rows n 0 ∙ ap (λ (i : ℕ). get_or rows i 0) (omega arith)

keyboards_are : (d : Devices) (n : ℕ) → n < 8 → keyboard_byte (attached_of d) n ≡ row_in d.rows n
keyboards_are d n h =
    ap₂ bit_and (ap₂ bit_and (get_or-take 8 d.rows n 0 h) (set_is 8 d.rows n (n + 8) h refl)) (set_is 16 d.rows n (n + 16) h refl)

rows_are : (d : Devices) (port n : ℕ) → n ≤ 8 → each 0 n (row_read (attached_of d) (port / 256)) 0xFF ≡ rows_and d.rows port n
unfolding each rows_and
rows_are d port zero h = refl
rows_are d port (suc n) h =
    each_last 0 n (row_read (attached_of d) (port / 256)) 0xFF
    ∙ ap₂ (λ (k tmp : ℕ). row_read (attached_of d) (port / 256) k tmp) (zero-add n) (rows_are d port n (omega arith))
    ∙ ap₂ (λ (t : Bool) (k : ℕ). cond t (bit_and (rows_and d.rows port n) k) (rows_and d.rows port n)) (high_bit port n) (keyboards_are d n (omega arith))
    ∙ row_kept (selected port n) (rows_and d.rows port n) (row_in d.rows n) (rows_byte d.rows port n)

tape_is : (t v : ℕ) → t < 2 → cond (not (eqb t 1)) (bit_xor v 0x40) v ≡ cond (eqb t 0) (bit_xor v 0x40) v
tape_is zero v h = refl
tape_is (suc zero) v h = refl
tape_is (suc (suc t)) v h = absurd (omega arith)

-- An even port's byte, with a tape bit of 0 or 1.
pub keys_are : (d : Devices) (port : ℕ) → d.tape < 2 → ula_read (attached_of d) port ≡ keys_read d.rows d.tape port
unfolding keys_read
keys_are d port h = rw (rows_are d port 8 (omega arith)) (tape_is d.tape (rows_and d.rows port 8) h)

-- ---- the floating bus
-- what the ULA fetches stands at 4000h to 7FFFh, which is RAM on both machines
video_byte : (m : ZXMachine) (paging : ℕ) (rom ram : List ℕ) (addr : ℕ) → addr / 16384 ≡ 1 → peeked (our_machine m) paging rom ram addr ≡ peeked (our_machine m) paging [] ram addr
unfolding place_of
video_byte Sinclair48K paging rom ram addr e = rw e
video_byte Sinclair128K paging rom ram addr e = rw e

line_done : (row : ℕ) → row < 192 → bitmap_line_addr row ≡ done (0x4000 + line_start row)
line_done row h = let l = le-leb row 191 (omega arith) in line_address_is row ∙ rw l

line_small : (row : ℕ) → row < 192 → line_start row ≤ 6112
line_small row h = omega arith

below_not : (a b : ℕ) (t : Bool) → leb b a ≡ t → ltb a b ≡ not t
below_not a b true e = le-ltb a b (leb-true b a e)
below_not a b false e = lt-ltb a b (leb-false b a e)

idle_bit : (r : ℕ) (t : Bool) → ltb 3 (r % 8) ≡ t → eqb (bit_and r 0x04) 0 ≡ not t
idle_bit r true e = let h = ltb-true 3 (r % 8) e in mask_bit 2 r ∙ ap not (eq-eqb (r / 4 % 2) 1 (omega arith))
idle_bit r false e = let h = ltb-false 3 (r % 8) e in mask_bit 2 r ∙ ap not (ne_eqb (r / 4 % 2) 1 (λ g. omega arith))

module _ (m : ZXMachine) (rom : List ℕ) (c : ZXController) (core : Core) (mem : SameMemory (our_machine m) rom core.ram core.paging c.memory) where
  abbrev byte : Option Fetched → ℕ
  byte p = floating_byte (our_machine m) (floating_address p) core

  read_video : (addr : ℕ) → addr / 16384 ≡ 1 → read c.memory addr ≡ peeked (our_machine m) core.paging [] core.ram addr
  read_video addr e = read_is (our_machine m) rom core.ram core.paging c.memory mem addr ∙ video_byte m core.paging rom core.ram addr e

  pick_byte : (t : Bool) {x y : OrPanic ℕ} (u v : Option Fetched) → x ≡ done (byte u) → y ≡ done (byte v) → cond t x y ≡ done (byte (cond t u v))
  pick_byte true u v p q = p
  pick_byte false u v p q = q

  -- floating_bus_value's test behind the origin, with the machine's 128 clocks of picture a line
  abbrev floating_at' : ℕ → ℕ → OrPanic ℕ
  floating_at' row r = cond (ltb row 192 && ltb r 124 && eqb (bit_and r 0x04) 0) (fetch_floating c row r) (done 0xFF)

  fetch_is : (row r : ℕ) → row < 192 → r < 124 → fetch_floating c row r ≡ done (byte (fetched row r))
  fetch_is row r h k =
      let col : floating_column r ≡ column_at r = omega arith in
      let small = line_small row h in
      let e : 0x5800 + (row / 8 * 32 + column_at r) ≡ 0x5800 + row / 8 * 32 + column_at r = omega arith in
      rw (col, line_done row h, e)
      (pick_byte (eqb (r % 2) 0) (Some (Bitmap row (column_at r))) (Some (Attribute row (column_at r)))
      (ap done (read_video (0x4000 + line_start row + column_at r) (omega arith))) (ap done (read_video (0x5800 + row / 8 * 32 + column_at r) (omega arith))))

  -- where the ULA fetches nothing, FFh
  floating_at_lem : (row r : ℕ) (t u v : Bool) → leb 192 row ≡ t → leb 124 r ≡ u → ltb 3 (r % 8) ≡ v
      → cond (not t && not u && not v) (fetch_floating c row r) (done 0xFF) ≡ done (byte (cond t None (cond u None (cond v None (fetched row r)))))
  floating_at_lem row r true u v p q s = refl
  floating_at_lem row r false true v p q s = refl
  floating_at_lem row r false false true p q s = refl
  floating_at_lem row r false false false p q s = fetch_is row r (leb-false 192 row p) (leb-false 124 r q)

  floating_in_lem : (row r : ℕ) → floating_at' row r ≡ done (byte (floating_in row r))
  unfolding floating_in
  floating_in_lem row r =
      rw (below_not row 192 (leb 192 row) refl, below_not r 124 (leb 124 r) refl, idle_bit r (ltb 3 (r % 8)) refl)
      (floating_at_lem row r (leb 192 row) (leb 124 r) (ltb 3 (r % 8)) refl refl refl)

-- The floating bus gives the same byte, at every clock.
floating_by : (m : ZXMachine) (rom : List ℕ) (c : ZXController) (core : Core) → c.machine ≡ m → SameMemory (our_machine m) rom core.ram core.paging c.memory → c.frame_clocks ≡ core.clock
    → floating_bus_value c ≡ done (floating_bus (our_machine m) core)
unfolding floating_bus_value floating_bus floating_place
floating_by m rom c core e mem t =
    let o = specs_of (our_machine m) in
    rw (e, t, (numbers m).floating, (numbers m).line, (numbers m).screen_row)
    (pick_byte m rom c core mem (ltb core.clock o.block) None (floating_in ((core.clock - o.block) / o.line) ((core.clock - o.block) % o.line)) refl
    (floating_in_lem m rom c core mem ((core.clock - o.block) / o.line) ((core.clock - o.block) % o.line)))

pub floating_is : (m : ZXMachine) (rom : List ℕ) (c : ZXController) (w : World) → Related m rom c w → floating_bus_value c ≡ done (floating_bus (our_machine m) w.core)
floating_is m rom c w r = floating_by m rom c w.core r.machine r.memory r.clock

-- ---- the devices, from the end of the order to its start
module _ (m : ZXMachine) (c : ZXController) (core : Core) (floats : floating_bus_value c ≡ done (floating_bus (our_machine m) core)) where
  pick_answer : (t : Bool) {x y : OrPanic ℕ} (u v : Option ℕ) → x ≡ done (answered (our_machine m) u core) → y ≡ done (answered (our_machine m) v core)
      → cond t x y ≡ done (answered (our_machine m) (cond t u v) core)
  pick_answer true u v p q = p
  pick_answer false u v p q = q

  joystick_is : (j : Device ℕ) (port : ℕ) → kempston_read (byte_gives j) port c ≡ done (answered (our_machine m) (with_joystick j port) core)
  joystick_is Absent port = floats
  joystick_is (Present byte) port = pick_answer (joystick_port port) (Some byte) None refl floats

  ay_is : (a : Device ℕ) → ay_read (byte_gives a) c ≡ done (answered (our_machine m) (ay_byte a) core)
  ay_is Absent = floats
  ay_is (Present byte) = refl

  rest_is : (d : Devices) (port : ℕ) → after_mouse (attached_of d) port c ≡ done (answered (our_machine m) (with_ay d.ay port (with_joystick d.joystick port)) core)
  rest_is d port = pick_answer (class_c000 port) (ay_byte d.ay) (with_joystick d.joystick port) (ay_is d.ay) (joystick_is d.joystick port)

  mouse_is : (k : Device MousePorts) (d : Devices) (port : ℕ)
      → mouse_read (mouse_gives k) (attached_of d) port c ≡ done (answered (our_machine m) (with_mouse k port (with_ay d.ay port (with_joystick d.joystick port))) core)
  mouse_is Absent d port = rest_is d port
  mouse_is (Present ports) d port =
      let rest = with_ay d.ay port (with_joystick d.joystick port) in
      pick_answer (buttons_port port) (Some ports.buttons) (cond (x_port port) (Some ports.x) (cond (y_port port) (Some ports.y) rest)) refl
      (pick_answer (x_port port) (Some ports.x) (cond (y_port port) (Some ports.y) rest) refl
      (pick_answer (y_port port) (Some ports.y) rest refl (rest_is d port)))

  extender_is : (x : Device ℕ) (d : Devices) (port : ℕ) → d.tape < 2
      → extender_read (byte_gives x) (attached_of d) port c
      ≡ done (answered (our_machine m) (with_extender x (cond (even_port port) (Some (keys_read d.rows d.tape port)) (with_mouse d.mouse port (with_ay d.ay port (with_joystick d.joystick port))))) core)
  extender_is (Present byte) d port h = refl
  extender_is Absent d port h =
      let rest = with_mouse d.mouse port (with_ay d.ay port (with_joystick d.joystick port)) in
      ap (λ (t : Bool). cond t (done (ula_read (attached_of d) port)) (mouse_read (mouse_gives d.mouse) (attached_of d) port c)) (port_is m port)
      ∙ pick_answer (even_port port) (Some (keys_read d.rows d.tape port)) rest (ap done (keys_are d port h)) (mouse_is d.mouse d port)

  -- The read order, whole: who answers, and with which byte.
  pub order_is : (d : Devices) (port : ℕ) → d.tape < 2 → extender_read (attached_of d).io_extender (attached_of d) port c ≡ done (answered (our_machine m) (read_order d port) core)
  unfolding read_order
  order_is d port h = extender_is d.extender d port h
