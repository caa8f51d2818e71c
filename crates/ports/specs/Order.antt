-- Document 01, "Bus calls": the port classes, and who answers a read.
-- Assumes nothing.
use Rattle.std.specs.Prelude.{ℕ, ◌%◌, Bool, true, false, cond, eqb, Option, Some, None}
use Rattle.std.specs.Int.Bits.{bit_and}
use Rattle.machine.specs.declared.ZXMachine.{ZXMachine}
use Rattle.machine.specs.declared.ZXMachine.TheVariants.{Sinclair48K, Sinclair128K}
use Rattle.ports.specs.declared.Device.{Device}
use Rattle.ports.specs.declared.Device.TheVariants.{Absent, Present}
use Rattle.ports.specs.declared.MousePorts.{MousePorts}
use Rattle.ports.specs.declared.Devices.{Devices}
use Rattle.ports.specs.Keys.{keys_read}

-- ---- the classes of ports
-- "even port"
abbrev pub even_port : ℕ → Bool
even_port port = eqb (port % 2) 0

-- "port & 0121h = 0001h buttons, & 0521h = 0101h x, = 0501h y"
abbrev pub buttons_port : ℕ → Bool
buttons_port port = eqb (bit_and port 0x0121) 0x0001

abbrev pub x_port : ℕ → Bool
x_port port = eqb (bit_and port 0x0521) 0x0101

abbrev pub y_port : ℕ → Bool
y_port port = eqb (bit_and port 0x0521) 0x0501

-- "& C002h = C000h", the C000h class
abbrev pub class_c000 : ℕ → Bool
class_c000 port = eqb (bit_and port 0xC002) 0xC000

-- the 8000h class, under the same mask
abbrev pub class8000 : ℕ → Bool
class8000 port = eqb (bit_and port 0xC002) 0x8000

-- "joystick if & 00E0h = 0"
abbrev pub joystick_port : ℕ → Bool
joystick_port port = eqb (bit_and port 0x00E0) 0

-- "& 8002h = 0"
abbrev pub paging_port : ℕ → Bool
paging_port port = eqb (bit_and port 0x8002) 0

-- ---- "Read order", from its end to its start: each device answers, or leaves the port to the rest; where none answers the floating bus is read
-- "joystick if & 00E0h = 0; floating bus"
abbrev pub with_joystick : Device ℕ → ℕ → Option ℕ
with_joystick Absent port = None
with_joystick (Present byte) port = cond (joystick_port port) (Some byte) None

-- "the AY byte, or the floating bus if AY is absent"
abbrev pub ay_byte : Device ℕ → Option ℕ
ay_byte Absent = None
ay_byte (Present byte) = Some byte

-- "& C002h = C000h the AY byte"
abbrev pub with_ay : Device ℕ → ℕ → Option ℕ → Option ℕ
with_ay a port rest = cond (class_c000 port) (ay_byte a) rest

-- "with a mouse, port & 0121h = 0001h buttons, & 0521h = 0101h x, = 0501h y"
abbrev pub with_mouse : Device MousePorts → ℕ → Option ℕ → Option ℕ
with_mouse Absent port rest = rest
with_mouse (Present ports) port rest =
    cond (buttons_port port) (Some ports.buttons)
    (cond (x_port port) (Some ports.x)
    (cond (y_port port) (Some ports.y) rest))

-- "extender" first: it is present only when it claims the port
abbrev pub with_extender : Device ℕ → Option ℕ → Option ℕ
with_extender Absent rest = rest
with_extender (Present byte) rest = Some byte

-- "extender; even port (..); with a mouse, ..; & C002h = C000h ..; joystick ..; floating bus"
unfoldable pub read_order : Devices → ℕ → Option ℕ
read_order d port =
    with_extender d.extender
    (cond (even_port port) (Some (keys_read d.rows d.tape port))
    (with_mouse d.mouse port
    (with_ay d.ay port
    (with_joystick d.joystick port))))

-- ---- what decides a write (specs/Hearers has its order)
-- "The extender's flag says that it claims this call's port"
abbrev pub claims : Device ℕ → Bool
claims Absent = false
claims (Present byte) = true

-- "on 128K"
abbrev pub has7ffd : ZXMachine → Bool
has7ffd Sinclair48K = false
has7ffd Sinclair128K = true
