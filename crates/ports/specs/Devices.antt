-- Document 01, "Lent memory", third paragraph: the 35 bytes of the device record, and the record that they stand for.
-- Assumes nothing.
use Rattle.std.specs.Prelude.{ℕ, List, Bool, cond, ◌&&◌, ◌||◌, get_or, take, eqb, ltb, leb}
use Rattle.ports.specs.declared.Device.{Device}
use Rattle.ports.specs.declared.Device.TheVariants.{Absent, Present}
use Rattle.ports.specs.declared.Devices.{Devices}

-- "35 bytes"
abbrev pub devices_length : ℕ
devices_length = 35

-- byte k of the record
abbrev pub device_byte : List ℕ → ℕ → ℕ
device_byte s k = get_or s k 0

-- "each device is either absent or present with its own bytes": a flag of 0 is an absent device, whose bytes go nowhere
abbrev pub device_of : {B : Type 0} → ℕ → B → Device B
device_of flag bytes = cond (eqb flag 0) Absent (Present bytes)

-- "three sets of eight key rows": row n of set k is byte 8 k + n
abbrev pub rows_of : List ℕ → List ℕ
rows_of s = take 24 s

-- "three sets of eight key rows; tape bit; then for extender, AY and joystick a present flag and a byte; then mouse flag, buttons, x, y"
unfoldable pub devices_of : List ℕ → Devices
devices_of s =
    record {
      rows = rows_of s;
      tape = device_byte s 24;
      extender = device_of (device_byte s 25) (device_byte s 26);
      ay = device_of (device_byte s 27) (device_byte s 28);
      joystick = device_of (device_byte s 29) (device_byte s 30);
      mouse = device_of (device_byte s 31) (record { buttons = device_byte s 32; x = device_byte s 33; y = device_byte s 34 });
    }

-- "Flags and tape bit are 0 or 1." Where this is false the call gets refusal 4, "a device flag or the tape bit is above 1".
abbrev pub flags_of : List ℕ → Bool
flags_of s =
    ltb (device_byte s 24) 2 && ltb (device_byte s 25) 2 && ltb (device_byte s 27) 2 && ltb (device_byte s 29) 2 && ltb (device_byte s 31) 2

-- "Bytes of an absent device are ignored.": byte k belongs to a device whose flag is 0
unfoldable pub ignored : List ℕ → ℕ → Bool
ignored s k =
    eqb k 26 && eqb (device_byte s 25) 0
    || eqb k 28 && eqb (device_byte s 27) 0
    || eqb k 30 && eqb (device_byte s 29) 0
    || leb 32 k && leb k 34 && eqb (device_byte s 31) 0
