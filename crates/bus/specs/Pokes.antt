-- The calls of document 01 that take no time and change RAM or passed frames, as operations, so that a run of calls is a run of operations.
-- Assumes nothing.
use Rattle.std.specs.Prelude.{ℕ, ◌*◌, List, [], ◌∷◌}
use Rattle.machine.specs.declared.ZXMachine.{ZXMachine}
use Rattle.machine.specs.Limits.{page_length}
use Rattle.memory.specs.declared.Place.{Place}
use Rattle.memory.specs.declared.Place.TheVariants.{Rom, Ram}
use Rattle.memory.specs.Memory.{place_of}
use Rattle.bus.specs.Time.{Op, silent, store, unpass}
use Rattle.bus.specs.Turns.{Part}

-- "byte .. write": a store of one byte. "ROM writes vanish."
abbrev pub poking : Place → ℕ → List Op
poking (Rom at) value = []
poking (Ram at) value = silent (store at (value ∷ [])) ∷ []

abbrev pub byte_write : ZXMachine → ℕ → ℕ → Part
byte_write m addr value c = poking (place_of m c.paging addr) value

-- "page load (16,384 lent bytes into a RAM page)", and a screen file read into one (02, Q-2): one store, from the page's first byte on
abbrev pub page_load : ℕ → List ℕ → Part
page_load page bytes c = silent (store (page_length * page) bytes) ∷ []

-- "passed frames and their reset"
abbrev pub passed_reset : Part
passed_reset c = silent unpass ∷ []
