-- Document 02, Q-4: what an import hands back and writes, and the file that an export writes.
-- Assumes nothing.
use Rattle.std.specs.Prelude.{ℕ, ◌+◌, List, [], ◌∷◌, ◌++◌, take, drop}
use Rattle.machine.specs.declared.ZXMachine.{ZXMachine}
use Rattle.machine.specs.declared.ZXMachine.TheVariants.{Sinclair48K, Sinclair128K}
use Rattle.record.specs.declared.Bus.{Bus}
use Rattle.record.specs.Words.{byte_at}
use Rattle.record.specs.Record.{fresh_record}
use Rattle.memory.specs.Memory.{ram_page}
use Rattle.snapshot.specs.File.{header_length, border_at, pc_at, trdos_at, first_banks, remaining_banks, paging_in, border_in, laid}

-- "hands back the header for the Z80 and, for 128K, PC and the TR-DOS byte": 30 bytes for both machines, "the 27 of the header as they stand in the file,
-- then PC (16 bits) and the TR-DOS byte, which are 0 on 48K"
abbrev pub registers_length : ℕ
registers_length = header_length + 3

abbrev pub last_three : ZXMachine → List ℕ → List ℕ
last_three Sinclair48K file = 0 ∷ 0 ∷ 0 ∷ []
last_three Sinclair128K file = byte_at file pc_at ∷ byte_at file (pc_at + 1) ∷ byte_at file trdos_at ∷ []

-- what a file keeps of the last three that are lent to an export: all of them on 128K, "ignored when writing" on 48K, where they are read as 0
abbrev pub kept_three : ZXMachine → List ℕ → List ℕ
kept_three Sinclair48K registers = 0 ∷ 0 ∷ 0 ∷ []
kept_three Sinclair128K registers = drop header_length registers

unfoldable pub registers_in : ZXMachine → List ℕ → List ℕ
registers_in m file = take header_length file ++ last_three m file

-- "a fresh record with border, paging and lock": "Border and beam colour both take the low three bits of byte 26"
abbrev pub snapshot_record : ZXMachine → List ℕ → Bus
snapshot_record m file = fresh_record m (paging_in m file) (border_in file) (border_in file)

-- "from a lent header, PC and TR-DOS byte, with the reported border in byte 26"
abbrev pub header_of : List ℕ → ℕ → List ℕ
header_of registers border = take border_at registers ++ (border ∷ [])

-- "then PC, the 7FFD byte, a TR-DOS byte"; none of it on 48K
abbrev pub between : ZXMachine → List ℕ → ℕ → List ℕ
between Sinclair48K registers byte = []
between Sinclair128K registers byte = byte_at registers header_length ∷ byte_at registers (header_length + 1) ∷ byte ∷ byte_at registers (header_length + 2) ∷ []

-- THE FILE of a machine with this 7FFD byte, reported border, RAM and registers
unfoldable pub snapshot_file : ZXMachine → ℕ → ℕ → List ℕ → List ℕ → List ℕ
snapshot_file m byte border ram registers =
    header_of registers border
    ++ laid (λ bank. ram_page bank ram) (first_banks m byte)
    ++ between m registers byte
    ++ laid (λ bank. ram_page bank ram) (remaining_banks m byte)
