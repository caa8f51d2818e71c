-- What a record of a script asks for: oracle/README.md's table of letters, and the machine that it is played on.
-- Assumes nothing.
use Rattle.std.specs.Prelude.{ℕ, ◌%◌, List, cond, eqb}
use Rattle.machine.specs.declared.ZXMachine.{ZXMachine}
use Rattle.record.specs.Words.{byte_at}
use Rattle.record.specs.Record.{machine_of}
use Rattle.script.specs.declared.Op.{Op}
use Rattle.script.specs.declared.Op.TheVariants.{Start, Timed, Change, Ask}
use Rattle.script.specs.declared.Timed.TheVariants as timed
use Rattle.script.specs.declared.Change.TheVariants as change
use Rattle.script.specs.declared.Ask.TheVariants as ask
use Rattle.script.specs.declared.Helper.TheVariants as helper

-- a letter's operation, letter by letter: S; N M O I W; D P 7 Z L R; 8 T F G Q B V K C H; a to e, and any other
abbrev pub op_of : ℕ → Op
op_of n =
    cond (eqb n 83) Start (cond (eqb n 78) (Timed timed.WaitInternal) (cond (eqb n 77) (Timed timed.WaitMreq) (cond (eqb n 79) (Timed timed.WaitNoMreq)
    (cond (eqb n 73) (Timed timed.ReadIo) (cond (eqb n 87) (Timed timed.WriteIo)
    (cond (eqb n 68) (Change change.Device) (cond (eqb n 80) (Change change.WriteInternal) (cond (eqb n 55) (Change change.Write7ffd)
    (cond (eqb n 90) (Change change.ResetFrames) (cond (eqb n 76) (Change change.LoadPage) (cond (eqb n 82) (Change change.FillRom)
    (cond (eqb n 56) (Ask ask.Read7ffd) (cond (eqb n 84) (Ask ask.IntActive) (cond (eqb n 70) (Ask ask.FramesCount) (cond (eqb n 71) (Ask ask.ReadInternal)
    (cond (eqb n 81) (Ask ask.RamPage) (cond (eqb n 66) (Ask ask.Block) (cond (eqb n 86) (Ask ask.ShownPicture) (cond (eqb n 75) (Ask ask.StillPicture)
    (cond (eqb n 67) (Ask ask.Clock) (cond (eqb n 72) (Ask ask.Digests)
    (cond (eqb n 97) (Ask (ask.Helper helper.BitmapLineAddr)) (cond (eqb n 98) (Ask (ask.Helper helper.BitmapLineRel))
    (cond (eqb n 99) (Ask (ask.Helper helper.BitmapColRel)) (cond (eqb n 100) (Ask (ask.Helper helper.AttrRowRel)) (cond (eqb n 101) (Ask (ask.Helper helper.AttrColRel))
    (Ask (ask.Helper helper.ColorFromBits))))))))))))))))))))))))))))

-- a start names its machine; any other operation is played on that of the state record, which stands in its byte 5
abbrev pub machine_asked : Op → ℕ → List ℕ → ZXMachine
machine_asked Start z state = machine_of (z % 256)
machine_asked (Timed which) z state = machine_of (byte_at state 5)
machine_asked (Change which) z state = machine_of (byte_at state 5)
machine_asked (Ask which) z state = machine_of (byte_at state 5)
