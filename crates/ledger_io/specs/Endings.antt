-- How a run over the lines of a source ends: its exit status and its last line.
use Rattle.std.specs.Prelude.{ℕ, List, [], codes}
use Rattle.ledger_io.specs.declared.failure.LineErr.{LineErr}
use Rattle.ledger_io.specs.declared.failure.LineErr.TheVariants as line_err
use Rattle.ledger_io.specs.declared.ending.Ending.{Ending}
use Rattle.ledger_io.specs.declared.ending.Ending.TheVariants.{Done, Usage, ReadFault, WriteFault, NoMemory, LineTooLong, ScriptTooLong}

-- the exit status of an ending: a number that a script can look at
abbrev pub status_of : Ending → ℕ
status_of Done = 0
status_of Usage = 1
status_of ReadFault = 2
status_of WriteFault = 3
status_of NoMemory = 6
status_of LineTooLong = 7
status_of ScriptTooLong = 7

-- the line that tells an ending; there is none where the run went well, or where its output can't be written
abbrev pub last_line : Ending → List ℕ
last_line Done = []
last_line Usage = codes "fail 1 usage\n"
last_line ReadFault = codes "fail 2 read\n"
last_line WriteFault = []
last_line NoMemory = codes "fail 6 memory\n"
last_line LineTooLong = codes "fail 7 line\n"
last_line ScriptTooLong = codes "fail 7 script\n"

-- the ending that an error of reading lines brings
abbrev pub ending_of : LineErr → Ending
ending_of line_err.ReadFault = ReadFault
ending_of line_err.LineTooLong = LineTooLong
ending_of line_err.ScriptTooLong = ScriptTooLong
ending_of line_err.NoMemory = NoMemory
