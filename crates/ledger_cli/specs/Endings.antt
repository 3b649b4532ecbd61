-- How a run of the program ends: its exit status and its last line.
use Rattle.std.specs.Prelude.{⊤, ℕ, List, [], ◌∷◌, ◌++◌, codes, decimal, Option, Some, None, Result, Ok, Err}
use Rattle.batch_committer.specs.declared.failure.CommitErr.{CommitErr}
use Rattle.batch_committer.specs.declared.failure.CommitErr.TheVariants as end
use Rattle.block_file.specs.declared.failure.Damage.{Damage}
use Rattle.block_file.specs.declared.failure.Damage.TheVariants as damage
use Rattle.dump_export.specs.declared.failure.DumpErr.{DumpErr}
use Rattle.dump_export.specs.declared.failure.DumpErr.TheVariants as dumps
use Rattle.ledger_bytes.specs.declared.failure.Bad.{Bad}
use Rattle.ledger_bytes.specs.declared.failure.Bad.TheVariants as bad_bytes
use Rattle.ledger_bytes.specs.declared.refusal.Refusal.{Refusal}
use Rattle.ledger_io.specs.Endings as run
use Rattle.ledger_io.specs.declared.ending.Ending.TheVariants as ending
use Rattle.ledger_open.specs.declared.failure.OpenErr.{OpenErr}
use Rattle.ledger_open.specs.declared.failure.OpenErr.TheVariants as open_err
use Rattle.script_lines.specs.Replies.{refusal_words}
use Rattle.script_lines.specs.Words.{hex_of, spaced_words}
use Rattle.ledger_cli.specs.declared.ending.LedgerEnding.{LedgerEnding}
use Rattle.ledger_cli.specs.declared.ending.LedgerEnding.TheVariants.{Run, DiskFault, Damaged, Empty, Exists, NewerFormat, NotaryFault, Refused}
use Rattle.ledger_cli.specs.declared.denial.Denial.{Denial}
use Rattle.ledger_cli.specs.declared.denial.Denial.TheVariants.{NoLineage, Said, NoSet, NotBelow, OtherLedger, LeafPath}
use Rattle.survivor_set.specs.declared.failure.SetErr.{SetErr}
use Rattle.survivor_set.specs.declared.failure.SetErr.TheVariants as set_err

-- the exit status of an ending: a number that a script can look at
abbrev pub status_of : LedgerEnding → ℕ
status_of (Run ending) = run.status_of ending
status_of DiskFault = 4
status_of (Damaged damage) = 5
status_of Empty = 8
status_of Exists = 8
status_of (NewerFormat found) = 9
status_of NotaryFault = 11
status_of (Refused why) = 12

-- a line of words, each behind a space, behind what stands in front
abbrev pub line_of : List ℕ → List (List ℕ) → List ℕ
line_of front words = front ++ (spaced_words words ++ 10 ∷ [])

-- the line that tells a damage: where it is, and what was kept and found
abbrev pub damage_line : Damage → List ℕ
damage_line damage.Magic = line_of (codes "fail 5 magic") []
damage_line (damage.BaseForm at) = line_of (codes "fail 5 baseform") (decimal at ∷ [])
damage_line (damage.Base kept found) = line_of (codes "fail 5 base") (hex_of kept ∷ hex_of found ∷ [])
damage_line (damage.Length at kept found) = line_of (codes "fail 5 length") (decimal at ∷ decimal kept ∷ decimal found ∷ [])
damage_line (damage.Entry jsn) = line_of (codes "fail 5 entry") (decimal jsn ∷ [])
damage_line (damage.Root block kept found) = line_of (codes "fail 5 root") (decimal block ∷ hex_of kept ∷ hex_of found ∷ [])
damage_line (damage.Content jsn kept found) = line_of (codes "fail 5 content") (decimal jsn ∷ hex_of kept ∷ hex_of found ∷ [])

-- the line that tells that something is refused, by its code and its fields
abbrev pub no_line : List (List ℕ) → List ℕ
no_line words = line_of (codes "no") words

-- the line of a refusal with a code that lines of a script have too
abbrev pub said_line : Refusal → List ℕ
said_line refusal = no_line (refusal_words refusal)

-- the line that tells why bytes spell nothing: the place, or what was found
abbrev pub bad_line : Bad → List ℕ
bad_line (bad_bytes.Short at) = no_line (decimal 1 ∷ decimal at ∷ [])
bad_line (bad_bytes.Trailing at) = no_line (decimal 2 ∷ decimal at ∷ [])
bad_line (bad_bytes.BadKind found) = no_line (decimal 8 ∷ decimal found ∷ [])
bad_line (bad_bytes.BadFixedField at) = no_line (decimal 9 ∷ decimal at ∷ [])
bad_line (bad_bytes.NewerFormat found) = no_line (decimal 31 ∷ decimal found ∷ [])
bad_line bad_bytes.TooLong = no_line (decimal 32 ∷ [])

-- the line that tells why a command is refused
abbrev pub denial_line : Denial → List ℕ
denial_line NoLineage = no_line (decimal 53 ∷ [])
denial_line (Said refusal) = said_line refusal
denial_line (NoSet bad) = bad_line bad
denial_line (NotBelow point) = no_line (decimal 51 ∷ decimal point ∷ [])
denial_line (OtherLedger kept) = no_line (decimal 52 ∷ hex_of kept ∷ [])
denial_line LeafPath = no_line (decimal 35 ∷ [])

-- the line that tells an ending; there is none where the run went well, or where its output can't be written
abbrev pub last_line : LedgerEnding → List ℕ
last_line (Run ending) = run.last_line ending
last_line DiskFault = codes "fail 4 disk\n"
last_line (Damaged damage) = damage_line damage
last_line Empty = codes "fail 8 empty\n"
last_line Exists = codes "fail 8 exists\n"
last_line (NewerFormat found) = line_of (codes "fail 9 format") (decimal found ∷ [])
last_line NotaryFault = codes "fail 11 notary\n"
last_line (Refused why) = denial_line why

-- the ending that an error of making or opening a ledger brings
abbrev pub ending_of_opening : OpenErr → LedgerEnding
ending_of_opening open_err.DiskFault = DiskFault
ending_of_opening (open_err.Damaged damage) = Damaged damage
ending_of_opening open_err.Empty = Empty
ending_of_opening open_err.Exists = Exists
ending_of_opening (open_err.NewerFormat found) = NewerFormat found
ending_of_opening open_err.NoMemory = Run ending.NoMemory

-- the ending that an end of a committer brings
abbrev pub ending_of_end : CommitErr → LedgerEnding
ending_of_end end.DiskFault = DiskFault
ending_of_end end.WriteFault = Run ending.WriteFault
ending_of_end end.NoMemory = Run ending.NoMemory
ending_of_end end.Closed = Run ending.NoMemory

-- the ending that an error of making, carrying on or reviving a set of survivors brings
abbrev pub ending_of_set : SetErr → LedgerEnding
ending_of_set (set_err.Refused refusal) = Refused (Said refusal)
ending_of_set (set_err.Bad bad) = Refused (NoSet bad)
ending_of_set (set_err.NotBelow point) = Refused (NotBelow point)
ending_of_set (set_err.OtherLedger kept) = Refused (OtherLedger kept)
ending_of_set set_err.LeafPath = Refused LeafPath
ending_of_set set_err.DiskFault = DiskFault
ending_of_set set_err.NoMemory = Run ending.NoMemory

-- the ending that the writing of a dump brings
abbrev pub ending_of_export : Result (Unit {0}) DumpErr → LedgerEnding
ending_of_export (Ok end) = Run ending.Done
ending_of_export (Err dumps.DiskFault) = DiskFault
ending_of_export (Err dumps.NotaryFault) = NotaryFault
ending_of_export (Err dumps.WriteFault) = Run ending.WriteFault
ending_of_export (Err (dumps.Damaged damage)) = Damaged damage
ending_of_export (Err dumps.NoMemory) = Run ending.NoMemory

-- an ending's last line is made of words, for which memory is taken
abbrev pub HasWords : LedgerEnding → Type 0
HasWords (Run ending) = ⊥
HasWords DiskFault = ⊥
HasWords (Damaged damage) = ⊤
HasWords Empty = ⊥
HasWords Exists = ⊥
HasWords (NewerFormat found) = ⊤
HasWords NotaryFault = ⊥
HasWords (Refused why) = ⊤

-- the error for which a ledger wasn't opened, where the ending tells one
abbrev pub refusal_of : LedgerEnding → Option OpenErr
refusal_of (Run ending) = None
refusal_of DiskFault = None
refusal_of (Damaged damage) = Some (open_err.Damaged damage)
refusal_of Empty = Some open_err.Empty
refusal_of Exists = Some open_err.Exists
refusal_of (NewerFormat found) = Some (open_err.NewerFormat found)
refusal_of NotaryFault = None
refusal_of (Refused why) = None
