-- What a run over a dump did, from the bytes that came in to the bytes that went out.
use Rattle.std.specs.Prelude.{◌≡◌, ◌⊎◌, ℕ, List, length, Option, Some, None}
use Rattle.std.specs.Io.KnownBytes.{Appends, Consumes, IsAtEnd}
use Rattle.sha2.specs.Sha256.{sha256}
use Rattle.ledger_bytes.specs.Fields.{IsBytes}
use Rattle.ledger_bytes.specs.declared.digest.Digest.{Digest}
use Rattle.ledger_io.specs.Endings.{last_line, status_of}
use Rattle.ledger_io.specs.Outside.{Outside, SinkState}
use Rattle.ledger_io.specs.Runs.{Output}
use Rattle.ledger_io.specs.Writing.{WritesLast}
use Rattle.ledger_io.specs.declared.ending.Ending.{Ending}
use Rattle.ledger_io.specs.declared.ending.Ending.TheVariants.{Done, Usage, ReadFault, WriteFault, NoMemory, LineTooLong, ScriptTooLong}
use Rattle.merkle_tree.specs.declared.head.Head.{Head}
use Rattle.tree_model.specs.Tree.{mth}
use Rattle.tree_model.specs.TreeClash.{ShowsOr}
use Rattle.ledger_model.specs.Lawful.{AreLawful}
use Rattle.ledger_model.specs.Scheme.{Scheme}
use Rattle.dump_model.specs.Checks.{HasLedgerHead}
use Rattle.dump_model.specs.Dumps.{Dump, IsDump, dump_text, leaves_of}
use Rattle.dump_model.specs.Truth.{IsTrueDump, dump_clash}
use Rattle.clue_lineage.specs.Runs.{KeepsClueRule}
use Rattle.audit_dump.specs.Audits.{IsAuditErr, TellsReport}
use Rattle.audit_dump.specs.Known.{journals_of}
use Rattle.audit_dump.specs.Reports.{Fault, Report}
use Rattle.audit_dump.specs.Told.{report_of}
use Rattle.audit_dump.specs.declared.auditing.AuditErr.{AuditErr}
use Rattle.audit_dump.specs.declared.auditing.AuditErr.TheVariants as errors
use Rattle.audit_dump.specs.declared.report.Report.{Report as ReportTold}
use Rattle.audit_cli.specs.ReportLines.{report_line}

-- ---- the line

-- how far a report's line was written, by the ending
pub record WritesLine (report : Report) (ending : Ending) (before after : SinkState) : Type 0 where
  pub written : List ℕ
  pub appended : Appends before.held after.held written
  pub output : Output (report_line report) ending written before after

-- the status where the line of a report was written whole: 10 where it has a fault
abbrev pub status_told : Option Fault → ℕ
status_told None = 0
status_told (Some fault) = 10

-- the status by the ending of writing the line
abbrev pub status_behind : Ending → Option Fault → ℕ
status_behind Done fault = status_told fault
status_behind Usage fault = status_of Usage
status_behind ReadFault fault = status_of ReadFault
status_behind WriteFault fault = status_of WriteFault
status_behind NoMemory fault = status_of NoMemory
status_behind LineTooLong fault = status_of LineTooLong
status_behind ScriptTooLong fault = status_of ScriptTooLong

-- A report's line was written, and the status is the report's. Where that failed it is the failure's, whose last line was written.
pub record TellsLine (report : Report) (status : ℕ) (before after : SinkState) : Type 0 where
  pub ending : Ending
  pub sink : SinkState
  pub writes : WritesLine report ending before sink
  pub last : WritesLast (last_line ending) sink after
  pub status_is : status ≡ status_behind ending report.fault

-- ---- the run

-- there is a report of the bytes that were read, and its line was told
pub record Reported (scheme : Scheme) (id : Digest) (ledger notary : Head) (status : ℕ) (before after : Outside) : Type 0 where
  pub report : ReportTold
  pub tells : TellsReport scheme (record { id = id; ledger = ledger; notary = notary }) before.source after.source report
  pub counts : after.source.faults ≡ before.source.faults
  pub told : TellsLine (report_of report) status before.sink after.sink

-- the ending that an error brings, in place of a report
abbrev pub ending_without : AuditErr → Ending
ending_without errors.ReadFault = ReadFault
ending_without errors.TooLong = ScriptTooLong
ending_without errors.NoMemory = NoMemory

-- there is no report, for one of the reasons for which there may be none, and only the last line was written
pub record Unreported (status : ℕ) (before after : Outside) : Type 0 where
  pub error : AuditErr
  pub why : IsAuditErr before.source after.source error
  pub last : WritesLast (last_line (ending_without error)) before.sink after.sink
  pub status_is : status ≡ status_of (ending_without error)

-- what a run over a dump did, to its exit status, against a ledger's id, its head and the head of its notary
abbrev pub RanDump : Scheme → Digest → Head → Head → ℕ → Outside → Outside → Type 0
RanDump scheme id ledger notary status before after = Reported scheme id ledger notary status before after ⊎ Unreported status before after

-- ---- what is so

-- The bytes are those of a dump with this head of the ledger, and it is true of all lists under these heads, or two different
-- strings with one digest are shown. Where no base stands in front, its journals are such as a ledger may have, and their
-- headers keep the rule of clues.
pub record IsTrueText (ledger notary : Head) (bytes : List ℕ) : Type 0 where
  pub dump : Dump
  pub dump_is : IsDump dump
  pub text : bytes ≡ dump_text dump
  pub head : HasLedgerHead sha256 dump ledger
  pub lawful : dump.base ≡ None → AreLawful (journals_of dump.items)
  pub rule : dump.base ≡ None → KeepsClueRule (leaves_of dump)
  pub holds : (headers entries : List (List ℕ)) → length headers ≡ ledger.size → mth sha256 headers ≡ ledger.root.0
      → length entries ≡ notary.size → mth sha256 entries ≡ notary.root.0
      → ShowsOr sha256 (IsTrueDump sha256 headers entries dump) (dump_clash sha256 headers entries dump)

-- a source was read to its end, and what it gave is a dump that is true
pub record SoundDump (ledger notary : Head) (before after : Outside) : Type 0 where
  pub bytes : List ℕ
  pub consumed : Consumes before.source.left after.source.left bytes
  pub at_end : IsAtEnd after.source.left
  pub sound : IsBytes bytes → IsTrueText ledger notary bytes
