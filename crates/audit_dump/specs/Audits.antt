-- What an auditor tells of an input: the report of it, and why there is none.
use Rattle.std.specs.Prelude.{◌≡◌, ℕ, ◌+◌, ◌≤◌, true, List, [], ◌++◌, length, Option, Some, None}
use Rattle.std.specs.Io.KnownBytes.{Consumes, IsAtEnd}
use Rattle.std.specs.Option.{option_map}
use Rattle.ledger_bytes.specs.Causes.{count_after}
use Rattle.ledger_bytes.specs.Fields.{Unread}
use Rattle.ledger_bytes.specs.declared.digest.Digest.{Digest}
use Rattle.ledger_io.specs.Lines.{script_limit}
use Rattle.ledger_io.specs.Outside.{SourceState}
use Rattle.ledger_io.specs.Windows.{Seen}
use Rattle.journal_record.specs.Items.{Item}
use Rattle.merkle_tree.specs.declared.head.Head.{Head}
use Rattle.pseudo_genesis.specs.declared.base.Base.{Base}
use Rattle.ledger_model.specs.Behind.{first_of}
use Rattle.ledger_model.specs.Scheme.{Scheme}
use Rattle.dump_model.specs.Dumps.{Dump}
use Rattle.audit_dump.specs.Breaks.{Tail, tail_at}
use Rattle.audit_dump.specs.Bytes.{IsLastFault, IsReportOf, dump_of}
use Rattle.audit_dump.specs.Ending.{Given}
use Rattle.audit_dump.specs.Fronts.{HasReadOn, unread}
use Rattle.audit_dump.specs.Known.{journals_of, root_behind}
use Rattle.audit_dump.specs.Told.{fault_of, report_of}
use Rattle.audit_dump.specs.Walking.{MayFollow}
use Rattle.audit_dump.specs.declared.auditing.AuditErr.{AuditErr}
use Rattle.audit_dump.specs.declared.auditing.AuditErr.TheVariants as errors
use Rattle.audit_dump.specs.declared.report.Fault.{Fault}
use Rattle.audit_dump.specs.declared.report.Report.{Report}

-- ---- the end

-- the dump that has this id and base, these journals, and this behind them
abbrev pub dump_behind : Digest → Option Base → List Item → Tail → Dump
dump_behind id start items tail = dump_of (record { id = id; base = start }) items tail

-- the size and the root of all journals, where there is a base or a journal
abbrev pub IsHeadShown : Option Base → List Item → Option Head → Type 0
IsHeadShown start items None = (start ≡ None) × (items ≡ [])
IsHeadShown start items (Some head) =
    let size : ℕ = first_of start + length items in
    (head.size ≡ size) × (head.root.0 ≡ root_behind start (journals_of items) size)

-- ---- reading

-- What is told is so of the input, whatever bytes may follow those that were read. No window holds more than was read.
pub record TellsOf (Tells : Unread → Type 0) (before after : SourceState) (old new : Seen) : Type 0 where
  pub bytes : List ℕ
  pub read_bytes : HasReadOn before after old new bytes
  pub over : length old.held ≤ old.total → (further : List ℕ) → MayFollow new further → Tells (unread old (bytes ++ further))

-- the fault where all journals were read: that of what stands behind them
abbrev pub IsLastFaultAt : Given → Digest → Option Base → List Item → Option Fault → Unread → Type 0
IsLastFaultAt given id start items fault l = IsLastFault given (record { id = id; base = start }) items (tail_at l) (option_map fault_of fault)

-- a report of what is still to be read, and where it has no fault all was read
pub record Reports (IsReportAt : Unread → Type 0) (before after : SourceState) (old new : Seen) (report : Report) : Type 0 where
  pub tells : TellsOf IsReportAt before after old new
  pub ended : report.fault ≡ None → new.ended ≡ true

-- ---- an audit

-- The report is that of the bytes that were read, whatever may follow them: nothing, where the source has ended. Where it has no fault,
-- the source has ended.
-- Example: of an input whose third journal fails a check, what follows that journal isn't read, and makes no difference.
pub record TellsReport (scheme : Scheme) (given : Given) (before after : SourceState) (report : Report) : Type 0 where
  pub bytes : List ℕ
  pub consumed : Consumes before.left after.left bytes
  pub end : report.fault ≡ None → IsAtEnd after.left
  pub over : (further : List ℕ) → (IsAtEnd after.left → further ≡ []) → IsReportOf scheme given (bytes ++ further) (report_of report)

-- Why there is no report: a read failed, as many bytes were read as may be and more were wanted, or memory was wanted.
abbrev pub IsAuditErr : SourceState → SourceState → AuditErr → Type 0
IsAuditErr before after errors.ReadFault = after.faults ≡ count_after before.faults
IsAuditErr before after errors.TooLong =
    (after.faults ≡ before.faults) × ((bytes : List ℕ) × Consumes before.left after.left bytes × (length bytes ≡ script_limit))
IsAuditErr before after errors.NoMemory = after.faults ≡ before.faults
