-- What an auditor reports of any bytes: they are read once from left to right, and each journal is checked as it is read.
use Rattle.std.specs.Prelude.{◌≡◌, ℕ, ◌-◌, ◌≤◌, nat_lt, Bool, true, false, List, [], ◌∷◌, length, Option, None, Result, Ok, Err}
use Rattle.std.specs.Int.{w64}
use Rattle.ledger_bytes.specs.Fields.{Unread, left_from, number_at}
use Rattle.ledger_bytes.specs.declared.failure.Bad.{Bad}
use Rattle.journal_record.specs.Items.{Item, item_at}
use Rattle.pseudo_genesis.specs.declared.base.Base.{Base}
use Rattle.ledger_model.specs.Scheme.{Scheme}
use Rattle.dump_model.specs.Dumps.{Dump}
use Rattle.audit_dump.specs.Breaks.{Front, Tail, front_at, place_behind, place_within, tail_at}
use Rattle.audit_dump.specs.Ending.{Given}
use Rattle.audit_dump.specs.Known.{journals_of}
use Rattle.audit_dump.specs.Reading.{AreGood, Early, FailsBy}
use Rattle.audit_dump.specs.Reports.{Counts, Fault, IsEarlyFault, IsEndFault, Report, fault_at}
use Rattle.audit_dump.specs.Reports.Check.{form}

-- the dump that was read in these parts
abbrev pub dump_of : Front → List Item → Tail → Dump
dump_of front items tail =
    record {
      id = front.id;
      base = front.base;
      items = items;
      head = tail.head;
      entries = tail.entries;
      notary_root = tail.notary_root;
    }

-- these journals are read one after the other, and then this is left
abbrev pub HaveBeenRead : Unread → List Item → Unread → Type 0
HaveBeenRead l [] after = after ≡ l
HaveBeenRead l (item ∷ items) after = (next : Unread) × (item_at l ≡ Ok (item, next)) × HaveBeenRead next items after

-- the fault where a further journal is to come: it breaks, or it fails a check
abbrev pub IsNextFault : Scheme → Front → List Item → Unread → Result (Item × Unread) Bad → Option Fault → Type 0
IsNextFault scheme front read after (Err bad) fault = fault ≡ fault_at form (place_behind (after.whole - length after.rest) bad)
IsNextFault scheme front read after (Ok item) fault =
    (check : Early) × FailsBy scheme front.id.0 front.base (journals_of read) item.0 check × IsEarlyFault front.base read check fault

-- the fault where all journals have been read: what stands behind them breaks, or the checks at the end are made
abbrev pub IsLastFault : Given → Front → List Item → Result Tail Bad → Option Fault → Type 0
IsLastFault given front read (Err bad) fault = fault ≡ fault_at form (place_within bad)
IsLastFault given front read (Ok tail) fault = IsEndFault given (dump_of front read tail) fault

-- the fault, by whether a further journal is to come
abbrev pub IsFaultBehind : Scheme → Given → Front → List Item → Unread → Option Fault → Bool → Type 0
IsFaultBehind scheme given front read after fault true = IsNextFault scheme front read after (item_at after) fault
IsFaultBehind scheme given front read after fault false = IsLastFault given front read (tail_at after) fault

-- The report of bytes of which the front was read, and that so many journals follow. Each journal that was read passes, and then the
-- reading ends with a fault or all of it is over.
pub record IsReportBehind (scheme : Scheme) (given : Given) (front : Front) (count : ℕ) (l : Unread) (report : Report) : Type 0 where
  pub read : List Item
  pub after : Unread
  pub have_been_read : HaveBeenRead l read after
  pub few : length read ≤ count
  pub passed : AreGood scheme front.id.0 front.base [] read
  pub counts : Counts front.base read report
  pub fault : IsFaultBehind scheme given front read after report.fault (nat_lt (length read) count)

-- the report of bytes that break in front of the journals, where this base was decoded
pub record IsBroken (start : Option Base) (bad : Bad) (report : Report) : Type 0 where
  pub counts : Counts start [] report
  pub fault : report.fault ≡ fault_at form (place_within bad)

-- the report by what was read of the number of the journals
abbrev pub IsReportOfCount : Scheme → Given → Front → Result (ℕ × Unread) Bad → Report → Type 0
IsReportOfCount scheme given front (Err bad) report = IsBroken front.base bad report
IsReportOfCount scheme given front (Ok count) report = IsReportBehind scheme given front count.0 count.1 report

-- the report by what was read of the front
abbrev pub IsReportOfFront : Scheme → Given → Result (Front × Unread) Bad → Report → Type 0
IsReportOfFront scheme given (Err bad) report = IsBroken None bad report
IsReportOfFront scheme given (Ok front) report = IsReportOfCount scheme given front.0 (number_at w64 front.1) report

-- The report of bytes, against what the auditor was given. A journal that fails a check is told before a later break, since each is
-- checked as it is read.
abbrev pub IsReportOf : Scheme → Given → List ℕ → Report → Type 0
IsReportOf scheme given bytes report = IsReportOfFront scheme given (front_at (left_from (length bytes) bytes)) report
