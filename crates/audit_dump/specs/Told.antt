-- A report as a call gives it.
use Rattle.std.specs.Prelude.{option_map}
use Rattle.audit_dump.specs.Ending.{Late}
use Rattle.audit_dump.specs.Ending.Late.{of_id, of_erasures, of_purge, of_ledger, of_times, of_notary}
use Rattle.audit_dump.specs.Passing.{early_of}
use Rattle.audit_dump.specs.Reports.{Check, Fault, Report}
use Rattle.audit_dump.specs.Reports.Check.{form, early, late}
use Rattle.audit_dump.specs.declared.report.Check.{Check as CheckTold}
use Rattle.audit_dump.specs.declared.report.Check.TheVariants as told
use Rattle.audit_dump.specs.declared.report.Fault.{Fault as FaultTold}
use Rattle.audit_dump.specs.declared.report.LateCheck.{LateCheck}
use Rattle.audit_dump.specs.declared.report.LateCheck.TheVariants as checks
use Rattle.audit_dump.specs.declared.report.Report.{Report as ReportTold}

-- the check at the end that is told
abbrev pub late_of : LateCheck → Late
late_of checks.Id = of_id
late_of checks.Erasures = of_erasures
late_of checks.Purge = of_purge
late_of checks.Ledger = of_ledger
late_of checks.Times = of_times
late_of checks.Notary = of_notary

-- the check that is told
abbrev pub check_of : CheckTold → Check
check_of told.Form = form
check_of (told.Early check) = early (early_of check)
check_of (told.Late check) = late (late_of check)

-- the fault that is told
abbrev pub fault_of : FaultTold → Fault
fault_of fault = record { check = check_of fault.check; place = fault.place }

-- the report that is told
abbrev pub report_of : ReportTold → Report
report_of report =
    record {
      size = report.size;
      kept = report.kept;
      point = report.point;
      occulted = report.occulted;
      times = report.times;
      fault = option_map fault_of report.fault;
    }
