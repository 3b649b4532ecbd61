-- What an auditor reports of a dump: the first check that fails and where, and how much was read before.
use Rattle.std.specs.Prelude.{◌≡◌, ℕ, ◌+◌, ◌⊎◌, List, [], length, count_by, Option, Some, None}
use Rattle.journal_record.specs.Items.{Item}
use Rattle.member_book.specs.Erasures.{is_time}
use Rattle.pseudo_genesis.specs.declared.base.Base.{Base}
use Rattle.ledger_model.specs.Scheme.{Scheme}
use Rattle.dump_model.specs.Checks.{is_erased}
use Rattle.dump_model.specs.Dumps.{Dump, first_of}
use Rattle.audit_dump.specs.Ending.{Given, IsLateFault, Late, Passes, late_number}
use Rattle.audit_dump.specs.Reading.{AreGood, Early, IsFirstFailing}

-- a check of a dump
pub data Check : Type 0 where
  -- that its bytes are those of a dump
  form : Check
  -- of a journal as it is read
  early : Early → Check
  -- of all, once it was read
  late : Late → Check

-- the number by which a report names a check of a journal
abbrev pub early_number : Early → ℕ
early_number Early.of_order = 3
early_number Early.of_parts = 4
early_number Early.of_approvals = 5

-- the number by which a report names a check
abbrev pub number_of : Check → ℕ
number_of form = 1
number_of (early check) = early_number check
number_of (late check) = late_number check

-- a check that failed, and where
pub record Fault : Type 0 where
  pub check : Check
  pub place : ℕ

-- What is reported.
-- Example: of a dump of five journals behind a base at 2, of which one was erased and two are time journals, the report without a
-- fault has the size 7, kept 5, the point 2, occulted 1 and times 2.
pub record Report : Type 0 where
  -- how many journals there are, with those that the base stands for
  pub size : ℕ
  -- how many journals were read
  pub kept : ℕ
  -- the number of the first of them
  pub point : ℕ
  -- of how many the content was erased
  pub occulted : ℕ
  -- how many are time journals
  pub times : ℕ
  pub fault : Option Fault

-- the counts of a report over journals that were read behind a base
pub record Counts (start : Option Base) (read : List Item) (report : Report) : Type 0 where
  pub size : report.size ≡ first_of start + length read
  pub kept : report.kept ≡ length read
  pub point : report.point ≡ first_of start
  pub occulted : report.occulted ≡ count_by is_erased read
  pub times : report.times ≡ count_by (λ item. is_time item.header.kind) read

-- the fault of a check at a place
abbrev pub fault_at : Check → ℕ → Option Fault
fault_at check place = Some (record { check = check; place = place })

-- ---- the fault

-- The fault of a journal that fails a check, behind those that were read. It is named by the number that its place calls for.
-- Example: behind a base at 2 with three journals that pass, the fault of the next one is told at 5, whatever its header says.
abbrev pub IsEarlyFault : Option Base → List Item → Early → Option Fault → Type 0
IsEarlyFault start read check fault = fault ≡ fault_at (early check) (first_of start + length read)

-- the fault of this check at this place is told of a dump whose journals all pass: the check is the first at the end that fails
abbrev pub IsEndFaultBy : Given → Dump → ℕ → Check → Type 0
IsEndFaultBy given dump place form = ⊥
IsEndFaultBy given dump place (early check) = ⊥
IsEndFaultBy given dump place (late check) = IsLateFault given dump check place

-- what is told of a dump whose journals all pass; no fault exactly where all checks at the end are passed
abbrev pub IsEndFault : Given → Dump → Option Fault → Type 0
IsEndFault given dump None = (check : Late) → Passes given dump check
IsEndFault given dump (Some fault) = IsEndFaultBy given dump fault.place fault.check

-- these journals of a dump were read, and the next one fails a check
abbrev pub EndsEarly : Scheme → Dump → List Item → Option Fault → Type 0
EndsEarly scheme dump read fault =
    (check : Early) × IsFirstFailing scheme dump.id.0 dump.base dump.items read check × IsEarlyFault dump.base read check fault

-- all journals of a dump were read, and each passed
abbrev pub EndsLate : Scheme → Given → Dump → List Item → Option Fault → Type 0
EndsLate scheme given dump read fault =
    (read ≡ dump.items) × AreGood scheme dump.id.0 dump.base [] dump.items × IsEndFault given dump fault

-- The report of a dump, against what the auditor was given. A journal that fails isn't counted, and none behind it.
pub record IsReport (scheme : Scheme) (given : Given) (dump : Dump) (report : Report) : Type 0 where
  pub read : List Item
  pub counts : Counts dump.base read report
  pub fault : EndsEarly scheme dump read report.fault ⊎ EndsLate scheme given dump read report.fault
