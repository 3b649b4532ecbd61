use Rattle.std.proofs.Common.{sym, subst}
use Rattle.journal_record.specs.Items.{most_bytes}
use Rattle.audit_dump.specs.Audits.{Reports}
use Rattle.audit_dump.specs.Bytes.{IsReportBehind}
use Rattle.audit_dump.specs.Fronts.{front_of}
use Rattle.audit_dump.specs.Tails.{HasFailed}
use Rattle.audit_dump.specs.Told.{report_of}
use Rattle.audit_dump.specs.declared.report.Report.{Report}
use Rattle.audit_dump.proofs.Audited.{handed_on}
use Rattle.audit_dump.proofs.Walked.{report_all, report_broken, report_failed, walked_failed}
use Rattle.audit_dump.proofs.auditing.report_by.Goals as goal

pub returns-in_err-fault-in-All-clause-errors : goal.returns-in_err-fault-in-All-clause-errors
returns-in_err-fault-in-All-clause-errors g c =
    let state = g.S.Source.state in
    let read = c.in_ok-outcome.ensures.read in
    handed_on c.from_residual-in_err-fault-in-All.result c.in_err-fault-in-All.field-0.0
    (HasFailed most_bytes (state c.args.source.now) (state c.last_fault.new.source) c.args.window.now c.last_fault.new.window) c.from_residual-in_err-fault-in-All.ensures
    (walked_failed (state c.args.source.now) (state c.read_journals.new.source) (state c.last_fault.new.source) c.args.window.now c.read_journals.new.window c.last_fault.new.window read.walked.bytes c.in_err-fault-in-All.field-0.0 read.walked.read_bytes c.in_ok-outcome.ensures.counts c.in_err-fault-in-All.ensures.errors)

pub returns-in_ok-fault-in-All-clause-report : goal.returns-in_ok-fault-in-All-clause-report
returns-in_ok-fault-in-All-clause-report g c =
    let state = g.S.Source.state in
    let scheme = g.V.Verifier.shows c.args.verifier.now in
    let front = c.args.front.now in
    let read = rw c.in-All.is at c.in_ok-outcome.ensures.read in
    let counts = c.counts-counts.ensures.counts front.id front.base read.items read.counted in
    report_all scheme c.args.given.now front c.args.count (state c.args.source.now) (state c.read_journals.new.source) c.args.window.now c.read_journals.new.window c.read_journals.new.journals c.counts-counts.result
    (state c.last_fault.new.source) c.last_fault.new.window c.in_ok-fault-in-All.fault read counts (c.in_ok-fault-in-All.ensures.told front.id front.base read.items read.ends.1) c.in_ok-fault-in-All.ensures.ended

pub returns-in-Broken-clause-report : goal.returns-in-Broken-clause-report
returns-in-Broken-clause-report g c =
    let state = g.S.Source.state in
    let scheme = g.V.Verifier.shows c.args.verifier.now in
    let front = c.args.front.now in
    let read = rw c.in-Broken.is at c.in_ok-outcome.ensures.read in
    let counts = c.counts-counts.ensures.counts front.id front.base read.items read.counted in
    subst (λ (r : Report). Reports (λ l. IsReportBehind scheme c.args.given.now (front_of front) c.args.count l (report_of r)) (state c.args.source.now) (state c.read_journals.new.source) c.args.window.now c.read_journals.new.window r) (sym c.with_fault.ensures)
    (report_broken scheme c.args.given.now front c.args.count (state c.args.source.now) (state c.read_journals.new.source) c.args.window.now c.read_journals.new.window c.read_journals.new.journals c.counts-counts.result c.in-Broken.broken read counts)

pub returns-in-Failed-clause-report : goal.returns-in-Failed-clause-report
returns-in-Failed-clause-report g c =
    let state = g.S.Source.state in
    let scheme = g.V.Verifier.shows c.args.verifier.now in
    let front = c.args.front.now in
    let read = rw c.in-Failed.is at c.in_ok-outcome.ensures.read in
    let counts = c.counts-counts.ensures.counts front.id front.base read.items read.counted in
    subst (λ (r : Report). Reports (λ l. IsReportBehind scheme c.args.given.now (front_of front) c.args.count l (report_of r)) (state c.args.source.now) (state c.read_journals.new.source) c.args.window.now c.read_journals.new.window r) (sym c.with_fault-in-Failed.ensures)
    (report_failed scheme c.args.given.now front c.args.count (state c.args.source.now) (state c.read_journals.new.source) c.args.window.now c.read_journals.new.window c.read_journals.new.journals c.counts-counts.result c.in-Failed.check read counts)
