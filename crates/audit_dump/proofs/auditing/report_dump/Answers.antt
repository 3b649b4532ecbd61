use Rattle.std.proofs.Common.{None, refl}
use Rattle.journal_record.specs.Items.{most_bytes}
use Rattle.std.specs.Int.{w64}
use Rattle.ledger_bytes.specs.Fields.{number_at}
use Rattle.audit_dump.specs.Audits.{Reports}
use Rattle.audit_dump.specs.Breaks.{front_at}
use Rattle.audit_dump.specs.Bytes.{IsReportOfCount, IsReportOfFront}
use Rattle.audit_dump.specs.Fronts.{front_of}
use Rattle.audit_dump.specs.Tails.{HasFailed}
use Rattle.audit_dump.specs.Told.{report_of}
use Rattle.audit_dump.proofs.Audited.{broken_place, err_then, ok_then, reports_broken, reports_on}
use Rattle.audit_dump.proofs.Walked.{walked_failed}
use Rattle.audit_dump.proofs.auditing.report_dump.Goals as goal

pub returns-in-Ok-clause-report : goal.returns-in-Ok-clause-report
returns-in-Ok-clause-report g c =
    let state = g.S.Source.state in
    let scheme = g.V.Verifier.shows c.args.verifier.now in
    let given = c.args.given.now in
    let front = front_of c.in-Ok.front in
    let over = rw c.in-Ok.is at c.in_ok-front.ensures.over in
    ok_then c.report_behind.result
    (λ report. Reports (λ l. IsReportOfCount scheme given front (number_at w64 l) (report_of report)) (state c.read_front.new.source) (state c.report_behind.new.source) c.read_front.new.window c.report_behind.new.window report)
    (λ report. Reports (λ l. IsReportOfFront scheme given (front_at l) (report_of report)) (state c.args.source.now) (state c.report_behind.new.source) c.args.window.now c.report_behind.new.window report)
    (λ report holds. reports_on front_at (λ got. IsReportOfFront scheme given got (report_of report)) front (state c.args.source.now) (state c.read_front.new.source) (state c.report_behind.new.source) c.args.window.now c.read_front.new.window c.report_behind.new.window over.0 report over.1 over.2 holds)
    c.report_behind.ensures.report

pub returns-in-Ok-clause-errors : goal.returns-in-Ok-clause-errors
returns-in-Ok-clause-errors g c =
    let state = g.S.Source.state in
    let over = c.in_ok-front.ensures.over in
    err_then c.report_behind.result
    (HasFailed most_bytes (state c.read_front.new.source) (state c.report_behind.new.source) c.read_front.new.window c.report_behind.new.window)
    (HasFailed most_bytes (state c.args.source.now) (state c.report_behind.new.source) c.args.window.now c.report_behind.new.window)
    (λ e holds. walked_failed (state c.args.source.now) (state c.read_front.new.source) (state c.report_behind.new.source) c.args.window.now c.read_front.new.window c.report_behind.new.window over.0 e over.1 c.in_ok-front.ensures.counts holds)
    c.report_behind.ensures.errors

pub returns-in-Err-clause-report : goal.returns-in-Err-clause-report
returns-in-Err-clause-report g c =
    let state = g.S.Source.state in
    let scheme = g.V.Verifier.shows c.args.verifier.now in
    let given = c.args.given.now in
    let over = rw c.in-Err.is at c.in_ok-front.ensures.over in
    let broken = c.in-Err.broken in
    let is = c.without_journals.ensures None refl (broken_place front_at broken c.args.window.now c.read_front.new.window over.0 c.requires.within over.2) in
    reports_broken front_at (λ got. IsReportOfFront scheme given got (report_of c.without_journals.result)) broken (state c.args.source.now) (state c.read_front.new.source) c.args.window.now c.read_front.new.window over.0 c.without_journals.result _ over.1 over.2 is is.fault
