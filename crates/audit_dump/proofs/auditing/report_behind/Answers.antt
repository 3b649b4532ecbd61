use Rattle.std.specs.Int.{w64}
use Rattle.ledger_bytes.specs.Fields.{number_at}
use Rattle.journal_record.specs.Items.{most_bytes}
use Rattle.audit_dump.specs.Audits.{Reports}
use Rattle.audit_dump.specs.Bytes.{IsReportBehind, IsReportOfCount}
use Rattle.audit_dump.specs.Fronts.{front_of}
use Rattle.audit_dump.specs.Tails.{HasFailed}
use Rattle.audit_dump.specs.Told.{report_of}
use Rattle.audit_dump.proofs.Audited.{broken_place, err_then, ok_then, reports_broken, reports_on}
use Rattle.audit_dump.proofs.Walked.{walked_failed}
use Rattle.audit_dump.proofs.auditing.report_behind.Goals as goal

pub returns-in-Ok-clause-report : goal.returns-in-Ok-clause-report
returns-in-Ok-clause-report g c =
    let state = g.S.Source.state in
    let scheme = g.V.Verifier.shows c.args.verifier.now in
    let given = c.args.given.now in
    let front = front_of c.args.front.now in
    let over = rw c.in-Ok.is at c.in_ok-count.ensures.over in
    ok_then c.report_journals.result
    (λ report. Reports (λ l. IsReportBehind scheme given front c.in-Ok.count l (report_of report)) (state c.read_count.new.source) (state c.report_journals.new.source) c.read_count.new.window c.report_journals.new.window report)
    (λ report. Reports (λ l. IsReportOfCount scheme given front (number_at w64 l) (report_of report)) (state c.args.source.now) (state c.report_journals.new.source) c.args.window.now c.report_journals.new.window report)
    (λ report holds. reports_on (number_at w64) (λ got. IsReportOfCount scheme given front got (report_of report)) c.in-Ok.count (state c.args.source.now) (state c.read_count.new.source) (state c.report_journals.new.source) c.args.window.now c.read_count.new.window c.report_journals.new.window over.0 report over.1 over.2 holds)
    c.report_journals.ensures.report

pub returns-in-Ok-clause-errors : goal.returns-in-Ok-clause-errors
returns-in-Ok-clause-errors g c =
    let state = g.S.Source.state in
    let over = c.in_ok-count.ensures.over in
    err_then c.report_journals.result
    (HasFailed most_bytes (state c.read_count.new.source) (state c.report_journals.new.source) c.read_count.new.window c.report_journals.new.window)
    (HasFailed most_bytes (state c.args.source.now) (state c.report_journals.new.source) c.args.window.now c.report_journals.new.window)
    (λ e holds. walked_failed (state c.args.source.now) (state c.read_count.new.source) (state c.report_journals.new.source) c.args.window.now c.read_count.new.window c.report_journals.new.window over.0 e over.1 c.in_ok-count.ensures.counts holds)
    c.report_journals.ensures.errors

pub returns-in-Err-clause-report : goal.returns-in-Err-clause-report
returns-in-Err-clause-report g c =
    let state = g.S.Source.state in
    let scheme = g.V.Verifier.shows c.args.verifier.now in
    let given = c.args.given.now in
    let front = front_of c.args.front.now in
    let over = rw c.in-Err.is at c.in_ok-count.ensures.over in
    let broken = c.in-Err.broken in
    let is = c.without_journals.ensures c.args.front.now.base c.first_of.ensures (broken_place (number_at w64) broken c.args.window.now c.read_count.new.window over.0 c.requires.within over.2) in
    reports_broken (number_at w64) (λ got. IsReportOfCount scheme given front got (report_of c.without_journals.result)) broken (state c.args.source.now) (state c.read_count.new.source) c.args.window.now c.read_count.new.window over.0 c.without_journals.result _ over.1 over.2 is is.fault
