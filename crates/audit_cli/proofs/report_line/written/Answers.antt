use Rattle.std.proofs.Common.{◌≡◌, ◌∙◌, ap, refl, Option, Some, None, false, ℕ}
use Rattle.std.specs.Prelude.{string_bytes}
use Rattle.std.proofs.lemmas.Result.{IfOk-weaker}
use Rattle.serde_json.specs.View.{view}
use Rattle.serde_json.specs.Written.{compact_text, has_float}
use Rattle.serde_json.proofs.OnLiterals.{serde_json_on_literals}
use Rattle.audit_dump.specs.Reports.{Fault, Report}
use Rattle.audit_dump.specs.Told.{report_of}
use Rattle.audit_cli.specs.ReportLines.{report_data, report_text}
use Rattle.audit_cli.proofs.report_line.written.Goals as goal

-- a report with this fault and these counts
abbrev counted : Option Fault → ℕ → ℕ → ℕ → ℕ → ℕ → Report
counted fault size kept point occulted times = record { size = size; kept = kept; point = point; occulted = occulted; times = times; fault = fault }

text_is : (fault : Option Fault) (size kept point occulted times : ℕ) → compact_text (report_data (counted fault size kept point occulted times)) ≡ report_text (counted fault size kept point occulted times)
unfolding serde_json_on_literals
text_is None size kept point occulted times = refl
text_is (Some fault) size kept point occulted times = refl

no_float : (fault : Option Fault) (size kept point occulted times : ℕ) → has_float (report_data (counted fault size kept point occulted times)) ≡ false
no_float None size kept point occulted times = refl
no_float (Some fault) size kept point occulted times = refl

pub returns : goal.returns
returns c =
    let report = report_of c.args.report.now in
    let is : view c.in_ok-value.value ≡ report_data report = c.in_ok-value.ensures in
    IfOk-weaker c.to_string.result _ (λ text. string_bytes text ≡ report_text report)
    (λ text h. h (ap has_float is ∙ no_float report.fault report.size report.kept report.point report.occulted report.times)
    ∙ ap compact_text is ∙ text_is report.fault report.size report.kept report.point report.occulted report.times)
    c.to_string.ensures.text
