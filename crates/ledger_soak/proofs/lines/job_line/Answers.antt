use Rattle.std.proofs.Common.{ap, sym, ◌∙◌}
use Rattle.ledger_soak.specs.Lines.{job_line}
use Rattle.ledger_soak.proofs.AuditLaws.{ok_and}
use Rattle.ledger_soak.proofs.LeafLaws.{purges_to}
use Rattle.ledger_soak.proofs.lines.job_line.Goals as goal

pub returns-in-Some : goal.returns-in-Some
unfolding job_line
returns-in-Some c =
    ok_and _ _
    (λ line told h serves.
    let at = purges_to h serves.stands.lawful c.in-Some.point (sym c.in-Some.is ∙ c.last_time_but_one.ensures h serves) in
    told h serves at.kept at.within ∙ at.line_is ∙ ap (λ t. job_line t h) (sym c.in-Purge.is))
    c.purge_line.result c.purge_line.ensures
