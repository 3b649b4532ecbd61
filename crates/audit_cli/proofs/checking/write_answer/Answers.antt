use Rattle.std.proofs.Common.{◌∙◌}
use Rattle.ledger_io.proofs.RunLaws.{ends_by}
use Rattle.audit_cli.proofs.CheckLaws.{answer_part}
use Rattle.audit_cli.proofs.checking.write_answer.Goals as goal

pub returns-in_err-write_all-clause-ended : goal.returns-in_err-write_all-clause-ended
returns-in_err-write_all-clause-ended g c =
    let w = c.in_err-write_all.ensures in
    ends_by _ c.from_residual-in_err-write_all.result _ c.from_residual-in_err-write_all.ensures.1
    (answer_part _ _ _ _ c.in_err-write_all.field-0.0 (c.as_slice.ensures ∙ c.in_ok-line.ensures) w.taken w.once)
