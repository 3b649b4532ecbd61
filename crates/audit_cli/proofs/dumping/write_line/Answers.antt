use Rattle.std.proofs.Common.{◌∙◌}
use Rattle.ledger_io.proofs.RunLaws.{ends_by}
use Rattle.audit_cli.proofs.DumpLaws.{line_part}
use Rattle.audit_cli.proofs.dumping.write_line.Goals as goal

pub returns-in_err-write_all-clause-ended : goal.returns-in_err-write_all-clause-ended
returns-in_err-write_all-clause-ended g c =
    let w = c.in_err-write_all.ensures in
    ends_by _ c.from_residual-in_err-write_all.result _ c.from_residual-in_err-write_all.ensures.1
    (line_part _ _ _ _ c.in_err-write_all.field-0.0 (c.as_bytes.ensures.value ∙ c.in_ok-line.ensures) w.taken w.once)
