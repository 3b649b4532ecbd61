use Rattle.audit_cli.specs.Texts.{trusted_behind}
use Rattle.audit_cli.proofs.YesLaws.{check_has, check_true, check_bounded}
use Rattle.audit_cli.proofs.laws.checked_claims_are_true.Goals as goal

pub returns-clause-journal : goal.returns-clause-journal
returns-clause-journal c hash lines line claim bytes lists makes read says under =
    check_has hash makes (trusted_behind hash lines) line says claim bytes lists read under

pub returns-clause-unbounded : goal.returns-clause-unbounded
returns-clause-unbounded c hash lines line claim bytes lists makes read says lower upper under =
    check_true hash makes (trusted_behind hash lines) line says claim bytes lists read lower upper under

pub returns-clause-bounded : goal.returns-clause-bounded
returns-clause-bounded c hash lines line claim bytes proof lists makes read says shown reached =
    check_bounded hash makes (trusted_behind hash lines) line says claim bytes proof lists read shown reached
