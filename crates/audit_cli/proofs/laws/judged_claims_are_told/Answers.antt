use Rattle.std.proofs.Common.{◌+◌, length}
use Rattle.audit_cli.specs.Texts.{trusted_behind}
use Rattle.audit_cli.proofs.YesLaws.{judged_true, judged_false}
use Rattle.audit_cli.proofs.laws.judged_claims_are_told.Goals as goal

pub returns-clause-holds : goal.returns-clause-holds
returns-clause-holds c hash lines line id headers entries claim bytes read =
    judged_true hash (trusted_behind hash lines) (length lines + 1) line id headers entries claim bytes read

pub returns-clause-fails : goal.returns-clause-fails
returns-clause-fails c hash lines line id headers entries claim bytes read =
    judged_false hash (trusted_behind hash lines) (length lines + 1) line id headers entries claim bytes read
