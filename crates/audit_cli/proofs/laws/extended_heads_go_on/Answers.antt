use Rattle.audit_cli.specs.Texts.{trusted_behind}
use Rattle.audit_cli.proofs.YesLaws.{extend_true}
use Rattle.audit_cli.proofs.laws.extended_heads_go_on.Goals as goal

pub returns : goal.returns
returns c hash lines line which m head bytes list makes read says size_is root_is =
    extend_true hash makes (trusted_behind hash lines) line says which m head bytes list read size_is root_is
