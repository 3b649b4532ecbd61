use Rattle.audit_cli.proofs.ShownLaws.{told_clash}
use Rattle.audit_cli.proofs.laws.judged_clashes_are_clashes.Goals as goal

pub returns : goal.returns
returns c hash lines line id headers entries claim bytes told truth makes read says = told_clash hash lines line id headers entries claim bytes told truth makes read says
