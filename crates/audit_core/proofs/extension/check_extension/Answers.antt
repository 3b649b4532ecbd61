use Rattle.audit_core.proofs.ExtensionLaws.{extension_found, extension_only}
use Rattle.audit_core.proofs.extension.check_extension.Goals as goal

pub returns-clause-yes : goal.returns-clause-yes
returns-clause-yes g c = (
  λ ok. extension_found g.H.TreeHash.of c.args.which c.args.m c.args.head.now c.args.proof.now c.args.heads.now c.answer_of.result c.answer_of.ensures ok,
  λ it. extension_only g.H.TreeHash.of c.args.which c.args.m c.args.head.now c.args.proof.now c.args.heads.now c.answer_of.result c.answer_of.ensures it,
)
