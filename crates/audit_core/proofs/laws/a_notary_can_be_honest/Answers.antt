use Rattle.audit_core.proofs.HonestLaws.{once_honest}
use Rattle.audit_core.proofs.laws.a_notary_can_be_honest.Goals as goal

pub returns : goal.returns
returns c hash id salt journal moment time other le few = once_honest hash id salt journal moment time other le few
