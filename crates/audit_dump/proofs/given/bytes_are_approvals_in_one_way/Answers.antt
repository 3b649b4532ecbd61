use Rattle.audit_dump.proofs.SaidLaws.{one_way}
use Rattle.audit_dump.proofs.given.bytes_are_approvals_in_one_way.Goals as goal

pub returns : goal.returns
returns c scheme message who given other are also = one_way scheme message who given other are also
