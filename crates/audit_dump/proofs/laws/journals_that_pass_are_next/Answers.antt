use Rattle.std.proofs.Common.{[]}
use Rattle.audit_dump.proofs.Goods.{goods}
use Rattle.audit_dump.proofs.laws.journals_that_pass_are_next.Goals as goal

pub returns : goal.returns
returns c scheme id start items good = goods scheme id start [] items good
