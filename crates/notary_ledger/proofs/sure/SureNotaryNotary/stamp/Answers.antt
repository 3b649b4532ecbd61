use Rattle.notary_ledger.proofs.SureLaws.{never, counts_none}
use Rattle.notary_ledger.proofs.sure.SureNotaryNotary.stamp.Goals as goal

pub returns-clause-faults : goal.returns-clause-faults
returns-clause-faults c = counts_none c.stamp.result (c.stamp.ensures.untold (never _ _ c.self.invariant))
