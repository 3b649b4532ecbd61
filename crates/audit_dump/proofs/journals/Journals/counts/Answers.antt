use Rattle.audit_dump.proofs.Noted.{counted}
use Rattle.audit_dump.proofs.journals.Journals.counts.Goals as goal

pub returns-clause-counts : goal.returns-clause-counts
returns-clause-counts c id start items are =
    counted id start items c.args.self.now c.first-point.result c.count-kept.result c.erased.result c.count.result are c.first-point.ensures c.count-kept.ensures c.erased.ensures c.count.ensures
