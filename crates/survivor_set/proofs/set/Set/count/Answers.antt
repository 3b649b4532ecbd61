use Rattle.std.proofs.Common.{subst}
use Rattle.survivor_set.specs.Sets.{IsSet}
use Rattle.survivor_set.proofs.set.Set.count.Goals as goal

pub returns-clause-rules : goal.returns-clause-rules
returns-clause-rules c = subst IsSet c.self.view_is c.self.invariant.4
