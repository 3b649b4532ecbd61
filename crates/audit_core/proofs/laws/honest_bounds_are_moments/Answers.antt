use Rattle.audit_core.proofs.Reaching.{moments_are}
use Rattle.audit_core.proofs.laws.honest_bounds_are_moments.Goals as goal

pub returns : goal.returns
returns c hash lists claim moments holds honest = moments_are hash lists claim moments holds honest
