use Rattle.audit_core.proofs.StayLaws.{stays_accepted}
use Rattle.audit_core.proofs.laws.accepted_proofs_stay_accepted.Goals as goal

pub returns : goal.returns
returns c = stays_accepted
