use Rattle.audit_core.proofs.Reaching.{claim_grows}
use Rattle.audit_core.proofs.laws.claims_stay_true.Goals as goal

pub returns : goal.returns
returns c hash claim proof lists holds = claim_grows hash proof lists claim holds
