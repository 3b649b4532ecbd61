use Rattle.proof_maker.proofs.WrittenLaws.{leads_on}
use Rattle.proof_maker.proofs.laws.earlier_heads_lead_on.Goals as goal

pub returns : goal.returns
returns c = leads_on
