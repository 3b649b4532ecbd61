use Rattle.ledger_open.proofs.OpenLaws.{pair_opens}
use Rattle.ledger_open.proofs.laws.a_standing_pair_opens.Goals as goal

pub returns : goal.returns
returns c a b h e p why = pair_opens a b h p e why
