use Rattle.ledger_soak.proofs.SameLaws.{same_text}
use Rattle.ledger_soak.proofs.laws.soaks_without_stops_agree.Goals as goal

pub returns : goal.returns
returns c seed count text other a b = same_text seed count text other a b
