use Rattle.ledger_open.proofs.FoundingLaws.{founded_clean}
use Rattle.ledger_open.proofs.laws.a_new_file_is_clean.Goals as goal

pub returns : goal.returns
returns c genesis keys = founded_clean genesis keys.operator keys.regulator
