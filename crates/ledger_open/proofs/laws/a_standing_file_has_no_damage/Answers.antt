use Rattle.ledger_open.proofs.WholeLaws.{stands_undamaged}
use Rattle.ledger_open.proofs.laws.a_standing_file_has_no_damage.Goals as goal

pub returns : goal.returns
returns c = stands_undamaged
