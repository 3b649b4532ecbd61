use Rattle.ledger_model.proofs.WrittenLaws.{heads_kept_in}
use Rattle.ledger_model.proofs.laws.a_written_head_is_kept.Goals as goal

pub returns : goal.returns
returns c = heads_kept_in
