use Rattle.journal_record.proofs.ItemLaws.{item_back}
use Rattle.journal_record.proofs.Near.{item_near}
use Rattle.journal_record.proofs.record.is_inverse_of_dumping.Goals as goal

pub returns-clause-back : goal.returns-clause-back
returns-clause-back c = item_back

pub returns-clause-near : goal.returns-clause-near
returns-clause-near c = item_near
