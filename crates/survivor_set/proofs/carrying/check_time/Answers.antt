use Rattle.ledger_model.specs.History.{journals}
use Rattle.survivor_set.proofs.Checked.{tells_of}
use Rattle.survivor_set.proofs.Growth.{time_kind}
use Rattle.survivor_set.proofs.carrying.check_time.Goals as goal

pub returns-clause-judged : goal.returns-clause-judged
returns-clause-judged c = λ h s. tells_of c.check_kind.result _ _ (time_kind (journals h) c.args.point c.args.book.now.floor c.in-Some.header.now c.requires (c.in-Some.ensures.header h s)) c.check_kind.ensures.judged
