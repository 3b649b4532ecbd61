use Rattle.std.proofs.Common.{rules, ℕ, Option, subst}
use Rattle.ledger_book.specs.Numbered.{IsAdded}
use Rattle.ledger_book.proofs.NumberedLaws.{put_back}
use Rattle.ledger_book.proofs.numbers.NumberIndex.take_back.Goals as goal

pub returns-in-Some : goal.returns-in-Some
returns-in-Some c = λ first added.
    put_back c.put.result first c.args.self.now c.put.new.self c.args.header.now c.args.jsn c.in-Some.last (search rules) c.put.ensures.ok c.put.ensures.absent
    (subst (λ (o : Option ℕ). IsAdded c.args.header.now first c.args.jsn o c.args.self.now) c.in-Some.is added)
