use Rattle.std.proofs.Common.{rules}
use Rattle.ledger_book.proofs.NumberedLaws.{unnumbered_added, put_added}
use Rattle.ledger_book.proofs.numbers.NumberIndex.add.Goals as goal

pub returns-then-not-is_numbered-clause-ok : goal.returns-then-not-is_numbered-clause-ok
returns-then-not-is_numbered-clause-ok c = λ first xs index at. unnumbered_added c.args.self.now first xs c.args.header.now (search rules) index

pub returns-clause-ok : goal.returns-clause-ok
returns-clause-ok c = put_added c.put.result c.args.self.now c.put.new.self c.args.jsn c.args.header.now (search rules) c.put.ensures.ok
