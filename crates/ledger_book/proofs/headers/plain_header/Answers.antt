use Rattle.ledger_book.proofs.HeaderLaws.{plain_is}
use Rattle.ledger_book.proofs.headers.plain_header.Goals as goal

pub returns : goal.returns
returns c = λ who is. plain_is c.args.kind c.version_of.result c.args.jsn c.args.a c.args.b c.args.link.now c.content_digest.result c.args.who_digest who c.version_of.ensures c.content_digest.ensures is
