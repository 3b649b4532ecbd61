use Rattle.std.proofs.Common.{[]}
use Rattle.ledger_model.specs.Anchors.{time_header}
use Rattle.ledger_book.proofs.headers.time_header.Goals as goal

pub returns : goal.returns
unfolding time_header
returns c = c.plain_header.ensures [] c.who_digest-who.ensures
