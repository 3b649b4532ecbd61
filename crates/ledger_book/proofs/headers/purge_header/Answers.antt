use Rattle.journal_record.specs.Approval.{who_of}
use Rattle.ledger_model.specs.Appends.{purge_header}
use Rattle.ledger_book.proofs.headers.purge_header.Goals as goal

pub returns : goal.returns
unfolding purge_header
returns c = c.plain_header.ensures (who_of c.args.given.now) c.approvals_digest.ensures
