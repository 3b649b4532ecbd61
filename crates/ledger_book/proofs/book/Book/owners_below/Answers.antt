use Rattle.std.proofs.Common.{subst, ap, ◌∙◌, arith}
use Rattle.ledger_model.specs.Needs.{HaveSame}
use Rattle.ledger_book.specs.Purges.{owners_in}
use Rattle.ledger_book.proofs.PurgeLaws.{if_ok_then, owners_told}
use Rattle.ledger_book.proofs.StandsLaws.{point_is}
use Rattle.ledger_book.proofs.book.Book.owners_below.Goals as goal

pub returns : goal.returns
returns c = if_ok_then c.owners_of.result c.owners_of.ensures (λ owners same h s le lt.
    let k = c.args.self.now in
    let taken = c.headers_taken.ensures s.seen (omega (arith, le, point_is k h s)) (omega (arith, lt, s.stands.counts.size)) in
    subst (HaveSame owners.items) (ap owners_in taken ∙ owners_told k h c.args.n s le) same)
