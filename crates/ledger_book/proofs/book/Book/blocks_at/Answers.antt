use Rattle.std.proofs.Common.{ap, ◌-◌, ◌∙◌, length, nat_lt}
use Rattle.std.specs.Prelude.{count_by, filter}
use Rattle.ledger_book.specs.Books.{Kept}
use Rattle.ledger_book.proofs.TellLaws.{ends_counted}
use Rattle.ledger_book.proofs.book.Book.blocks_at.Goals as goal

pub returns : goal.returns
returns c =
    let above = c.count_above.ensures ∙ ap (count_by (λ end. nat_lt c.args.p end)) c.as_slice.ensures.value ∙ ends_counted c.args.p c.self.inside.ends.items in
    c.saturating_sub.ensures ∙ ap (λ n. c.self.inside.blocks - n) above ∙ ap (λ (k : Kept). k.blocks - length (filter (λ end. nat_lt c.args.p end) k.ends)) c.self.view_is
