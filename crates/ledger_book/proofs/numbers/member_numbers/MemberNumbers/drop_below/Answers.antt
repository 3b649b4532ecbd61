use Rattle.std.specs.Prelude.{nat_le}
use Rattle.std.proofs.Common.{rules, ap, ◌∙◌}
use Rattle.std.proofs.lemmas.Map.Made.{filter_same_pairs}
use Rattle.ledger_book.specs.Numbered.{from_on, told_in}
use Rattle.ledger_book.proofs.MemberNumberLaws.{kept_told}
use Rattle.ledger_book.proofs.numbers.member_numbers.MemberNumbers.drop_below.Goals as goal

pub returns : goal.returns
returns c = λ number.
    ap (told_in number) (filter_same_pairs _ (λ e. nat_le c.args.p e.1) _ (λ k v b w f' called. search rules) _ _ c.retain.ensures.filtered)
    ∙ (kept_told c.args.p number c.self.inside.by.entries c.retain.ensures.was_ordered ∙ ap (λ es. from_on c.args.p (told_in number es)) c.self.view_is)
