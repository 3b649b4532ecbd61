use Rattle.std.proofs.Common.{◌≡◌, ◌||◌, nat_le, sym, subst, ap, ◌∙◌}
use Rattle.std.proofs.lemmas.Bool.{le-leb, lt-leb}
use Rattle.ledger_model.specs.Judgements.{is_full}
use Rattle.ledger_book.specs.Books.{Kept, Serves}
use Rattle.ledger_book.specs.contracts.book.Book.{the_view}
use Rattle.ledger_book.proofs.JudgeLaws.{hard_full}
use Rattle.ledger_book.proofs.book.Book.full.Goals as goal

pub returns-then-saturating_sub-self : goal.returns-then-saturating_sub-self
returns-then-saturating_sub-self c = λ h.
    let i = c.self.inside in
    let n = c.saturating_sub.result in
    let most = le-leb i.limits.hard n c.if-saturating_sub-self.true in
    subst (λ (k : Kept). Serves k h → nat_le i.limits.hard n ≡ is_full k.limits.hard k.limits h) c.self.view_is
    (λ s. most ∙ (sym (ap (λ b. b || nat_le i.limits.size i.size) most) ∙ hard_full (the_view i) h n s c.saturating_sub.ensures))

pub returns-else-saturating_sub-self : goal.returns-else-saturating_sub-self
returns-else-saturating_sub-self c = λ h.
    let i = c.self.inside in
    let n = c.saturating_sub.result in
    let less = lt-leb i.limits.hard n c.if-saturating_sub-self.false in
    subst (λ (k : Kept). Serves k h → nat_le i.limits.size i.size ≡ is_full k.limits.hard k.limits h) c.self.view_is
    (λ s. sym (ap (λ b. b || nat_le i.limits.size i.size) less) ∙ hard_full (the_view i) h n s c.saturating_sub.ensures)
