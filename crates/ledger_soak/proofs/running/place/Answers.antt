use Rattle.std.proofs.Common.{ap, sym, subst, ◌∙◌}
use Rattle.ledger_book.specs.Books.{Kept, Serves}
use Rattle.ledger_soak.specs.Lines.{member_line}
use Rattle.ledger_soak.proofs.RunLaws.{placed_so}
use Rattle.ledger_soak.proofs.running.place.Goals as goal

pub returns-in-Ok-clause-placed : goal.returns-in-Ok-clause-placed
returns-in-Ok-clause-placed c = λ h held.
    let taken = rw (c.in_ok-item.ensures.lane, c.in_ok-item.ensures.index) at c.in-Ok.ensures.ok in
    let serves = subst (λ (b : Kept). Serves b h) (sym c.book.ensures) held.keeps.serves in
    let line_is = c.in_ok-line.ensures ∙ ap (λ i. member_line i c.args.member) (c.id.ensures h serves.stands) in
    placed_so _ _ _ _ c.args.member h held c.in_ok-line.line line_is c.in_ok-item.item.job (c.in_ok-item.ensures.job h held.keeps) taken.0 (taken.1 c.in_ok-line.line)
