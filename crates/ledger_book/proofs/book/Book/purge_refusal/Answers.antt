use Rattle.std.specs.Result.{result_err}
use Rattle.std.proofs.Common.{◌≡◌, Some, ◌<◌, sym, subst, ap, ◌∙◌}
use Rattle.ledger_bytes.specs.Digests.{digest}
use Rattle.ledger_bytes.specs.declared.refusal.Refusal.TheVariants.{Full}
use Rattle.journal_record.specs.Members.{keys as keys_of}
use Rattle.member_book.specs.Erasures.{purge_row, first_refusal}
use Rattle.erase_rules.specs.Rows.{row_of_purge}
use Rattle.ledger_model.specs.History.{size, point, root}
use Rattle.ledger_model.specs.Judgements.{life_fullness}
use Rattle.ledger_model.specs.Members.{members, keys}
use Rattle.ledger_model.specs.Needs.{purge_needs, HaveSame}
use Rattle.ledger_model.specs.Targets.{kind_at}
use Rattle.ledger_book.specs.Books.{Kept, Serves}
use Rattle.ledger_book.specs.contracts.book.Book.{the_view}
use Rattle.ledger_book.proofs.FactLaws.{judged_err, row_after, row_first}
use Rattle.ledger_book.proofs.MemberLaws.{known_keys}
use Rattle.ledger_book.proofs.PurgeLaws.{life_full, life_not, purge_told}
use Rattle.ledger_book.proofs.book.Book.purge_refusal.Goals as goal

pub returns-then-self-clause-refusal : goal.returns-then-self-clause-refusal
returns-then-self-clause-refusal c = λ h s.
    let a = c.args in
    let k = a.self.now in
    row_first (life_fullness k.limits h) (purge_row (size h) (point h) (kind_at h a.point) (digest (root h a.point)) (keys h) (purge_needs h a.point) a.point a.root.now a.given.now)
    _ (subst (λ (b : Kept). Some (Full c.saturating_sub-kept.result c.self.inside.size) ≡ life_fullness b.limits h) c.self.view_is
    (life_full (the_view c.self.inside) h c.saturating_sub-kept.result (subst (λ (b : Kept). Serves b h) (sym c.self.view_is) s) c.saturating_sub-kept.ensures c.if-self.true))

pub returns-clause-refusal : goal.returns-clause-refusal
returns-clause-refusal c = λ h s.
    let a = c.args in
    let f = c.purge_facts.result in
    let owners = c.as_slice.result.now in
    let known = keys_of c.self.inside.members in
    let same = ap (λ (k : Kept). keys_of k.members) c.self.view_is ∙ known_keys a.self.now.floor a.self.now.members (members h) s.stands.members in
    let room = subst (λ (b : Kept). b.size < b.limits.size) c.self.view_is c.if-self.false in
    c.err.ensures.value ∙ ap result_err c.judge_purge.ensures ∙ judged_err (first_refusal (row_of_purge f known a.root.now owners a.given.now))
    ∙ ap (λ ks. first_refusal (row_of_purge f ks a.root.now owners a.given.now)) same
    ∙ purge_told h f a.point a.root.now a.given.now (keys h) owners (c.purge_facts.ensures.facts h s) (λ le lt. subst (λ l. HaveSame l (purge_needs h a.point)) (sym c.as_slice.ensures.value) (c.in_ok-owners.ensures h s le lt))
    ∙ sym (row_after (life_fullness a.self.now.limits h) (purge_row (size h) (point h) (kind_at h a.point) (digest (root h a.point)) (keys h) (purge_needs h a.point) a.point a.root.now a.given.now) (life_not a.self.now h s room))
