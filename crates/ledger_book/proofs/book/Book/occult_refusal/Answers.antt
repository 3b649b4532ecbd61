use Rattle.std.specs.Result.{result_err}
use Rattle.std.proofs.Common.{[], ◌∷◌, sym, ap, ◌∙◌}
use Rattle.ledger_bytes.specs.Digests.{digest}
use Rattle.journal_record.specs.Members.{keys as keys_of}
use Rattle.member_book.specs.Approvals.{approvals_refusal}
use Rattle.member_book.specs.Erasures.{occult_row, first_refusal}
use Rattle.erase_rules.specs.Rows.{row_of_occult}
use Rattle.ledger_model.specs.History.{size, point}
use Rattle.ledger_model.specs.Judgements.{hard_fullness}
use Rattle.ledger_model.specs.Members.{members, keys}
use Rattle.ledger_model.specs.Targets.{hider, kind_at, leaf_at}
use Rattle.ledger_book.specs.Books.{Kept}
use Rattle.ledger_book.proofs.FactLaws.{row_told, judged_err, row_after, row_first}
use Rattle.ledger_book.proofs.MemberLaws.{known_keys}
use Rattle.ledger_book.proofs.book.Book.occult_refusal.Goals as goal

pub returns-in-Some-clause-refusal : goal.returns-in-Some-clause-refusal
returns-in-Some-clause-refusal c = λ h s.
    let a = c.args in
    row_first (hard_fullness a.self.now.limits h) (occult_row (size h) (point h) (kind_at h a.target) (hider h a.target) (digest (leaf_at h a.target)) (keys h) a.target a.leaf.now a.given.now)
    c.in-Some.refusal (sym c.in-Some.is ∙ c.hard_refusal.ensures.refusal h s)

pub returns-clause-refusal : goal.returns-clause-refusal
returns-clause-refusal c = λ h s.
    let a = c.args in
    let f = c.facts.result in
    let known = keys_of c.self.inside.members in
    let same = ap (λ (k : Kept). keys_of k.members) c.self.view_is ∙ known_keys a.self.now.floor a.self.now.members (members h) s.stands.members in
    c.err.ensures.value ∙ ap result_err c.judge_occult.ensures ∙ judged_err (first_refusal (row_of_occult f known a.leaf.now a.given.now))
    ∙ ap (λ ks. first_refusal (row_of_occult f ks a.leaf.now a.given.now)) same
    ∙ row_told h f a.target a.leaf.now (approvals_refusal (keys h) a.given.now (0 ∷ 1 ∷ []) ∷ []) (c.facts.ensures.facts h s)
    ∙ sym (row_after (hard_fullness a.self.now.limits h) (occult_row (size h) (point h) (kind_at h a.target) (hider h a.target) (digest (leaf_at h a.target)) (keys h) a.target a.leaf.now a.given.now)
    (sym c.in_default.is ∙ c.hard_refusal.ensures.refusal h s))
