use Rattle.std.proofs.Common.{◌≡◌, ℕ, List, [], length, take, drop, Option, Some, None, sym, ap, subst, ◌∙◌, rules}
use Rattle.std.specs.Prelude.{unwrap_or}
use Rattle.std.proofs.lemmas.Bool.{eqb-true}
use Rattle.std.proofs.lemmas.List.{nil_from_length}
use Rattle.journal_record.specs.Items.{Item, body_seen}
use Rattle.journal_record.specs.Members.{keys}
use Rattle.journal_record.specs.declared.header.Kind.TheVariants as kind
use Rattle.audit_dump.specs.Approvals.{IsPlacedBy}
use Rattle.audit_dump.specs.Known.{journal_of}
use Rattle.audit_dump.proofs.Passes.{first_keys_are, first_next}
use Rattle.audit_dump.proofs.passing.Standing.with_first.Goals as goal

pub returns : goal.returns
returns c scheme id =
    let item = c.args.journal.now in
    let view = c.journal.view_is in
    let own : c.journal.inside.header.kind ≡ kind.Genesis = search rules in
    let is : item.header.kind ≡ kind.Genesis = sym (ap (λ (x : Item). x.header.kind) view) ∙ own in
    let nobody : c.journal.inside.who.now ≡ [] = nil_from_length c.journal.inside.who.now (eqb-true (length c.journal.inside.who.now) 0 (sym c.is_empty.ensures ∙ c.if-not-is_empty.false)) in
    let who : item.who ≡ [] = sym (ap (λ (x : Item). x.who) view) ∙ nobody in
    let body : item.body ≡ Some c.in-Whole.content.now = sym (ap (λ (x : Item). x.body) view) ∙ ap body_seen c.in-Whole.is in
    let content : c.in-Whole.content.now ≡ (journal_of item).content = sym (ap (λ (b : Option (List ℕ)). unwrap_or b []) body) in (
      record {
        next = first_next item.header c.requires.rules is;
        whole = c.is_kept_whole.ensures.0 c.if-not-is_kept_whole.false;
        placed = subst (IsPlacedBy scheme id None [] item) (sym is) who;
      },
      record {
        book = c.in_ok-book.ensures.behind (journal_of item) (sym (ap (λ (x : Item). x.header) view));
        keys_are = ap keys c.in_ok-members.ensures
            ∙ first_keys_are (journal_of item) c.first_keys.result.0 c.first_keys.result.1 is (c.first_keys.ensures.0 ∙ ap (take 32) content) (c.first_keys.ensures.1 ∙ ap (drop 32) content);
      },
    )
