use Rattle.std.proofs.Common.{◌≡◌, ◌++◌, sym, ap, subst, ◌∙◌}
use Rattle.std.proofs.lemmas.Bool.{false≢true}
use Rattle.journal_record.specs.Items.{Item}
use Rattle.journal_record.specs.Members.{keys}
use Rattle.journal_record.specs.declared.header.Header.{Header}
use Rattle.ledger_model.specs.Behind.{IsNextBehind}
use Rattle.ledger_book.specs.Reading.{StandsBehind}
use Rattle.audit_dump.specs.Known.{journal_of, keys_behind}
use Rattle.audit_dump.specs.Passing.{Passed, admitted_by}
use Rattle.audit_dump.specs.Deciding.{IsRootBelow}
use Rattle.audit_dump.proofs.Passes.{asked_of, has_room, keys_then, purge_within}
use Rattle.audit_dump.proofs.passing.Standing.check_next.Goals as goal

pub admit_by-requires : goal.admit_by-requires
admit_by-requires g c is =
    let s = c.requires.stands in
    let kept : StandsBehind c.self.inside.book s.start s.before = subst (λ (p : Passed). StandsBehind p.book s.start s.before) (sym c.self.view_is) s.stands.book in
    let are : keys c.self.inside.members ≡ keys_behind s.start s.before = subst (λ (p : Passed). keys p.members ≡ keys_behind s.start s.before) (sym c.self.view_is) s.stands.keys_are in
    let takes = rw c.if-not-branch.false at c.in_ok-takes_next.ensures in
    has_room c.self.inside.members s.start s.before c.journal.inside.header are (takes s.start s.before kept).0 is

pub returns : goal.returns
returns g c start before stands =
    let item = c.args.journal.now in
    let header : c.journal.inside.header ≡ item.header = ap (λ (x : Item). x.header) c.journal.view_is in
    let kept : StandsBehind c.self.inside.book start before = subst (λ (p : Passed). StandsBehind p.book start before) (sym c.self.view_is) stands.book in
    let are : keys c.self.inside.members ≡ keys_behind start before = subst (λ (p : Passed). keys p.members ≡ keys_behind start before) (sym c.self.view_is) stands.keys_are in
    let takes = rw c.if-not-branch.false at c.in_ok-takes_next.ensures in
    let next = takes start before kept in
    let own : IsNextBehind start before item.header = subst (IsNextBehind start before) header next.0 in
    let due = asked_of start before item c.journal.inside.header c.as_slice-owners.result.now c.in_ok-needed.needed.items c.root_asked-root.result header c.as_slice-owners.ensures.value (λ is. c.in_ok-needed.ensures is start before kept) (λ is. subst (λ (x : Header). IsRootBelow start before x.a c.root_asked-root.result) header (c.root_asked-root.ensures (ap (λ (x : Header). x.kind) header ∙ is) start before kept (purge_within start before c.journal.inside.header next.0 (ap (λ (x : Header). x.kind) header ∙ is)))) in
    let more : c.admit_by.new.members ≡ c.self.inside.members ++ admitted_by item.header = c.in_ok-admit_by.ensures ∙ ap (λ (x : Header). c.self.inside.members ++ admitted_by x) header in (
      record {
        next = own;
        whole = c.requires.ahead.whole.0 c.if-not-ahead.false;
        placed = (c.in_ok-is_placed.ensures start before are due).0 c.if-not-branch-2.false;
      },
      record { book = next.2 (journal_of item) (sym header); keys_are = keys_then start before (journal_of item) c.self.inside.members c.admit_by.new.members next.1 are more },
    )

pub returns-then-not-branch-2 : goal.returns-then-not-branch-2
returns-then-not-branch-2 g c start before stands =
    let item = c.args.journal.now in
    let header : c.journal.inside.header ≡ item.header = ap (λ (x : Item). x.header) c.journal.view_is in
    let kept : StandsBehind c.self.inside.book start before = subst (λ (p : Passed). StandsBehind p.book start before) (sym c.self.view_is) stands.book in
    let are : keys c.self.inside.members ≡ keys_behind start before = subst (λ (p : Passed). keys p.members ≡ keys_behind start before) (sym c.self.view_is) stands.keys_are in
    let takes = rw c.if-not-branch.false at c.in_ok-takes_next.ensures in
    let next = takes start before kept in
    let own : IsNextBehind start before item.header = subst (IsNextBehind start before) header next.0 in
    let due = asked_of start before item c.journal.inside.header c.as_slice-owners.result.now c.in_ok-needed.needed.items c.root_asked-root.result header c.as_slice-owners.ensures.value (λ is. c.in_ok-needed.ensures is start before kept) (λ is. subst (λ (x : Header). IsRootBelow start before x.a c.root_asked-root.result) header (c.root_asked-root.ensures (ap (λ (x : Header). x.kind) header ∙ is) start before kept (purge_within start before c.journal.inside.header next.0 (ap (λ (x : Header). x.kind) header ∙ is)))) in
    (own, c.requires.ahead.whole.0 c.if-not-ahead.false, λ placed. absurd (false≢true (sym c.if-not-branch-2.true ∙ (c.in_ok-is_placed.ensures start before are due).1 placed)))
