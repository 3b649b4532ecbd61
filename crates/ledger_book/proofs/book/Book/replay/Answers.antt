use Rattle.std.proofs.Common.{◌≡◌, false, inl, inr, rules}
use Rattle.journal_record.specs.declared.header.Kind.TheVariants as kind
use Rattle.ledger_model.specs.Members.{is_member}
use Rattle.ledger_book.proofs.ReplayLaws.{kind_cases}
use Rattle.ledger_book.proofs.book.Book.replay.Goals as goal

pub returns-in_ok-place_member-clause-ok : goal.returns-in_ok-place_member-clause-ok
returns-in_ok-place_member-clause-ok c =
    let member : c.args.header.now.kind ≡ kind.Member = search rules in
    record {
      stands = λ h j s next is. c.in_ok-place_member.ensures.ok h j s is member next;
      next = λ h s. (c.in_ok-is_next.ensures.next h s).0 c.if-not-branch.false;
      stands_behind = λ start es j s is. c.in_ok-place_member.ensures.behind start es j s is member ((c.in_ok-is_next.ensures.behind start es s).0 c.if-not-branch.false);
      next_behind = λ start es s. (c.in_ok-is_next.ensures.behind start es s).0 c.if-not-branch.false;
    }

pub returns-in_ok-place_record-clause-ok : goal.returns-in_ok-place_record-clause-ok
returns-in_ok-place_record-clause-ok c =
    let content : is_member c.args.header.now.kind ≡ false = elim (kind_cases c.args.header.now.kind) [
      | inl is ↦ is
      | inr is ↦ search rules
    ] in
    record {
      stands = λ h j s next is. c.in_ok-place_record.ensures.ok h j s is content next;
      next = λ h s. (c.in_ok-is_next.ensures.next h s).0 c.if-not-branch.false;
      stands_behind = λ start es j s is. c.in_ok-place_record.ensures.behind start es j s is content ((c.in_ok-is_next.ensures.behind start es s).0 c.if-not-branch.false);
      next_behind = λ start es s. (c.in_ok-is_next.ensures.behind start es s).0 c.if-not-branch.false;
    }
