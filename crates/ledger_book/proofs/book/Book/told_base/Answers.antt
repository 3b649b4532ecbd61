use Rattle.std.specs.Prelude.{filter}
use Rattle.std.proofs.Common.{◌-◌, ◌≤◌, length, take, nat_lt, refl, ap, map, sym, subst, ◌∙◌}
use Rattle.journal_record.specs.declared.member.Member.{Member}
use Rattle.member_book.specs.Members.{count_below}
use Rattle.ledger_bytes.specs.declared.digest.Digest.{Digest}
use Rattle.ledger_book.specs.Books.{Kept, Serves}
use Rattle.ledger_book.specs.contracts.book.Book.{the_view}
use Rattle.ledger_book.proofs.TellLaws.{base_told}
use Rattle.ledger_book.proofs.book.Book.told_base.Goals as goal

pub returns-clause-base : goal.returns-clause-base
returns-clause-base c = λ h s0 low some.
    let k = the_view c.self.inside in
    let s = subst (λ (k : Kept). Serves k h) (sym c.self.view_is) s0 in
    base_told k h c.args.p _ s.stands c.self.invariant.1 (record {
      id = refl;
      point = refl;
      blocks = c.blocks_at.ensures ∙ sym (ap (λ (b : Kept). b.blocks - length (filter (λ end. nat_lt c.args.p end) b.ends)) c.self.view_is);
      peaks_are = λ ds t. ap (map (λ (d : Digest). d.0)) c.of.ensures ∙ c.in-Ok.ensures.peaks ds t;
      keys_are = c.of-2.ensures ∙ c.in_ok-keys.ensures.keys ∙ sym (ap (λ (b : Kept). map (λ (m : Member). m.key) (take (count_below c.args.p b.members) b.members)) c.self.view_is);
      clues_are = λ a t low few. c.of-3.ensures ∙ c.in_ok-clues.ensures.states a t low few;
    }) (subst (λ (k : Kept). k.floor ≤ c.args.p) (sym c.self.view_is) low) some
