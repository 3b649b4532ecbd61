use Rattle.std.proofs.Common.{List, ◌+◌, ◌++◌, map, take, ap, sym, ◌∙◌}
use Rattle.std.specs.Option.{option_to_list}
use Rattle.ledger_bytes.specs.declared.digest.Digest.{Digest}
use Rattle.journal_record.specs.declared.member.Member.{Member}
use Rattle.ledger_book.specs.Books.{Kept}
use Rattle.ledger_book.proofs.TellLaws.{key_more}
use Rattle.ledger_book.proofs.book.Book.keys_at.Goals as goal

pub loop-number-preserved : goal.loop-number-preserved
loop-number-preserved c =
    let ms = c.self.inside.members in
    c.in_ok-add_key.ensures ∙ ap (λ (l : List Digest). l ++ option_to_list c.key.result) (c.loop-number.invariant ∙ ap (λ (k : Kept). map (λ (m : Member). m.key) (take c.loop-number.number k.members)) (sym c.self.view_is))
    ∙ sym (key_more ms c.loop-number.number c.key.result c.key.ensures) ∙ ap (λ (k : Kept). map (λ (m : Member). m.key) (take (c.loop-number.number + 1) k.members)) c.self.view_is
