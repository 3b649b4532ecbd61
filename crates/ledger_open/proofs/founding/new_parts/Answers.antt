use Rattle.std.proofs.Common.{◌∙◌, sym, ap, List, ℕ, ◌++◌, ◌∷◌, []}
use Rattle.journal_record.specs.Blocks.{block_bytes}
use Rattle.journal_record.specs.Header.{spelling}
use Rattle.journal_record.specs.declared.header.Header.{Header}
use Rattle.ledger_model.specs.Genesis.{genesis_journal}
use Rattle.block_file.specs.Writing.{BlockBytes, record_with}
use Rattle.block_file.specs.declared.place.PlaceAt.{PlaceAt}
use Rattle.ledger_open.proofs.FoundingLaws.{first_bytes, first_knows, first_place, first_root_is}
use Rattle.ledger_open.proofs.founding.new_parts.Goals as goal

pub returns-clause-known : goal.returns-clause-known
returns-clause-known c =
    let g = c.args.genesis.now in
    let keys = c.content.ensures in
    first_knows g keys.operator keys.regulator c.in_ok-book.book c.push.new.self.list c.in_ok-book.ensures.serves c.in_ok-book.ensures.floor.0
    (c.push.ensures.list ∙ ap (λ (l : List PlaceAt). l ++ c.in_ok-put.field-0 ∷ []) (c.reserve.ensures.list ∙ c.new-places.ensures)
    ∙ sym (first_place g keys.operator keys.regulator c.in_ok-put.field-0 _ c.content.result c.new-block.ensures keys.content c.in_ok-put.ensures.place))

pub returns-clause-block : goal.returns-clause-block
returns-clause-block c =
    let g = c.args.genesis.now in
    let keys = c.content.ensures in
    let body = c.in_ok-put.ensures.body ∙ ap (λ (l : List ℕ). l ++ record_with c.encode-header.result c.content.result []) c.new-block.ensures in
    let same = c.in_ok-finish.ensures.body in
    first_bytes g keys.operator keys.regulator c.head.result.root.0 c.encode-header.result c.content.result c.finish.new.self.body c.finish.new.self.head
    (c.encode-header.ensures.bytes ∙ ap (λ (h : Header). spelling h) c.first_header.ensures.header) keys.content (same ∙ body) (c.in_ok-finish.ensures.head ∙ ap (λ (l : List ℕ). Rattle.block_file.specs.Writing.block_head 1 (Rattle.std.specs.Prelude.length l) c.head.result.root.0) (sym same))
    ∙ ap (λ (r : List ℕ). block_bytes r (genesis_journal g ∷ [])) (first_root_is c.in_ok-book.book c.head.result g c.in_ok-book.ensures.serves c.head.ensures)
