use Rattle.std.proofs.Common.{rules, ◌≡◌, ◌<◌, ◌≤◌, ◌∷◌, length, map, Some, None, ap, subst, ◌∙◌, arith}
use Rattle.std.specs.List.{concat}
use Rattle.std.proofs.lemmas.Option.{same_Some}
use Rattle.ledger_bytes.specs.declared.digest.Digest.{Digest}
use Rattle.journal_record.specs.Header as headers
use Rattle.journal_record.specs.Header.{HasWidths}
use Rattle.journal_record.specs.declared.header.Header.{Header}
use Rattle.ledger_book.specs.Books.{leaf_digests}
use Rattle.clue_lineage.proofs.Made.{above_floor, within_size, header_told, path_written, item_written, path_few, never_none, tree_size}
use Rattle.clue_lineage.proofs.making.put_item.Goals as goal

pub returns-in_default-clause-err : goal.returns-in_default-clause-err
returns-in_default-clause-err c h e s stands is = never_none e.header _ (header_told c.args.book.now h s e stands c.args.number None is (c.in_default.ensures.header h s))

pub returns-in_err-path-clause-err : goal.returns-in_err-path-clause-err
returns-in_err-path-clause-err c h e s stands is =
    let floor : c.tree.result.now.floor ≤ c.args.number = omega (arith, c.tree.ensures.floor, above_floor c.args.book.now h s e stands, is) in
    let size : c.args.number < c.size.result = omega (arith, c.size.ensures.size, within_size c.args.book.now h s e stands, is) in
    let all : c.size.result ≤ c.tree.result.now.size = omega (arith, c.size.ensures.size, tree_size c.args.book.now h s c.tree.result.now (c.tree.ensures.stands h s.stands)) in
    let wanting = c.in_err-path.ensures.ok floor size all in
    search (wanting, rules)

pub put_path-requires : goal.put_path-requires
put_path-requires c = omega (arith, ap length c.as_slice.ensures.value, c.in_ok-path.ensures.count, path_few c.args.number c.size.result c.size.ensures.fits)

pub returns-clause-item : goal.returns-clause-item
returns-clause-item c h e s stands is =
    let header_is : c.in-Some.header.now ≡ e.header = same_Some c.in-Some.header.now e.header (header_told c.args.book.now h s e stands c.args.number (Some c.in-Some.header.now) is (c.in-Some.ensures.header h s)) in
    let digests = path_written c.args.book.now h s e stands c.args.number c.size.result c.in_ok-path.path.items c.as_slice.result.now is c.size.ensures.size c.as_slice.ensures.value
    (c.in_ok-path.ensures.path (leaf_digests h) (c.tree.ensures.stands h s.stands)) in (
      item_written c.args.book.now h s e stands c.args.writer.now c.put_slice.new.self c.put_path.new.writer c.encode.result (length c.as_slice.result.now ∷ concat (map (λ (d : Digest). d.0) c.as_slice.result.now))
          (c.encode.ensures.bytes ∙ ap (λ (x : Header). headers.spelling x) header_is) c.in_ok-put_slice.ensures.ok c.in_ok-put_path.ensures digests,
      subst (λ (x : Header). HasWidths x) header_is c.encode.ensures.widths,
    )
