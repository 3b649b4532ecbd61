use Rattle.std.proofs.Common.{◌≡◌, ◌*◌, ◌∙◌, ap, arith, length, map}
use Rattle.ledger_bytes.specs.declared.digest.Digest.{Digest}
use Rattle.ledger_book.specs.Books.{leaf_digests}
use Rattle.tree_model.specs.Path.{path_length}
use Rattle.tree_model.specs.Tree.{cut}
use Rattle.survivor_set.proofs.Checked.{size_of}
use Rattle.survivor_set.proofs.Kept.{puts_err, puts_ok, row_is, row_few}
use Rattle.survivor_set.proofs.keeping.put_kept.Goals as goal

pub returns-in_err-path : goal.returns-in_err-path
returns-in_err-path c = record {
  puts = puts_err c.args.book.now c.args.point c.args.n c.args.item.now c.from_residual.result c.in_err-path.field-0.0 c.args.fields.now c.args.fields.now c.from_residual.ensures
      (λ h s. c.in_err-path.ensures.ok (omega (arith, c.tree.ensures.floor, c.requires.low)) c.requires.high (omega (arith, c.requires.there, size_of h c.tree.result.now (c.tree.ensures.stands h s), s.counts.size)));
}

pub put_spelled-requires : goal.put_spelled-requires
put_spelled-requires c =
    let len : length c.as_slice.result.now ≡ 32 * path_length c.args.n c.args.point = ap length c.as_slice.ensures ∙ c.in_ok-row.ensures.len ∙ ap (λ j. 32 * j) (ap length c.deref.ensures.value ∙ c.in_ok-path.ensures.count) in
    (row_few c.as_slice.result.now c.args.n c.args.point c.ranges.point.fits len).0

pub returns : goal.returns
returns c =
    let len : length c.as_slice.result.now ≡ 32 * path_length c.args.n c.args.point = ap length c.as_slice.ensures ∙ c.in_ok-row.ensures.len ∙ ap (λ j. 32 * j) (ap length c.deref.ensures.value ∙ c.in_ok-path.ensures.count) in
    record {
      puts = puts_ok c.args.book.now c.args.point c.args.n c.args.item.now c.as_slice.result.now c.args.fields.now c.put_spelled.new.fields
          (λ h s. row_is c.as_slice.result.now c.deref.result.now h c.args.point c.args.n (row_few c.as_slice.result.now c.args.n c.args.point c.ranges.point.fits len).1 (ap (cut 32) c.as_slice.ensures ∙ c.in_ok-row.ensures.cuts)
          (ap (map (λ (d : Digest). d.0)) c.deref.ensures.value ∙ c.in_ok-path.ensures.path (leaf_digests h) (c.tree.ensures.stands h s)))
          c.in_ok-put_spelled.ensures;
    }
