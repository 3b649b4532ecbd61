use Rattle.std.proofs.Common.{◌∙◌, ap, sym, arith}
use Rattle.std.proofs.lemmas.Bool.{true≢false}
use Rattle.std.proofs.lemmas.Option.{same_Some}
use Rattle.ledger_bytes.specs.Digests.{digest}
use Rattle.ledger_model.specs.History as model
use Rattle.ledger_model.specs.Proofs.{extension_in}
use Rattle.ledger_book.specs.Books.{leaf_digests}
use Rattle.proof_maker.proofs.TreeLaws.{tree_is, root_told, time_kept, time_there}
use Rattle.proof_maker.proofs.bound.Bound.of.Goals as goal

pub returns-in_err-root-clause-err : goal.returns-in_err-root-clause-err
returns-in_err-root-clause-err c = λ h e s at.
    absurd (true≢false (sym (c.in_err-root.ensures.ok (time_kept c.args.book.now c.tree-tree.result.now c.tree-tree.ensures.stands c.tree-tree.ensures.floor h s c.args.jsn e at)
    (omega (arith, time_there c.args.book.now c.tree-tree.result.now c.tree-tree.ensures.stands c.tree-tree.ensures.floor h s c.args.jsn e at)))))

pub returns-clause-bounds : goal.returns-clause-bounds
returns-clause-bounds c = λ h e s at.
    let stands = tree_is c.args.book.now c.tree-tree.result.now c.tree-tree.ensures.stands c.tree-tree.ensures.floor h s in
    let there = time_there c.args.book.now c.tree-tree.result.now c.tree-tree.ensures.stands c.tree-tree.ensures.floor h s c.args.jsn e at in record {
      header_is = same_Some c.in-Some.header e.header (c.in-Some.ensures.header h e s at);
      root_is = ap digest (c.in_ok-root.ensures.root (leaf_digests h) stands ∙ root_told h c.args.jsn ∙ ap (model.root h) (sym at.number));
      ext_is = c.in_ok-ext.ensures.proof (leaf_digests h) stands (omega (arith, there)) ∙ ap (extension_in h) (sym at.number);
    }
