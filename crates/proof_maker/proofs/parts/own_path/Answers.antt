use Rattle.std.proofs.Common.{ap, sym}
use Rattle.std.proofs.lemmas.Bool.{true≢false}
use Rattle.ledger_bytes.specs.Digests.{digest}
use Rattle.ledger_book.specs.Books.{leaf_digests}
use Rattle.proof_maker.proofs.TreeLaws.{tree_is, leaf_kept, leaf_there}
use Rattle.proof_maker.proofs.parts.own_path.Goals as goal

pub returns-in_err-leaf-clause-err : goal.returns-in_err-leaf-clause-err
returns-in_err-leaf-clause-err c = λ h s there kept.
    absurd (true≢false (sym (c.in_err-leaf.ensures.ok (leaf_kept c.args.book.now c.tree-tree.result.now c.tree-tree.ensures.stands c.tree-tree.ensures.floor h s c.args.n kept)
    (leaf_there c.args.book.now c.tree-tree.result.now c.tree-tree.ensures.stands c.tree-tree.ensures.floor h s c.args.n there))))

pub returns-clause-leads : goal.returns-clause-leads
returns-clause-leads c = λ h s.
    let stands = tree_is c.args.book.now c.tree-tree.result.now c.tree-tree.ensures.stands c.tree-tree.ensures.floor h s in record {
      leaf_is = ap digest (c.in_ok-leaf.ensures.leaf (leaf_digests h) stands);
      path_is = c.in_ok-path.ensures.path (leaf_digests h) stands;
    }
