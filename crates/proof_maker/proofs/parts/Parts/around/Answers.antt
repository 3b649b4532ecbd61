use Rattle.std.proofs.Common.{◌∙◌, ap}
use Rattle.std.proofs.lemmas.Result.{err_from_is_err_and}
use Rattle.ledger_bytes.specs.declared.mark.TimeMark.{TimeMark}
use Rattle.std.specs.Prelude.{Option}
use Rattle.ledger_model.specs.Bounds.{lower_journal, upper_journal}
use Rattle.ledger_book.specs.Books.{leaf_digests}
use Rattle.proof_maker.specs.Parts.{path_if}
use Rattle.proof_maker.proofs.PartLaws.{lower_marked, upper_marked, leaf_marked}
use Rattle.proof_maker.proofs.TreeLaws.{tree_is}
use Rattle.proof_maker.proofs.parts.Parts.around.Goals as goal

pub returns-in_err-bound_at-clause-err : goal.returns-in_err-bound_at-clause-err
returns-in_err-bound_at-clause-err c = λ h s.
    let p = err_from_is_err_and c.from_residual.result c.from_residual.ensures.1 in
    rw (p.1, p.2) (c.in_err-bound_at.ensures.err h (lower_journal h c.args.n) s (lower_marked h c.args.n c.bounds_of-before.result.0 s.stands.lawful (c.bounds_of-before.ensures.lower h s)))

pub returns-in_err-path_at-clause-err : goal.returns-in_err-path_at-clause-err
returns-in_err-path_at-clause-err c = λ h s.
    let p = err_from_is_err_and c.from_residual-in_err-path_at.result c.from_residual-in_err-path_at.ensures.1 in
    rw (p.1, p.2) (c.in_err-path_at.ensures.err
    (leaf_marked c.args.book.now c.tree-tree.result.now c.tree-tree.ensures.stands c.tree-tree.ensures.floor h s (lower_journal h c.args.n) c.bounds_of-before.result.0
    (lower_marked h c.args.n c.bounds_of-before.result.0 s.stands.lawful (c.bounds_of-before.ensures.lower h s))))

pub returns-in_err-bound_at-2-clause-err : goal.returns-in_err-bound_at-2-clause-err
returns-in_err-bound_at-2-clause-err c = λ h s.
    let p = err_from_is_err_and c.from_residual-in_err-bound_at-2.result c.from_residual-in_err-bound_at-2.ensures.1 in
    rw (p.1, p.2) (c.in_err-bound_at-2.ensures.err h (upper_journal h c.args.n) s (upper_marked h c.args.n c.bounds_of-before.result.1 s.stands.lawful (c.bounds_of-before.ensures.upper h s)))

pub returns-clause-parts : goal.returns-clause-parts
returns-clause-parts c = λ h s leads.
    let stands = tree_is c.args.book.now c.tree-tree.result.now c.tree-tree.ensures.stands c.tree-tree.ensures.floor h s in record {
      leaf_is = leads.leaf_is;
      path_is = leads.path_is;
      lower_is = c.in_ok-bound_at.ensures.bounds h (lower_journal h c.args.n) s (lower_marked h c.args.n c.bounds_of-before.result.0 s.stands.lawful (c.bounds_of-before.ensures.lower h s));
      lower_path_is = c.in_ok-path_at.ensures.path (leaf_digests h) stands ∙ ap (λ (m : Option TimeMark). path_if (leaf_digests h) m) (c.bounds_of-before.ensures.lower h s);
      upper_is = c.in_ok-bound_at-2.ensures.bounds h (upper_journal h c.args.n) s (upper_marked h c.args.n c.bounds_of-before.result.1 s.stands.lawful (c.bounds_of-before.ensures.upper h s));
    }

pub returns-clause-bounds : goal.returns-clause-bounds
returns-clause-bounds c = λ h s. (
  c.in_ok-bound_at.ensures.bounds h (lower_journal h c.args.n) s (lower_marked h c.args.n c.bounds_of-before.result.0 s.stands.lawful (c.bounds_of-before.ensures.lower h s)),
  c.in_ok-bound_at-2.ensures.bounds h (upper_journal h c.args.n) s (upper_marked h c.args.n c.bounds_of-before.result.1 s.stands.lawful (c.bounds_of-before.ensures.upper h s)),
)
