use Rattle.std.proofs.Common.{arith, None, take, ap, sym, ◌∙◌}
use Rattle.std.proofs.lemmas.List.{append-nil}
use Rattle.tree_model.specs.Tree.{root}
use Rattle.merkle_batch.proofs.Keeping.{stands_size, stands_keeps, stands_of}
use Rattle.merkle_batch.proofs.Agreeing.{same_leaves, same_peaks, same_roots, same_keeps}
use Rattle.merkle_batch.proofs.meaning.lists_of_a_tree.Goals as goal

pub returns-clause-size : goal.returns-clause-size
returns-clause-size c hash tree ds stands = stands_size hash tree ds stands

pub returns-clause-leaves : goal.returns-clause-leaves
returns-clause-leaves c hash tree ds es one two = same_leaves hash tree.floor tree.rows ds es (stands_keeps hash tree ds one) (stands_keeps hash tree es two)

pub returns-clause-peaks : goal.returns-clause-peaks
returns-clause-peaks c hash tree ds es floor one two =
    same_peaks hash tree.floor tree.rows ds es (omega (arith, stands_size hash tree ds one)) (omega (arith, stands_size hash tree es two)) (stands_keeps hash tree ds one) (stands_keeps hash tree es two)

pub returns-clause-root : goal.returns-clause-root
returns-clause-root c hash tree ds es floor one two =
    ap (root hash) (sym (append-nil (take tree.floor ds)))
    ∙ same_roots hash tree.floor tree.rows ds es None (omega (arith, stands_size hash tree ds one)) (omega (arith, stands_size hash tree es two)) (stands_keeps hash tree ds one) (stands_keeps hash tree es two)
    ∙ ap (root hash) (append-nil (take tree.floor es))

pub returns-clause-only : goal.returns-clause-only
returns-clause-only c hash tree ds es floor one len leaves tops =
    let size = stands_size hash tree ds one in
    stands_of hash tree es len (same_keeps hash tree.floor tree.rows ds es (omega (arith, size)) (size ∙ sym len) leaves tops (stands_keeps hash tree ds one))
