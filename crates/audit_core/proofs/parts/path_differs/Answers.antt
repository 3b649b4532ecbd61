use Rattle.std.proofs.Common.{sym, ◌∙◌}
use Rattle.audit_core.proofs.PartLaws.{flat_within, flat_path, leaf_same, leaf_not, one_shows, other_told}
use Rattle.audit_core.proofs.parts.path_differs.Goals as goal

pub has_leaf-requires-clause-within : goal.has_leaf-requires-clause-within
has_leaf-requires-clause-within g c = flat_within g.H.TreeHash.of c.args.width c.args.flat.now c.args.digest.now.0 c.args.n c.args.path.now c.requires.gives

pub clash_path-requires-clause-gives : goal.clash_path-requires-clause-gives
clash_path-requires-clause-gives g c = flat_path g.H.TreeHash.of c.args.width c.args.flat.now c.args.digest.now.0 c.args.n c.args.path.now c.requires.gives

pub clash_path-requires-clause-other : goal.clash_path-requires-clause-other
clash_path-requires-clause-other g c =
    leaf_not g.H.TreeHash.of c.args.width c.args.flat.now c.args.digest.now.0 c.args.n c.args.path.now c.requires.gives (sym c.has_leaf.ensures ∙ c.if-has_leaf.false)

pub returns-then-has_leaf : goal.returns-then-has_leaf
returns-then-has_leaf g c =
    (leaf_same g.H.TreeHash.of c.args.width c.args.flat.now c.args.digest.now.0 c.args.n c.args.path.now c.requires.gives (sym c.has_leaf.ensures ∙ c.if-has_leaf.true), tt)

pub returns-else-has_leaf : goal.returns-else-has_leaf
returns-else-has_leaf g c =
    one_shows g.H.TreeHash.of _ _ c.clash_path.result
    (other_told _ _ (leaf_not g.H.TreeHash.of c.args.width c.args.flat.now c.args.digest.now.0 c.args.n c.args.path.now c.requires.gives (sym c.has_leaf.ensures ∙ c.if-has_leaf.false)))
    c.clash_path.ensures.exact c.clash_path.ensures.clash
