use Rattle.std.proofs.Common.{sym, subst, ◌∙◌}
use Rattle.tree_model.specs.Tree.{cut}
use Rattle.audit_core.specs.Parts.{PathGives}
use Rattle.audit_core.proofs.PartLaws.{flat_within, leaf_back}
use Rattle.audit_core.proofs.parts.placed_differs.Goals as goal

pub leaf_differs-requires-clause-within : goal.leaf_differs-requires-clause-within
leaf_differs-requires-clause-within g c = flat_within g.H.TreeHash.of c.args.width c.args.flat.now _ c.args.n c.args.path.now c.requires.gives

pub leaf_differs-requires-clause-one_digest : goal.leaf_differs-requires-clause-one_digest
leaf_differs-requires-clause-one_digest g c =
    let gives = subst (λ digest. PathGives g.H.TreeHash.of (cut c.args.width c.args.flat.now) digest c.args.n c.args.path.now) (sym c.leaf_of.ensures) c.requires.gives in
    sym c.leaf_of.ensures ∙ leaf_back g.H.TreeHash.of c.args.width c.args.flat.now c.leaf_of.result.0 c.args.n c.args.path.now gives c.in-None.ensures.0
