use Rattle.std.proofs.Common.{sym, ap, ◌∙◌}
use Rattle.tree_model.specs.Tree.{mth}
use Rattle.tree_model.proofs.Pieces.{front_whole, take-cut}
use Rattle.audit_core.proofs.pieces.first_root.Goals as goal

pub mth-requires-clause-whole : goal.mth-requires-clause-whole
mth-requires-clause-whole g c = front_whole c.args.width c.requires.low c.args.m c.args.flat.now c.requires.within

pub returns : goal.returns
returns g c = c.mth.ensures ∙ ap (mth g.H.TreeHash.of) (sym (take-cut c.args.width c.requires.low c.args.m c.args.flat.now c.requires.within))
