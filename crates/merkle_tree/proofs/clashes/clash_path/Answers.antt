use Rattle.std.specs.Prelude.{is_some}
use Rattle.std.proofs.Common.{ap}
use Rattle.tree_model.proofs.Folds.{fold_bytes_parts, fold_bytes_even}
use Rattle.merkle_tree.specs.Strings.{pair_of}
use Rattle.merkle_tree.proofs.Differing.{path_shows, is_clash, not_none}
use Rattle.merkle_tree.proofs.clashes.clash_path.Goals as goal

pub path_differs-requires-clause-within : goal.path_differs-requires-clause-within
path_differs-requires-clause-within g c = (fold_bytes_parts g.H.TreeHash.of c.args.leaf.now.0 c.args.n _ c.args.path.now (ap is_some c.requires.gives)).0

pub path_differs-requires-clause-digests : goal.path_differs-requires-clause-digests
path_differs-requires-clause-digests g c = fold_bytes_even g.H.TreeHash.of c.args.leaf.now.0 c.args.n _ c.args.path.now (ap is_some c.requires.gives)

pub unreachable-requires : goal.unreachable-requires
unreachable-requires g c =
    not_none g.H.TreeHash.of _ c.in-None.ensures
    (path_shows g.H.TreeHash.of c.args.width c.args.flat.now c.args.path.now g.met.H.TreeHash.of_length c.args.leaf.now.0 c.args.n c.requires.other c.requires.gives)

pub returns-clause-clash : goal.returns-clause-clash
returns-clause-clash g c =
    is_clash g.H.TreeHash.of _ (pair_of c.in-Some.clash) c.in-Some.ensures
    (path_shows g.H.TreeHash.of c.args.width c.args.flat.now c.args.path.now g.met.H.TreeHash.of_length c.args.leaf.now.0 c.args.n c.requires.other c.requires.gives)
