use Rattle.std.proofs.Common.{◌≡◌, ◌*◌, length, map, ap, ◌∙◌}
use Rattle.ledger_bytes.specs.declared.digest.Digest.{Digest}
use Rattle.tree_model.specs.Tree.{cut}
use Rattle.survivor_set.proofs.Rows.{carried_in}
use Rattle.survivor_set.proofs.paths.carried_path.Goals as goal

pub add_carried-requires : goal.add_carried-requires
add_carried-requires g c =
    let long : length c.deref.result.now ≡ length c.in-Ok-path.path.items = ap length c.deref.ensures.value in
    record {
      kept = c.requires.kept;
      more = c.requires.more;
      below = c.requires.below;
      above = ap length c.as_slice.ensures ∙ c.in_ok-above.ensures.len ∙ (ap (λ j. 32 * j) (long ∙ c.in-Ok-path.ensures.count));
    }

pub returns-clause-path : goal.returns-clause-path
returns-clause-path g c = λ ds stands below_is.
    let h = g.H.TreeHash.of in
    let above = ap (cut 32) c.as_slice.ensures ∙ c.in_ok-above.ensures.cuts ∙ ap (map (λ (x : Digest). x.0)) c.deref.ensures.value ∙ c.in-Ok-path.ensures.path ds stands in
    carried_in h c.args.tree.now c.args.n c.args.point c.args.size c.in-Ok.leaf.0 c.args.below.now c.as_slice.result.now c.new-fields.result c.add_carried.new.fields c.finish.result
    c.requires.size c.requires.more c.new-fields.ensures c.finish.ensures c.in_ok-add_carried.ensures.path ds stands (c.in-Ok.ensures.leaf ds stands) above below_is
