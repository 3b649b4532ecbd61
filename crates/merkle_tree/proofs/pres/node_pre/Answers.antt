use Rattle.std.proofs.Common.{rules, ◌≡◌, ◌∙◌, length}
use Rattle.std.proofs.lemmas.List.{take_at, drop_at, drop-replicate}
use Rattle.tree_model.specs.Clash.{node_bytes}
use Rattle.merkle_tree.proofs.pres.node_pre.Goals as goal

pub returns-clause-bytes : goal.returns-clause-bytes
returns-clause-bytes c =
    let front = c.copy_from_slice.new.self in
    let is : front ≡ node_bytes c.args.left.now.0 c.args.right.now.0 = search rules in
    let size : length front ≡ 65 = search rules in
    take_at front _ 65 size ∙ is

pub invariant_of-result : goal.invariant_of-result
invariant_of-result c =
    let front = c.copy_from_slice.new.self in
    let size : length front ≡ 65 = search rules in
    record { rest = drop_at front _ 65 size ∙ c.split_at_mut-front.ensures.back ∙ drop-replicate 65 175 0 }
