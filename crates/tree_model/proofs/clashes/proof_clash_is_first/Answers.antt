use Rattle.std.proofs.Common.{◌<◌, ◌-◌, false, take, drop, ◌∙◌, arith}
use Rattle.tree_model.specs.Clash.{node_bytes, sub_clash}
use Rattle.tree_model.proofs.PathClashes.{or_told, or_next}
use Rattle.tree_model.proofs.ProofClashes.{sub_clash_all, sub_clash_none, sub_clash_left, sub_clash_right}
use Rattle.tree_model.proofs.clashes.proof_clash_is_first.Goals as goal

pub returns-clause-all : goal.returns-clause-all
returns-clause-all c hash m known old digests proof all = sub_clash_all hash old m known digests proof all

pub returns-clause-missing : goal.returns-clause-missing
returns-clause-missing c hash m known old digests = sub_clash_none hash old m known digests

pub returns-clause-left : goal.returns-clause-left
returns-clause-left c hash k m known old side first new digests rest s some front e other =
    sub_clash_left hash old k m known digests rest side s some front
    ∙ rw e (or_told (node_bytes new side) _ (sub_clash hash m known old (take k digests) rest) other)

pub returns-clause-left_below : goal.returns-clause-left_below
returns-clause-left_below c hash k m known old side first new digests rest s some front e same =
    sub_clash_left hash old k m known digests rest side s some front
    ∙ rw e (or_next (node_bytes new side) _ (sub_clash hash m known old (take k digests) rest) same)

pub returns-clause-right : goal.returns-clause-right
returns-clause-right c hash k m known old side first new digests rest s behind part e other =
    let some : 0 < m = omega (arith, behind) in
    sub_clash_right hash old k m known digests rest side s some behind part
    ∙ rw e (or_told (node_bytes side new) _ (sub_clash hash (m - k) false old (drop k digests) rest) other)

pub returns-clause-right_below : goal.returns-clause-right_below
returns-clause-right_below c hash k m known old side first new digests rest s behind part e same =
    let some : 0 < m = omega (arith, behind) in
    sub_clash_right hash old k m known digests rest side s some behind part
    ∙ rw e (or_next (node_bytes side new) _ (sub_clash hash (m - k) false old (drop k digests) rest) same)
