use Rattle.std.proofs.Common.{◌-◌, take, drop, ◌∙◌}
use Rattle.tree_model.specs.Clash.{node_bytes, path_clash}
use Rattle.tree_model.proofs.PathClashes.{or_told, or_next, path_clash_few, path_clash_none, path_clash_left, path_clash_right}
use Rattle.tree_model.proofs.clashes.path_clash_is_first.Goals as goal

pub returns-clause-few : goal.returns-clause-few
returns-clause-few c hash digest n digests path few = path_clash_few hash digest n digests path few

pub returns-clause-missing : goal.returns-clause-missing
returns-clause-missing c hash digest n digests = path_clash_none hash digest n digests

pub returns-clause-left : goal.returns-clause-left
returns-clause-left c hash digest side left k n digests rest s front e other =
    path_clash_left hash digest k n digests rest side s front ∙ rw e (or_told (node_bytes left side) _ (path_clash hash digest n (take k digests) rest) other)

pub returns-clause-left_below : goal.returns-clause-left_below
returns-clause-left_below c hash digest side left k n digests rest s front e same =
    path_clash_left hash digest k n digests rest side s front ∙ rw e (or_next (node_bytes left side) _ (path_clash hash digest n (take k digests) rest) same)

pub returns-clause-right : goal.returns-clause-right
returns-clause-right c hash digest side right k n digests rest s back within e other =
    path_clash_right hash digest k n digests rest side s back within ∙ rw e (or_told (node_bytes side right) _ (path_clash hash digest (n - k) (drop k digests) rest) other)

pub returns-clause-right_below : goal.returns-clause-right_below
returns-clause-right_below c hash digest side right k n digests rest s back within e same =
    path_clash_right hash digest k n digests rest side s back within ∙ rw e (or_next (node_bytes side right) _ (path_clash hash digest (n - k) (drop k digests) rest) same)
