use Rattle.std.proofs.Common.{◌≡◌, map, take}
use Rattle.script_lines.specs.declared.said.SaidApproval.{SaidApproval}
use Rattle.ledger_model.specs.Appends.{approval_of}
use Rattle.lane_work.proofs.requests.shown_approvals.Given as goal

abbrev pub invariant-loop-by : goal.invariant-loop-by
invariant-loop-by g l = l.shown.items ≡ map (λ (by : SaidApproval). approval_of (g.V.Verifier.shows l.verifier) by.member l.request.0 by.proof) (take l.by-index l.given)
