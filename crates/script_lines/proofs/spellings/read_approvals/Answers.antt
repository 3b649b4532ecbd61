use Rattle.std.proofs.Common.{◌≡◌, ◌≤◌, Some, None, length, sym, ◌∙◌, rules, arith}
use Rattle.script_lines.specs.Parts.{parts}
use Rattle.script_lines.specs.Spellings.{approval_of, approvals_from}
use Rattle.script_lines.proofs.Cuts.{parts-some}
use Rattle.script_lines.proofs.Given.{AreRead-more, approvals_from-many}
use Rattle.script_lines.proofs.spellings.read_approvals.Goals as goal

pub returns-then-len-eq-APPROVAL_LIMIT-clause-approvals : goal.returns-then-len-eq-APPROVAL_LIMIT-clause-approvals
returns-then-len-eq-APPROVAL_LIMIT-clause-approvals c =
    let so_far = rw c.in-Some.is at c.loop-left.invariant in
    let none : approvals_from (parts 44 c.args.text.now) ≡ None =
    approvals_from-many c.args.text.now c.loop-left.given.items (parts 44 c.in-Some.text.now) so_far (omega arith) (parts-some 44 c.in-Some.text.now) in
    rw none (search rules)

pub loop-left-preserved : goal.loop-left-preserved
loop-left-preserved c =
    let so_far = rw (c.in-Some.is, c.cut.ensures) at c.loop-left.invariant in
    let approval = c.in-Some-2.approval in
    let is : approval_of c.cut.result.0.now ≡ Some approval = sym c.in_ok-approval.ensures.approval ∙ c.in-Some-2.is in
    let long : length approval.proof ≤ 4096 = rw c.in-Some-2.is at c.in_ok-approval.ensures.long in
    rw c.in_ok-push.ensures.items (AreRead-more c.args.text.now c.loop-left.given.items approval c.cut.result.0.now _ so_far is long (omega arith))
