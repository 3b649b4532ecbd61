use Rattle.std.proofs.Common.{◌≤◌, ◌<◌, arith}
use Rattle.audit_dump.proofs.Roots.{root_told, not_below, not_above}
use Rattle.audit_dump.proofs.purging.root_below.Goals as goal

pub returns-in-Ok : goal.returns-in-Ok
returns-in-Ok c start before leaves floor within =
    let kept : c.args.tree.now.floor ≤ c.args.p = not_below c.args.p c.args.tree.now.floor (λ lt. let never = c.in-Ok.ensures.below lt in cc) in
    (omega (arith, kept, floor), root_told start before c.args.p c.args.tree.now c.in-Ok.root leaves c.in-Ok.ensures.root c.in-Ok.ensures.over)

pub returns-in-Err : goal.returns-in-Err
returns-in-Err c start before leaves floor within =
    let gone : c.args.p < c.args.tree.now.floor = not_above c.args.p c.args.tree.now.floor (λ le. let never = c.in-Err.ensures.ok le within in cc) in
    omega (arith, gone, floor)
