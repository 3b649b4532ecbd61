use Rattle.std.proofs.Common.{arith}
use Rattle.audit_core.specs.Truth.{lists_of}
use Rattle.audit_core.specs.Judgement.{told_by}
use Rattle.audit_core.proofs.Judging.{judged, unread}
use Rattle.audit_core.proofs.judgement.verdict_of.Goals as goal

pub returns-in-Ok : goal.returns-in-Ok
returns-in-Ok g c =
    judged g.H.TreeHash.of (lists_of c.args.id.now c.args.headers.now c.args.entries.now) c.args.proof.now c.args.claim.now
    (λ i. omega (arith, c.type_inv.proof i)) c.in-Ok.shown c.in-Ok.ensures.exact (told_by c.judge_shown.result) c.judge_shown.ensures

pub returns-in-Err : goal.returns-in-Err
returns-in-Err g c =
    unread g.H.TreeHash.of (lists_of c.args.id.now c.args.headers.now c.args.entries.now) c.args.proof.now c.args.claim.now
    (λ i. omega (arith, c.type_inv.proof i)) c.in-Err.bad c.break_of.result c.in-Err.ensures.exact c.break_of.ensures
