use Rattle.std.proofs.Common.{subst, arith}
use Rattle.audit_core.specs.declared.verdict.Verdict.{Verdict}
use Rattle.audit_core.specs.Truth.{Lists, lists_of}
use Rattle.audit_core.specs.Judgement.{Judges, told_by}
use Rattle.audit_core.proofs.DecidingLaws.{pieces_bytes}
use Rattle.audit_core.proofs.Judging.{judgement_is, verdict_refused, verdict_true, verdict_clash}
use Rattle.audit_core.proofs.Reaching.{moments_are}
use Rattle.audit_core.proofs.judgement.judge.Goals as goal

pub returns-clause-exact : goal.returns-clause-exact
returns-clause-exact g c =
    judgement_is g.H.TreeHash.of (lists_of c.args.id.now c.args.headers.now c.args.entries.now) c.args.proof.now c.args.claim.now
    (pieces_bytes c.args.headers.now (λ i. omega (arith, c.type_inv.headers i))) (told_by c.verdict_of.result) c.verdict_of.ensures

pub returns-clause-unaccepted : goal.returns-clause-unaccepted
returns-clause-unaccepted g c why =
    let lists : Lists = lists_of c.args.id.now c.args.headers.now c.args.entries.now in (
      λ is. subst (λ (v : Verdict). Judges g.H.TreeHash.of lists c.args.proof.now c.args.claim.now (told_by v)) is c.verdict_of.ensures,
      λ refused. verdict_refused g.H.TreeHash.of lists c.args.proof.now c.args.claim.now c.verdict_of.result why c.verdict_of.ensures refused,
    )

pub returns-clause-holds : goal.returns-clause-holds
returns-clause-holds g c =
    let lists : Lists = lists_of c.args.id.now c.args.headers.now c.args.entries.now in (
      λ is. subst (λ (v : Verdict). Judges g.H.TreeHash.of lists c.args.proof.now c.args.claim.now (told_by v)) is c.verdict_of.ensures,
      λ both. verdict_true g.H.TreeHash.of lists c.args.proof.now c.args.claim.now c.verdict_of.result c.verdict_of.ensures both.0 both.1,
    )

pub returns-clause-clash : goal.returns-clause-clash
returns-clause-clash g c =
    let lists : Lists = lists_of c.args.id.now c.args.headers.now c.args.entries.now in (
      λ found.
          let it = subst (λ (v : Verdict). Judges g.H.TreeHash.of lists c.args.proof.now c.args.claim.now (told_by v)) found.1 c.verdict_of.ensures in
          (it.0, it.1),
      λ both. verdict_clash g.H.TreeHash.of lists c.args.proof.now c.args.claim.now c.verdict_of.result c.verdict_of.ensures both.0 both.1,
    )

pub returns-clause-strings : goal.returns-clause-strings
returns-clause-strings g c found is =
    let lists : Lists = lists_of c.args.id.now c.args.headers.now c.args.entries.now in
    (subst (λ (v : Verdict). Judges g.H.TreeHash.of lists c.args.proof.now c.args.claim.now (told_by v)) is c.verdict_of.ensures).2

pub returns-clause-moments : goal.returns-clause-moments
returns-clause-moments g c moments is honest =
    let lists : Lists = lists_of c.args.id.now c.args.headers.now c.args.entries.now in
    moments_are g.H.TreeHash.of lists c.args.claim.now moments
    (subst (λ (v : Verdict). Judges g.H.TreeHash.of lists c.args.proof.now c.args.claim.now (told_by v)) is c.verdict_of.ensures).1 honest
