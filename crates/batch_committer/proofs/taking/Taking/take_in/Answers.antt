use Rattle.std.proofs.Common.{true, inl, inr, ◌++◌, ◌∷◌, [], ap, sym, ◌∙◌}
use Rattle.ledger_model.specs.Anchors.{stamp_of}
use Rattle.ledger_model.specs.Limits.{real_limits}
use Rattle.ledger_model.specs.Outcomes.{with_job}
use Rattle.ledger_model.specs.declared.due.Due.{Due}
use Rattle.ledger_model.proofs.GrowLaws.{grows_with}
use Rattle.ledger_book.proofs.StandsLaws.{none_waits}
use Rattle.batch_committer.specs.Attending.{step_in}
use Rattle.batch_committer.specs.World.{CommitterState, world, pair}
use Rattle.batch_committer.specs.declared.failure.CommitErr.TheVariants.{NoMemory}
use Rattle.batch_committer.proofs.Offering.{file_to, judged_goes, judged_read, unjudged_ended}
use Rattle.batch_committer.proofs.Judging.{judged_dues}
use Rattle.batch_committer.proofs.ReadLaws.{read_ended}
use Rattle.batch_committer.proofs.WayLaws.{err_is}
use Rattle.batch_committer.proofs.taking.Taking.take_in.Goals as goal

pub returns-in_err-answer-clause-err : goal.returns-in_err-answer-clause-err
returns-in_err-answer-clause-err g c =
    let n = g.N.Notary.state c.args.notary.now in
    let m = g.N.Notary.state c.judge.new.notary in
    let i = c.args.item.now in
    let e = c.in_err-answer.ensures in
    err_is _ c.from_residual.result _ c.from_residual.ensures.1
    (λ sink. elim e.unasked [
      | inl y ↦ inl (
        y.0,
        λ line. record {
          ended = unjudged_ended g.D.Disk.tells _ _ _ _ sink (step_in n m y.0 i.lane i.index line) i.job _ c.judge.ensures.read e.err;
          attended = λ h held. y.1 h i.lane i.index line held.keeps;
        },
      )
      | inr y ↦ inr (λ line. record {
        ended = read_ended g.D.Disk.tells _ _ c.judge.ensures.read _ _ sink (λ h. with_job real_limits (stamp_of (step_in n m true i.lane i.index line)) h i.job) (λ h. []) _ (λ h. grows_with real_limits (stamp_of (step_in n m true i.lane i.index line)) h i.job) e.err;
        anchor = y.0;
        same = y.1;
      })
    ])

pub returns-in_default-clause-err : goal.returns-in_default-clause-err
returns-in_default-clause-err g c = λ sink.
    let n = g.N.Notary.state c.args.notary.now in
    let m = g.N.Notary.state c.judge.new.notary in
    let i = c.args.item.now in
    let x = c.in_ok-answer.ensures.judged in
    inl (
      x.0,
      λ line. record {
        ended = unjudged_ended g.D.Disk.tells _ _ _ _ sink (step_in n m x.0 i.lane i.index line) i.job NoMemory c.judge.ensures.read c.in_ok-answer.ensures.no_fault;
        attended = λ h held. (x.1 h i.lane i.index line sink held).attended;
      },
    )

pub returns-clause-ok : goal.returns-clause-ok
returns-clause-ok g c =
    let n = g.N.Notary.state c.args.notary.now in
    let m = g.N.Notary.state c.judge.new.notary in
    let i = c.args.item.now in
    let e = c.in_ok-answer.ensures in
    let x = e.judged in (
      x.0,
      λ line sink.
          let step = step_in n m x.0 i.lane i.index line in
          let due : Due = record { lane = i.lane; index = i.index; answer = c.in_ok-answer.answer } in
          let old = pair (g.D.Disk.state c.args.a.now) (g.D.Disk.state c.args.b.now) in
          record {
            goes =
                judged_read g.D.Disk.tells _ _ old _ sink step i.job e.read e.no_fault
                (judged_goes g.D.Disk.tells (world c.args.self.now old sink) _ step i.job c.in_ok-answer.answer
                (file_to c.judge.new.self _ c.push.new.self.items c.self.view_is e.rest.file)
                (c.in-Ok.ensures.items ∙ ap (λ (k : CommitterState). k.dues ++ due ∷ []) c.self.view_is ∙ ap (λ ds. ds ++ due ∷ []) e.rest.dues)
                (ap (λ (k : CommitterState). k.spelled) c.self.view_is ∙ e.rest.spelled) (ap (λ (k : CommitterState). k.lines) c.self.view_is ∙ e.rest.lines)
                (λ closes h s. none_waits _ h s.stands (sym (c.requires.settled closes).0))
                (λ h holds none. judged_dues c.judge.new.self _ c.push.new.self.items h step i.job c.in_ok-answer.answer c.self.view_is (x.1 h i.lane i.index line sink holds).judged));
            attended = λ h held. (x.1 h i.lane i.index line sink held).attended;
          },
    )
