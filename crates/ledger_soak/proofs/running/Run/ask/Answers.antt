use Rattle.std.proofs.Common.{refl, sym, ◌∙◌}
use Rattle.ledger_model.specs.History.{size}
use Rattle.ledger_soak.specs.Lines.{job_line}
use Rattle.ledger_soak.specs.Runs.{led_to}
use Rattle.ledger_soak.specs.Tasks.{task_drawn}
use Rattle.ledger_soak.proofs.GlueLaws.{settled, answered_so, in_hand_so}
use Rattle.ledger_soak.proofs.running.Run.ask.Goals as goal

pub accepted_line-requires : goal.accepted_line-requires
accepted_line-requires c = record { settled = settled c.requires.underway.0 c.args.self.now c.requires.underway.1 }

pub take-answer-requires-clause-open : goal.take-answer-requires-clause-open
take-answer-requires-clause-open c = c.requires.underway.1.stands.rests.open_now

pub take-answer-requires-clause-dues : goal.take-answer-requires-clause-dues
take-answer-requires-clause-dues c = c.requires.underway.1.stands.rests.dues

pub returns-in-Ok-clause-comes : goal.returns-in-Ok-clause-comes
returns-in-Ok-clause-comes c = λ seed x.
    let s = led_to seed x.past in
    let taken = c.in-Ok.ensures.ok in (
      _,
      answered_so seed c.args.self.now x _ c.in_ok-item.item.job c.accepted_line.new.notary c.in_ok-item.ensures.job c.in_ok-item.ensures.state c.in_ok-line.ensures.same c.in_ok-line.ensures.follows
          refl (sym c.faults.ensures ∙ c.if-faults-ne0.false) refl refl refl refl refl refl refl refl taken.0 (taken.1 (job_line (task_drawn s.draws (size s.history)) s.history)) c.in-Ok.ensures.open _ c.in_ok-line.ensures.line,
    )

pub returns-in-Stopped-clause-comes : goal.returns-in-Stopped-clause-comes
returns-in-Stopped-clause-comes c = λ seed x.
    in_hand_so seed c.args.self.now x _ c.in_ok-item.item.job c.accepted_line.new.notary c.in_ok-item.ensures.job c.in_ok-item.ensures.state c.in_ok-line.ensures.same c.in_ok-line.ensures.follows
    refl (sym c.faults.ensures ∙ c.if-faults-ne0.false) refl refl refl refl refl refl refl refl (c.in-Err.ensures.err c.in-Stopped.is)
