use Rattle.ledger_cli.proofs.MappedLaws.{runs_as}
use Rattle.ledger_cli.proofs.session.run_session.Goals as goal

pub returns-clause-ran : goal.returns-clause-ran
returns-clause-ran g c = runs_as _ _ _ _ _ _ _ _ (λ h k p none x. tt) c.follow_session.ensures.ran
