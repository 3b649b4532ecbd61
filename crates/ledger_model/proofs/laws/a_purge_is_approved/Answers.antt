use Rattle.ledger_model.proofs.ApproveLaws.{operator_approves, proofs_show, owner_approves}
use Rattle.ledger_model.proofs.laws.a_purge_is_approved.Goals as goal

pub returns-clause-operator : goal.returns-clause-operator
returns-clause-operator c = operator_approves

pub returns-clause-owners : goal.returns-clause-owners
returns-clause-owners c = λ h p told given n e accepted lawful at kind_is kept front. owner_approves h p told given accepted n e lawful at kind_is kept front

pub returns-clause-keys : goal.returns-clause-keys
returns-clause-keys c = proofs_show
