use Rattle.ledger_model.proofs.TookLaws.{took_then, took_counted, took_uncalled}
use Rattle.ledger_model.proofs.MadeLaws.{took_origin, took_made}
use Rattle.ledger_model.proofs.laws.the_notary_is_attended.Goals as goal

pub returns-clause-joined : goal.returns-clause-joined
returns-clause-joined c = took_then

pub returns-clause-counted : goal.returns-clause-counted
returns-clause-counted c = took_counted

pub returns-clause-uncalled : goal.returns-clause-uncalled
returns-clause-uncalled c = took_uncalled

pub returns-clause-origin : goal.returns-clause-origin
returns-clause-origin c = took_origin

pub returns-clause-made : goal.returns-clause-made
returns-clause-made c = took_made
