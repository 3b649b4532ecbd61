use Rattle.ledger_open.proofs.PartLaws.{kept_from}
use Rattle.ledger_open.proofs.PlaceLaws.{kept_at}
use Rattle.ledger_open.proofs.laws.journals_stand_at_their_places.Goals as goal

pub returns-clause-kept : goal.returns-clause-kept
returns-clause-kept c = kept_at

pub returns-clause-all : goal.returns-clause-all
returns-clause-all c floor gone image h x = kept_from floor h x.none x.parts
