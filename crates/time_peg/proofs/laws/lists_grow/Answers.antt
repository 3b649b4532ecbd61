use Rattle.time_peg.proofs.EntryLaws.{list_empty, list_push}
use Rattle.time_peg.proofs.laws.lists_grow.Goals as goal

pub returns-clause-empty : goal.returns-clause-empty
returns-clause-empty c = list_empty

pub returns-clause-more : goal.returns-clause-more
returns-clause-more c = list_push
