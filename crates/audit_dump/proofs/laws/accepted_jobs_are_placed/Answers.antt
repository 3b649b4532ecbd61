use Rattle.audit_dump.proofs.Placed.{record_is, occult_is, clue_occult_is, member_is, purge_is}
use Rattle.audit_dump.proofs.laws.accepted_jobs_are_placed.Goals as goal

pub returns-clause-records : goal.returns-clause-records
returns-clause-records c scheme limits h member clue content proof fits e = record_is scheme limits h member clue content proof fits e

pub returns-clause-members : goal.returns-clause-members
returns-clause-members c scheme limits h number key proof fits e = member_is scheme limits h number key proof fits e

pub returns-clause-occults : goal.returns-clause-occults
returns-clause-occults c scheme limits h target leaf given fits e = occult_is scheme limits h target leaf given fits e

pub returns-clause-clue_occults : goal.returns-clause-clue_occults
returns-clause-clue_occults c scheme limits h name count given fits e = clue_occult_is scheme limits h name count given fits e

pub returns-clause-purges : goal.returns-clause-purges
returns-clause-purges c scheme limits h p told given fits e = purge_is scheme limits h p told given fits e
