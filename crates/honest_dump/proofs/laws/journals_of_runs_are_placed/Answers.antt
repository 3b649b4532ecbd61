use Rattle.honest_dump.proofs.Placing.{journal_placed}
use Rattle.honest_dump.proofs.laws.journals_of_runs_are_placed.Goals as goal

pub returns : goal.returns
returns c scheme h front journal more run is = journal_placed scheme h front journal more run is
