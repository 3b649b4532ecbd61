use Rattle.honest_dump.proofs.Links.{purge_linked}
use Rattle.honest_dump.proofs.laws.purges_of_runs_link_their_bases.Goals as goal

pub returns : goal.returns
returns c scheme h front journal more run is purge = purge_linked scheme h front journal more run is purge
