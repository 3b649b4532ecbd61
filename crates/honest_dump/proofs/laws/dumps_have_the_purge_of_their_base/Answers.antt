use Rattle.honest_dump.proofs.Facts.{made}
use Rattle.honest_dump.proofs.Links.{has_purge}
use Rattle.honest_dump.proofs.laws.dumps_have_the_purge_of_their_base.Goals as goal

pub returns : goal.returns
returns c scheme h entries run = has_purge scheme h entries run (made scheme h run)
