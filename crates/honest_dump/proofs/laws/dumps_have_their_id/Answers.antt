use Rattle.honest_dump.proofs.Facts.{made}
use Rattle.honest_dump.proofs.Heads.{has_id}
use Rattle.honest_dump.proofs.laws.dumps_have_their_id.Goals as goal

pub returns : goal.returns
returns c scheme h entries run = has_id h (made scheme h run) entries
