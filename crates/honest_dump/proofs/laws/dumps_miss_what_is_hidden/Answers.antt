use Rattle.honest_dump.proofs.Facts.{made}
use Rattle.honest_dump.proofs.Heads.{has_erasures}
use Rattle.honest_dump.proofs.laws.dumps_miss_what_is_hidden.Goals as goal

pub returns : goal.returns
returns c scheme h entries run = has_erasures h (made scheme h run) entries
