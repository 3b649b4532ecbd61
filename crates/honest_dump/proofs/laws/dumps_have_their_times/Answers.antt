use Rattle.honest_dump.proofs.Facts.{made}
use Rattle.honest_dump.proofs.Times.{has_times}
use Rattle.honest_dump.proofs.laws.dumps_have_their_times.Goals as goal

pub returns : goal.returns
returns c scheme h entries run pegged = has_times h (made scheme h run) entries pegged
