use Rattle.honest_dump.proofs.Facts.{made}
use Rattle.honest_dump.proofs.Dumped.{dump_fits}
use Rattle.honest_dump.proofs.laws.dumps_of_runs_are_dumps.Goals as goal

pub returns : goal.returns
returns c scheme h entries run pegged = dump_fits h (made scheme h run) entries pegged
