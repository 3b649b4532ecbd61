use Rattle.honest_dump.proofs.Facts.{made}
use Rattle.honest_dump.proofs.Order.{dump_whole}
use Rattle.honest_dump.proofs.laws.shown_journals_are_whole.Goals as goal

pub returns : goal.returns
returns c scheme h entries run = dump_whole h (made scheme h run) entries
