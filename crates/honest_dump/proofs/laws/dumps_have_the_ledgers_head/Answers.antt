use Rattle.honest_dump.proofs.Facts.{made}
use Rattle.honest_dump.proofs.Heads.{has_ledger_head}
use Rattle.honest_dump.proofs.laws.dumps_have_the_ledgers_head.Goals as goal

pub returns : goal.returns
returns c scheme h entries run = has_ledger_head h (made scheme h run) entries
