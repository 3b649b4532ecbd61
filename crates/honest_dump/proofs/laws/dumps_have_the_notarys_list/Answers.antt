use Rattle.honest_dump.proofs.Facts.{made}
use Rattle.honest_dump.proofs.Heads.{has_notary_list}
use Rattle.honest_dump.proofs.laws.dumps_have_the_notarys_list.Goals as goal

pub returns : goal.returns
returns c scheme h entries run pegged = has_notary_list h (made scheme h run) entries pegged
