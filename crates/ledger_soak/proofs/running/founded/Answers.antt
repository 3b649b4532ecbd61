use Rattle.std.specs.Prelude.{true}
use Rattle.std.proofs.Common.{subst}
use Rattle.batch_committer.specs.World.{Holds}
use Rattle.ledger_model.specs.Genesis.{new_ledger}
use Rattle.ledger_model.specs.declared.genesis.Genesis.{Genesis}
use Rattle.ledger_soak.proofs.running.founded.Goals as goal

pub returns : goal.returns
returns c =
    c.in_ok-place_members.ensures (subst (λ (g : Genesis). Holds true c.in_ok-post.post.world (new_ledger g)) c.in_ok-founders.ensures c.in_ok-post.ensures.holds)
