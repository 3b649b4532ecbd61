use Rattle.std.proofs.Common.{ap, sym}
use Rattle.ledger_soak.specs.Posts.{Posted}
use Rattle.ledger_soak.proofs.post.Post.offer.Goals as goal
use Rattle.ledger_soak.proofs.post.Post.offer.Goals.{in-Ok, in-Err}

pub returns-clause-ok : goal.returns-clause-ok
returns-clause-ok c =
    let view = ap (λ (p : Posted). p.world) c.self.view_is in
    elim c.match-offer.branch [
      | in-Ok w ↦ rw (w.result-is, sym view) (rw w.in-Ok.is at c.offer.ensures.ok)
      | in-Err w ↦ rw w.result-is tt
    ]
