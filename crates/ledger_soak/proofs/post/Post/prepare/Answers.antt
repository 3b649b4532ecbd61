use Rattle.std.proofs.Common.{ℕ, List, ap, subst, sym, ◌∙◌}
use Rattle.batch_committer.specs.World.{Keeps}
use Rattle.journal_record.specs.Tags.{tag_key_of}
use Rattle.ledger_model.specs.History.{id}
use Rattle.ledger_model.specs.Rules.{job_of}
use Rattle.ledger_soak.specs.Posts.{Posted}
use Rattle.ledger_soak.proofs.post.Post.prepare.Goals as goal

pub returns-clause-job : goal.returns-clause-job
returns-clause-job c = λ h keeps.
    c.in_ok-item.ensures.job
    ∙ ap (λ (bytes : List ℕ). job_of tag_key_of bytes c.as_slice.result.now) (c.id-id.ensures h (subst (λ (p : Posted). Keeps p.world.kept h) (sym c.self.view_is) keeps))
    ∙ ap (λ (text : List ℕ). job_of tag_key_of (id h) text) c.as_slice.ensures
