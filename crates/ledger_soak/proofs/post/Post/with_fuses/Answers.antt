use Rattle.std.proofs.Common.{ap, ◌∙◌}
use Rattle.batch_committer.specs.World.{pair}
use Rattle.ledger_disk.specs.Memory.{memory_state, told_len}
use Rattle.ledger_io.specs.Memory.{sink_state}
use Rattle.ledger_soak.specs.Posts.{fused_disk}
use Rattle.ledger_soak.proofs.PostLaws.{fits_same}
use Rattle.ledger_soak.proofs.post.Post.with_fuses.Goals as goal

pub invariant_of-result : goal.invariant_of-result
invariant_of-result c = λ open_now.
    let i = c.self.inside in
    let both = c.self.invariant open_now in
    let a = c.new.ensures.inner ∙ c.into_inner.ensures in
    let b = c.new-2.ensures.inner ∙ c.into_inner-2.ensures in (
      fits_same i.committer.kept (pair (fused_disk i.a) (fused_disk i.b)) (pair (fused_disk c.new.result) (fused_disk c.new-2.result)) (sink_state i.sink) (ap memory_state a) (ap told_len a) (ap memory_state b) (ap told_len b) both.0,
      both.1,
    )
