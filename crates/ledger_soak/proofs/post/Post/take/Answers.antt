use Rattle.std.specs.Prelude.{Some}
use Rattle.std.proofs.Common.{inl, refl, ap, sym, ◌∙◌}
use Rattle.batch_committer.specs.World.{pair, world}
use Rattle.ledger_io.specs.Memory.{sink_state}
use Rattle.ledger_soak.specs.Posts.{Posted, fused_disk, notary_state}
use Rattle.ledger_soak.proofs.PostLaws.{stopped_by}
use Rattle.ledger_soak.proofs.StopLaws.{window_taken, window_stopped, taking_stopped}
use Rattle.ledger_soak.proofs.post.Post.take.Goals as goal
use Rattle.ledger_soak.proofs.post.Post.take.Goals.{in-Ok-flush, in-Err-flush}

pub returns-clause-ok : goal.returns-clause-ok
returns-clause-ok c =
    let i = c.self.inside in
    let before = world i.committer.kept (pair (fused_disk i.a) (fused_disk i.b)) (sink_state i.sink) in
    let sink = sink_state c.in_ok-self-inside.field-0 in
    let mid = world c.offer.new.self.kept (pair (fused_disk c.offer.new.a) (fused_disk c.offer.new.b)) (sink_state c.offer.new.sink) in
    let now = world c.flush.new.self.kept (pair (fused_disk c.flush.new.a) (fused_disk c.flush.new.b)) (sink_state c.flush.new.sink) in
    let view = ap (λ (p : Posted). p.world) c.self.view_is in
    let taken = rw (c.requires.line.0, c.requires.line.1) at c.in-Ok.ensures.ok in
    elim c.match-flush.branch [
      | in-Ok-flush w ↦
          rw (w.result-is, sym view) (
            taken.0,
            λ line. window_taken before sink mid now (notary_state c.args.notary.now) (notary_state c.offer.new.notary) c.args.item.job taken.0 line (taken.1 line) w.in-Ok-flush.ensures.ok
                (ap (λ (p : Posted). p.world.kept.dues) c.self.view_is ∙ c.requires.dues) w.in-Ok-flush.ensures.dues (ap Some c.in_ok-self-inside.ensures) c.flush.new.sink.held refl,
          )
      | in-Err-flush w ↦ rw w.result-is tt
    ]

pub returns-clause-err : goal.returns-clause-err
returns-clause-err c =
    let i = c.self.inside in
    let before = world i.committer.kept (pair (fused_disk i.a) (fused_disk i.b)) (sink_state i.sink) in
    let sink = sink_state c.in_ok-self-inside.field-0 in
    let mid = world c.offer.new.self.kept (pair (fused_disk c.offer.new.a) (fused_disk c.offer.new.b)) (sink_state c.offer.new.sink) in
    let now = world c.flush.new.self.kept (pair (fused_disk c.flush.new.a) (fused_disk c.flush.new.b)) (sink_state c.flush.new.sink) in
    let view = ap (λ (p : Posted). p.world) c.self.view_is in
    let taken = rw (c.requires.line.0, c.requires.line.1) at c.in-Ok.ensures.ok in
    let stored = (c.self.invariant (ap (λ (p : Posted). p.ended) c.self.view_is ∙ c.requires.open)).0.clear (ap (λ (p : Posted). p.world.kept.dues) c.self.view_is ∙ c.requires.dues) in
    elim c.match-flush.branch [
      | in-Ok-flush w ↦ rw w.result-is tt
      | in-Err-flush w ↦
          rw w.result-is (λ stopped.
          let ended = rw (stopped_by w.in-Err-flush.end (sym w.from-in-Err-flush.ensures ∙ stopped)) at (w.in-Err-flush.ensures.err c.in-Ok.ensures.ended) in
          rw (sym view) (inl (
            taken.0,
            λ line. window_stopped before sink mid now (notary_state c.args.notary.now) (notary_state c.offer.new.notary) c.args.item.job taken.0 line (taken.1 line) stored ended,
          )))
    ]

pub returns-in-Err-clause-err : goal.returns-in-Err-clause-err
returns-in-Err-clause-err c = λ stopped.
    let i = c.self.inside in
    let before = world i.committer.kept (pair (fused_disk i.a) (fused_disk i.b)) (sink_state i.sink) in
    let sink = sink_state c.in_ok-self-inside.field-0 in
    let now = world c.offer.new.self.kept (pair (fused_disk c.offer.new.a) (fused_disk c.offer.new.b)) (sink_state c.offer.new.sink) in
    let view = ap (λ (p : Posted). p.world) c.self.view_is in
    let open_now = ap (λ (p : Posted). p.ended) c.self.view_is ∙ c.requires.open in
    let stored = (c.self.invariant open_now).0.clear (ap (λ (p : Posted). p.world.kept.dues) c.self.view_is ∙ c.requires.dues) in
    let ends = rw (c.requires.line.0, c.requires.line.1, stopped_by c.in-Err.end (sym c.from.ensures ∙ stopped)) at (c.in-Err.ensures.err open_now) in
    rw (sym view) (taking_stopped before sink now (notary_state c.args.notary.now) (notary_state c.offer.new.notary) c.args.item.job stored ends)
