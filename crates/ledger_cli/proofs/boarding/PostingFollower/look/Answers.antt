use Rattle.std.proofs.Common.{◌≡◌, ◌+◌, inl, inr, length, refl, ap, sym, ◌∙◌, arith, true≢false}
use Rattle.proof_board.proofs.Paired.{none_left}
use Rattle.proof_board.specs.Words.{shown_by}
use Rattle.ledger_cli.specs.Beside.{posted_by}
use Rattle.ledger_cli.specs.Boards.{board_limit, published_size}
use Rattle.ledger_cli.proofs.FollowLaws.{look_follows, posted_same, shown_or_new}
use Rattle.ledger_cli.proofs.boarding.PostingFollower.look.Goals.{then-self-via-then-self, then-self-via-else-self+then-unsealed-ne0}
use Rattle.ledger_cli.proofs.boarding.PostingFollower.look.Goals as goal

pub returns-then-self-end-clause-follows : goal.returns-then-self-end-clause-follows
returns-then-self-end-clause-follows g c = λ first h k serves blocks next f.
    let old = c.args.self.now in
    let none : length k.waiting ≡ 0 = (let n = c.unsealed.ensures.count k serves.stands in omega (arith, n, c.if-unsealed-ne0.false)) in
    let limited : old.limit ≡ (shown_by old.writer).base.floor + board_limit = old.limited in
    let sized : old.size ≡ published_size (shown_by old.writer) = old.sized in
    look_follows first h k old c.publish_to.new.self c.tree.result.now c.last_end-end.result next f c.publish_to.ensures.same c.publish_to.ensures.published
    (c.last_end-end.ensures.ended c.if-self-end.true k serves blocks (none_left k.waiting none)) (let few = c.last_end-end.ensures.few c.if-self-end.true in omega (arith, few, limited))
    (λ n e few. elim (shown_or_new first h k (posted_by old) (posted_by old) next f refl c.if-self.false n e few) [
      | inl shown ↦ omega (arith, shown, sized, c.if-self-end.true)
      | inr new ↦ c.last_end-end.ensures.most k serves n new.1 (omega (arith, few, limited))
    ])

pub returns-else-self-end-clause-follows : goal.returns-else-self-end-clause-follows
returns-else-self-end-clause-follows g c = λ first h k serves blocks next f.
    let old = c.args.self.now in
    let limited : old.limit ≡ (shown_by old.writer).base.floor + board_limit = old.limited in
    let sized : old.size ≡ published_size (shown_by old.writer) = old.sized in
    posted_same first h k (posted_by old) (posted_by old) next f refl refl f.none_waits
    (λ no n e few. elim (shown_or_new first h k (posted_by old) (posted_by old) next f refl no n e few) [
      | inl shown ↦ shown
      | inr new ↦ (let most = c.last_end-end.ensures.most k serves n new.1 (omega (arith, few, limited)) in omega (arith, most, sized, c.if-self-end.false))
    ])

-- nothing was looked at, as memory was missing before, or a journal waits
pub returns-then-self-clause-follows : goal.returns-then-self-clause-follows
returns-then-self-clause-follows g c = λ first h k serves blocks next f.
    let old = c.args.self.now in
    posted_same first h k (posted_by old) (posted_by old) next f refl refl f.none_waits
    (λ no n e few. elim (shown_or_new first h k (posted_by old) (posted_by old) next f refl no n e few) [
      | inl shown ↦ shown
      | inr new ↦ absurd (elim c.then-self.branch [
        | then-self-via-then-self w ↦ true≢false (sym w.if-self.true ∙ no)
        | then-self-via-else-self+then-unsealed-ne0 w ↦ w.if-unsealed-ne0.true (w.unsealed.ensures.count k serves.stands ∙ ap length new.0)
      ])
    ])
