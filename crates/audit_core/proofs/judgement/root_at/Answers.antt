use Rattle.std.proofs.Common.{sym, ◌∙◌}
use Rattle.tree_model.specs.Tree.{cut}
use Rattle.audit_core.proofs.Judging.{own_is, own_not}
use Rattle.audit_core.proofs.judgement.root_at.Goals as goal

pub returns-then-size-piece_count : goal.returns-then-size-piece_count
returns-then-size-piece_count g c =
    own_is g.H.TreeHash.of (cut c.args.width c.args.flat.now) c.args.size c.mth.result (c.if-size-piece_count.true ∙ c.piece_count.ensures.cut) c.mth.ensures

pub returns-else-size-piece_count : goal.returns-else-size-piece_count
returns-else-size-piece_count g c =
    own_not g.H.TreeHash.of (cut c.args.width c.args.flat.now) c.args.size (λ is. c.if-size-piece_count.false (is ∙ sym c.piece_count.ensures.cut))
