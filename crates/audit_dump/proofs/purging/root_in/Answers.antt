use Rattle.std.proofs.Common.{subst, sym, arith, ◌∙◌}
use Rattle.merkle_batch.specs.Rows.{Levels}
use Rattle.ledger_book.specs.Reading.{HasLeaves}
use Rattle.audit_dump.proofs.Roots.{leaves_count}
use Rattle.audit_dump.proofs.purging.root_in.Goals as goal

pub returns : goal.returns
returns c start before stands within =
    let leaves : HasLeaves start c.tree.result.now before = subst (λ (t : Levels). HasLeaves start t before) (sym c.tree.ensures.is) stands.leaves in
    c.root_below.ensures start before leaves (c.tree.ensures.floor ∙ stands.floor) (omega (arith, within, leaves_count start before c.tree.result.now leaves))
