use Rattle.std.proofs.Common.{◌≤◌, sym, ◌∙◌, arith}
use Rattle.ledger_book.specs.Books.{leaf_digests}
use Rattle.ledger_model.specs.History.{point}
use Rattle.ledger_soak.proofs.LeafLaws.{lost_found, lost_absent}
use Rattle.ledger_soak.proofs.TreeLaws.{leaf_within, leaf_beyond}
use Rattle.ledger_soak.proofs.receipts.Receipt.is_lost.Goals as goal

pub returns-in-Ok : goal.returns-in-Ok
returns-in-Ok c h serves =
    let r = c.args.self.now in
    let kept : point h ≤ r.jsn = omega (arith, c.if-self-point.false, c.point.ensures.point h serves) in
    let there = leaf_within c.args.book.now c.tree.result.now c.tree.ensures.stands c.tree.ensures.floor h serves r.jsn kept c.leaf.result c.in-Ok.leaf c.in-Ok.is c.leaf.ensures.beyond in
    c.ne.ensures ∙ sym (lost_found h r kept c.in-Ok.leaf there (c.in-Ok.ensures.leaf (leaf_digests h) (c.tree.ensures.stands h serves.stands)))

pub returns-in-Err : goal.returns-in-Err
returns-in-Err c h serves =
    let r = c.args.self.now in
    let kept : point h ≤ r.jsn = omega (arith, c.if-self-point.false, c.point.ensures.point h serves) in
    sym (lost_absent h r kept (leaf_beyond c.args.book.now c.tree.result.now c.tree.ensures.stands c.tree.ensures.floor h serves r.jsn kept c.leaf.result c.in-Err.field-0 c.in-Err.is c.leaf.ensures.ok))
