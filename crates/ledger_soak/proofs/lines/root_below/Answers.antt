use Rattle.std.proofs.Common.{ap, ◌∙◌, arith}
use Rattle.ledger_bytes.specs.Digests.{digest}
use Rattle.ledger_book.specs.Books.{leaf_digests}
use Rattle.ledger_soak.proofs.TreeLaws.{leaf_kept, size_told, root_before}
use Rattle.ledger_soak.proofs.lines.root_below.Goals as goal

pub returns-in-Ok : goal.returns-in-Ok
returns-in-Ok c h serves kept there = ap digest (c.in-Ok.ensures.root (leaf_digests h) (c.tree.ensures.stands h serves.stands) ∙ root_before h c.args.n)

pub returns-in-Err : goal.returns-in-Err
returns-in-Err c h serves kept there =
    let stands = c.tree.ensures.stands in
    let ok = c.in-Err.ensures.ok
    (leaf_kept c.args.book.now c.tree.result.now stands c.tree.ensures.floor h serves c.args.n kept)
    (omega (arith, there, size_told c.args.book.now c.tree.result.now stands c.tree.ensures.floor h serves)) in
    absurd cc
