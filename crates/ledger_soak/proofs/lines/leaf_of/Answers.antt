use Rattle.ledger_soak.proofs.TreeLaws.{leaf_kept, leaf_there}
use Rattle.ledger_soak.proofs.lines.leaf_of.Goals as goal

pub returns-in-Err : goal.returns-in-Err
returns-in-Err c h serves kept there =
    let stands = c.tree.ensures.stands in
    let ok = c.in-Err.ensures.ok
    (leaf_kept c.args.book.now c.tree.result.now stands c.tree.ensures.floor h serves c.args.n kept)
    (leaf_there c.args.book.now c.tree.result.now stands c.tree.ensures.floor h serves c.args.n there) in
    absurd cc
