use Rattle.ledger_open.proofs.AheadLaws.{same_blocks}
use Rattle.ledger_open.proofs.ahead.hash_all.Goals as goal

pub returns-clause-blocks : goal.returns-clause-blocks
returns-clause-blocks c = same_blocks c.args.blocks.now c.loop-index.blocks c.loop-index.invariant.size c.loop-index.invariant.same
