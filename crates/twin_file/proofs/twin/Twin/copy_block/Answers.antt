use Rattle.std.proofs.Common.{true, false}
use Rattle.twin_file.proofs.OpenLaws.{stays_copying}
use Rattle.twin_file.proofs.twin.Twin.copy_block.Goals as goal

pub returns-then-self-clause-copying : goal.returns-then-self-clause-copying
returns-then-self-clause-copying g c told = stays_copying true _ _ _ _ c.if-self.true (c.extend.ensures.same told) (c.extend.ensures.veiled told)

pub returns-else-self-clause-copying : goal.returns-else-self-clause-copying
returns-else-self-clause-copying g c told = stays_copying false _ _ _ _ c.if-self.false (c.extend-else-self.ensures.same told) (c.extend-else-self.ensures.veiled told)
