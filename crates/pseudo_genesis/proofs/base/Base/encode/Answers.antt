use Rattle.pseudo_genesis.proofs.Wholes.{written_again}
use Rattle.pseudo_genesis.proofs.base.Base.encode.Goals as goal

pub returns-clause-again : goal.returns-clause-again
returns-clause-again c = λ rules widths. written_again c.args.self.now c.write.result rules widths c.write.ensures
