use Rattle.proof_codec.proofs.Wholes.{written_again}
use Rattle.proof_codec.proofs.Breaks.{written_len}
use Rattle.proof_codec.proofs.proof.Proof.encode.Goals as goal

pub returns-clause-len : goal.returns-clause-len
returns-clause-len c = written_len c.args.self.now c.write.result c.requires.fields c.write.ensures

pub returns-clause-again : goal.returns-clause-again
returns-clause-again c = written_again c.args.self.now c.write.result c.requires c.write.ensures
