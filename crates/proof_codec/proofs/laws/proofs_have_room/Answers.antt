use Rattle.proof_codec.proofs.Breaks.{length-proof, length-million, length-most}
use Rattle.proof_codec.proofs.laws.proofs_have_room.Goals as goal

pub returns-clause-len : goal.returns-clause-len
returns-clause-len c = length-proof

pub returns-clause-million : goal.returns-clause-million
returns-clause-million c = length-million

pub returns-clause-most : goal.returns-clause-most
returns-clause-most c = length-most
