use Rattle.proof_maker.proofs.WrittenLaws.{good_windows}
use Rattle.proof_maker.proofs.laws.written_proofs_are_accepted.Goals as goal

pub returns : goal.returns
returns c = good_windows
