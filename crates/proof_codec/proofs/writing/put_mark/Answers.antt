use Rattle.proof_codec.specs.Proofs.{mark_text}
use Rattle.proof_codec.proofs.Pieces.{three_pieces}
use Rattle.proof_codec.proofs.writing.put_mark.Goals as goal

pub returns : goal.returns
unfolding mark_text
returns c = three_pieces c.put_u64-3.result _ _ _ _ _ _ _ c.in_ok-put_u64.ensures.ok c.in_ok-put_u64-2.ensures.ok c.put_u64-3.ensures.ok
