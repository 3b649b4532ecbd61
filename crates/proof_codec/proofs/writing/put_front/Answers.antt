use Rattle.std.proofs.Common.{◌≡◌, ◌++◌, subst}
use Rattle.std.specs.Prelude.{OnOk}
use Rattle.proof_codec.specs.Proofs.{Shown, front_text}
use Rattle.proof_codec.proofs.Pieces.{five_pieces}
use Rattle.proof_codec.proofs.writing.put_front.Goals as goal

pub returns : goal.returns
unfolding front_text
returns c =
    subst (λ (p : Shown). OnOk c.put_digests.result (c.put_digests.new.writer ≡ c.args.writer.now ++ front_text p)) c.proof.view_is
    (five_pieces c.put_digests.result _ _ _ _ _ _ _ _ _ _ _ c.in_ok-put_u8.ensures.ok c.in_ok-put_u64.ensures.ok c.in_ok-put_u64-2.ensures.ok c.in_ok-put_slice.ensures.ok c.put_digests.ensures)
