use Rattle.std.proofs.Common.{[], ◌∷◌}
use Rattle.std.specs.Int.{w64, to_be_bytes}
use Rattle.pseudo_genesis.specs.Bases.{front_text}
use Rattle.pseudo_genesis.proofs.Pieces.{four_pieces}
use Rattle.pseudo_genesis.proofs.writing.put_front.Goals as goal

pub returns : goal.returns
unfolding front_text
returns c =
    let b = c.args.base.now in
    four_pieces c.put_u64-2.result c.args.writer.now (1 ∷ []) b.id.0 (to_be_bytes w64 b.point) (to_be_bytes w64 b.blocks) c.put_u8.new.self c.put_slice.new.self c.put_u64.new.self c.put_u64-2.new.self
    c.in_ok-put_u8.ensures.ok c.in_ok-put_slice.ensures.ok c.in_ok-put_u64.ensures.ok c.put_u64-2.ensures.ok
