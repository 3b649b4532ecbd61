use Rattle.proof_codec.proofs.Pieces.{five_pieces}
use Rattle.std.specs.Int.{w64, to_be_bytes}
use Rattle.std.proofs.Common.{[], ◌∷◌}
use Rattle.survivor_set.specs.Sets.{magic, front_text}
use Rattle.survivor_set.proofs.writing.put_front.Goals as goal

pub returns : goal.returns
unfolding front_text
returns c =
    five_pieces c.put_u8.result c.args.fields.now magic c.args.id.now.0 (to_be_bytes w64 c.args.point) c.args.root.now.0 (c.args.count ∷ [])
    c.put_slice.new.self c.put_slice-2.new.self c.put_u64.new.self c.put_slice-3.new.self c.put_u8.new.self
    c.in_ok-put_slice.ensures.ok c.in_ok-put_slice-2.ensures.ok c.in_ok-put_u64.ensures.ok c.in_ok-put_slice-3.ensures.ok c.put_u8.ensures.ok
