use Rattle.std.specs.Int.{w32, w64, to_be_bytes}
use Rattle.pseudo_genesis.proofs.Pieces.{three_pieces}
use Rattle.pseudo_genesis.proofs.writing.put_state.Goals as goal

pub returns : goal.returns
returns c =
    let s = c.args.state.now in
    three_pieces c.put_u64.result c.args.writer.now s.clue.0 (to_be_bytes w32 s.count) (to_be_bytes w64 s.last) c.put_slice.new.self c.put_u32.new.self c.put_u64.new.self
    c.in_ok-put_slice.ensures.ok c.in_ok-put_u32.ensures.ok c.put_u64.ensures.ok
