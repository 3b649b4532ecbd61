use Rattle.std.proofs.Common.{arith}
use Rattle.hex.proofs.HexLemmas.{decode_of-ok}
use Rattle.script_lines.proofs.spellings.read_bytes.Goals as goal

pub returns-in-Ok-clause-long : goal.returns-in-Ok-clause-long
returns-in-Ok-clause-long c =
    let decoded = decode_of-ok c.args.text.now c.in-Ok.bytes.items c.in-Ok.ensures.ok in
    rw c.of-in-Ok.ensures (omega (arith, decoded.2))
