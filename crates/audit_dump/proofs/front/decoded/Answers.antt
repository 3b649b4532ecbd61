use Rattle.std.proofs.Common.{arith}
use Rattle.pseudo_genesis.specs.Reading.{base_of}
use Rattle.audit_dump.proofs.BaseReads.{base_near, told_bad}
use Rattle.audit_dump.proofs.front.decoded.Goals as goal

pub base_break-requires : goal.base_break-requires
base_break-requires c =
    let bad = told_bad c.decode.result (base_of c.args.bytes.now) c.in-Err.e c.in-Bad.bad c.in-Err.is c.in-Bad.is c.decode.ensures.exact in
    omega (arith, base_near c.args.bytes.now c.in-Bad.bad bad, c.requires)
