use Rattle.std.proofs.Common.{length, arith}
use Rattle.survivor_set.proofs.Wholes.{behind}
use Rattle.survivor_set.specs.Reading.{survivors_in}
use Rattle.survivor_set.proofs.reading.survivor.Goals as goal

pub nth-requires : goal.nth-requires
nth-requires c = (behind c.args.bytes.now c.requires.0 (λ i. omega (arith, c.type_inv.bytes i)) c.requires.1).within

pub returns-clause-is : goal.returns-clause-is
returns-clause-is c =
    let b = behind c.args.bytes.now c.requires.0 (λ i. omega (arith, c.type_inv.bytes i)) c.requires.1 in
    c.nth.ensures.is (length (survivors_in c.args.bytes.now)) (survivors_in c.args.bytes.now, b.end) b.are (omega (arith, c.requires.1.count_is, c.requires.2))
