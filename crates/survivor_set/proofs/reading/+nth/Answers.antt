use Rattle.std.proofs.Common.{arith, subst}
use Rattle.survivor_set.proofs.Wholes.{DeeperIs, nth_is}
use Rattle.survivor_set.specs.Reading.{from_place}
use Rattle.survivor_set.proofs.reading.+nth.Goals as goal

pub returns-clause-is : goal.returns-clause-is
returns-clause-is t c = λ count xs all within. nth_is c.args.bytes.now count c.args.i c.args.last (from_place c.args.at c.args.bytes.now) c.in-Ok.survivor c.in-Ok.next xs c.nth.result all within (omega (arith, c.if-i-eq0.false)) c.in-Ok.ensures.read.0 (subst (λ n. DeeperIs c.args.bytes.now c.in-Ok.next n c.args.i c.nth.result) c.number.ensures c.nth.ensures.is)
