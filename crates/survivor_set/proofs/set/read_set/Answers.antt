use Rattle.std.proofs.Common.{sym, arith, Ok}
use Rattle.survivor_set.specs.Reading.{set_with, survivors_in}
use Rattle.survivor_set.proofs.Wholes.{set_found}
use Rattle.survivor_set.proofs.set.read_set.Goals as goal

pub invariant_of-result : goal.invariant_of-result
invariant_of-result c =
    let f = c.in_ok-front.ensures in
    let is = set_found c.args.bytes.now (Ok (set_with c.in_ok-front.front (survivors_in c.args.bytes.now))) (λ i. omega (arith, c.type_inv.bytes i)) (sym f.set_is) in
    (f.set_is, f.count_is, f.some, f.few, is.0)
