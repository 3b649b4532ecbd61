use Rattle.std.proofs.Common.{sym, ap, arith, length}
use Rattle.std.proofs.lemmas.Option.{slice_get_past}
use Rattle.survivor_set.specs.Sets.{SavedSet}
use Rattle.survivor_set.proofs.set.Set.get.Goals as goal

pub survivor-requires : goal.survivor-requires
survivor-requires c =
    let s = c.self.inside in
    let inv = c.self.invariant in
    (record { id = s.id; point = s.point; root = s.root; count = s.count }, record { set_is = inv.0; count_is = inv.1; some = inv.2; few = inv.3 }, c.if-i-self.true)

pub returns-else-i-self-clause-is : goal.returns-else-i-self-clause-is
returns-else-i-self-clause-is c = sym (slice_get_past c.args.self.now.survivors c.args.i (omega (arith, ap (λ (v : SavedSet). length v.survivors) c.self.view_is, c.self.invariant.1, c.if-i-self.false)))
