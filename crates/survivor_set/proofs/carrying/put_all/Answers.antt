use Rattle.std.proofs.Common.{subst, ℕ}
use Rattle.survivor_set.specs.Carries.{PutsCarried}
use Rattle.survivor_set.proofs.Growth.{puts_more}
use Rattle.survivor_set.proofs.carrying.put_all.Goals as goal

pub loop-i-preserved : goal.loop-i-preserved
loop-i-preserved c =
    puts_more c.args.tree.now c.args.set.now.point c.args.point c.args.set.now.survivors c.loop-i.i c.survivor.result c.args.fields.now c.loop-i.fields c.put_carried.new.fields c.survivor.ensures.is c.loop-i.invariant
    (subst (λ (p : ℕ). PutsCarried c.args.tree.now p c.args.point c.survivor.result c.loop-i.fields c.put_carried.new.fields) c.point.ensures c.in_ok-put_carried.ensures)
