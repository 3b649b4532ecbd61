use Rattle.std.proofs.Common.{take}
use Rattle.survivor_set.specs.Carries.{PutsAll}
use Rattle.survivor_set.proofs.carrying.put_all.Given as goal

abbrev pub invariant-loop-i : goal.invariant-loop-i
invariant-loop-i l = PutsAll l.tree l.set.point l.point l.set.survivors (take l.i l.set.survivors) l.fn.fields l.fields
