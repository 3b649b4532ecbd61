use Rattle.std.proofs.Common.{arith, []}
use Rattle.merkle_batch.proofs.Keeping.{none_room, none_counts, new_stands}
use Rattle.merkle_batch.proofs.Over.{over_new}
use Rattle.merkle_batch.proofs.Standing.{over_some_of}
use Rattle.merkle_batch.proofs.tree.Tree.new.Goals as goal

pub invariant_of-result : goal.invariant_of-result
invariant_of-result g c = (omega arith, none_counts c.new.result.items c.new.ensures.items, none_room c.new.result.items c.new.ensures.items, omega arith, over_some_of g.H.TreeHash.of _ 0 [] [] (over_new g.H.TreeHash.of c.new.result.items c.new.ensures.items))

pub returns-clause-stands : goal.returns-clause-stands
returns-clause-stands g c = new_stands g.H.TreeHash.of c.new.result.items c.new.ensures.items

pub returns-clause-over : goal.returns-clause-over
returns-clause-over g c = over_new g.H.TreeHash.of c.new.result.items c.new.ensures.items
