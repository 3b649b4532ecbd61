use Rattle.std.proofs.Common.{◌≤◌}
use Rattle.tree_bench.proofs.bench.built.Given as goal

abbrev pub invariant-loop : goal.invariant-loop
invariant-loop l = l.tree.size ≤ l.leaves
