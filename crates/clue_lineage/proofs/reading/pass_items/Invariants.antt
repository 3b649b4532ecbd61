use Rattle.std.proofs.Common.{◌+◌, ◌*◌, ◌≤◌}
use Rattle.clue_lineage.proofs.Passing.{Passed}
use Rattle.clue_lineage.proofs.reading.pass_items.Given as goal

abbrev pub invariant-loop : goal.invariant-loop
invariant-loop l = record { passed : Passed l.fn.count l.at l.counter l.fn.reader l.reader; near : l.at ≤ 43 + 8335 * l.counter }
