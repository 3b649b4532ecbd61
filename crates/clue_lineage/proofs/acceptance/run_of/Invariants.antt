use Rattle.std.proofs.Common.{◌≡◌, length}
use Rattle.clue_lineage.specs.Accepting.{last_ordinal, run_of}
use Rattle.clue_lineage.proofs.acceptance.run_of.Given as goal

abbrev pub invariant-loop-item : goal.invariant-loop-item
invariant-loop-item l = last_ordinal l.last l.rest ≡ (run_of l.items).last

abbrev pub decreases-loop-item : goal.decreases-loop-item
decreases-loop-item l = length l.rest
