use Rattle.std.proofs.Common.{◌≡◌, length}
use Rattle.std.specs.List.{list_all}
use Rattle.clue_lineage.specs.Accepting.{leads}
use Rattle.clue_lineage.proofs.acceptance.all_lead.Given as goal

abbrev pub invariant-loop-item : goal.invariant-loop-item
invariant-loop-item g l = list_all (leads g.H.TreeHash.of l.head) l.rest ≡ list_all (leads g.H.TreeHash.of l.head) l.items

abbrev pub decreases-loop-item : goal.decreases-loop-item
decreases-loop-item g l = length l.rest
