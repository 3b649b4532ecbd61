use Rattle.std.proofs.Common.{◌≡◌, ◌+◌, length}
use Rattle.clue_lineage.specs.Accepting.{first_stranger}
use Rattle.clue_lineage.proofs.acceptance.first_stranger.Given as goal

abbrev pub invariant-loop-item : goal.invariant-loop-item
invariant-loop-item l = record { so_far : first_stranger l.clue l.at l.rest ≡ first_stranger l.clue 0 l.items; number : l.at + length l.rest ≡ length l.items }

abbrev pub decreases-loop-item : goal.decreases-loop-item
decreases-loop-item l = length l.rest
