use Rattle.std.proofs.Common.{◌≢◌, take}
use Rattle.std.specs.List.{All}
use Rattle.std.specs.Prelude.{◌≤◌}
use Rattle.std.specs.BTreeMap.{btree_map_len}
use Rattle.clue_index.specs.Added.{added_at_first, no_clue}
use Rattle.clue_index.specs.Index.{StandsForTrails}
use Rattle.clue_index.proofs.index.ClueIndex.from_states.Given as goal

abbrev pub invariant-loop-state : goal.invariant-loop-state
invariant-loop-state l =
    (btree_map_len l.slots ≤ l.state-index) × (All (λ s. s.clue.0 ≢ no_clue) l.states → StandsForTrails (record { trails = l.slots.entries; floor = 0 }) (added_at_first (take l.state-index l.states)))
