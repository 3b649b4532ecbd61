use Rattle.std.proofs.Common.{◌≡◌, ◌≤◌, length, map}
use Rattle.std.specs.Map.Iter.{deref_pair}
use Rattle.clue_index.specs.Added.{begun_states}
use Rattle.clue_index.proofs.StateLaws.{Fit, states_of}
use Rattle.clue_index.proofs.index.ClueIndex.state_at.Given as goal

abbrev pub invariant-loop-clue : goal.invariant-loop-clue
invariant-loop-clue l =
    let es = map deref_pair l.yielded in
    (length l.states.items ≤ length l.yielded) × (Fit l.p es → l.states.items ≡ begun_states (states_of l.p es))
