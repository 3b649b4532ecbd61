use Rattle.std.proofs.Common.{◌≡◌, ◌++◌, take}
use Rattle.pseudo_genesis.specs.Bases.{states_text}
use Rattle.pseudo_genesis.proofs.writing.put_states.Given as goal

abbrev pub invariant-loop-state : goal.invariant-loop-state
invariant-loop-state l = l.writer ≡ l.fn.writer ++ states_text (take l.state-index l.states)
