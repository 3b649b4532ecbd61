use Rattle.std.proofs.Common.{◌≡◌, List, Ok, length, map, take, vec_items}
use Rattle.proof_board.specs.declared.hands.Tally.{Tally}
use Rattle.ledger_cli.specs.Boards.{prover_lines}
use Rattle.ledger_cli.proofs.tallies.spell_tallies.Given as goal

abbrev pub invariant-loop-k : goal.invariant-loop-k
invariant-loop-k l = (tallies : List Tally) × (length tallies ≡ l.k) × (take l.k l.results ≡ map Ok tallies) × (vec_items l.text ≡ prover_lines 0 tallies)
