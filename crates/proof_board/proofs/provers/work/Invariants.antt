use Rattle.std.proofs.Common.{◌≡◌, ◌≤◌}
use Rattle.proof_board.specs.History.{Digests, all_leaves}
use Rattle.proof_board.specs.Growing.{IsListOf}
use Rattle.proof_board.specs.Words.{IsPassOf, base_in, seen_by}
use Rattle.proof_board.specs.Returning.{GoesOn}
use Rattle.proof_board.proofs.provers.work.Given as goal

abbrev pub invariant-loop-k : goal.invariant-loop-k
invariant-loop-k g l = record {
  board : IsPassOf l.board l.pass;
  goes : GoesOn l.fn.pass l.pass;
  few : l.accepted ≤ l._k;
  accepted : (ds : Digests) → IsListOf (base_in l.fn.pass) (all_leaves (seen_by l.fn.pass).log) ds → l.accepted ≡ l._k;
}
