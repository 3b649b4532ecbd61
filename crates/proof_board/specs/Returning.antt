-- What a prover hands back.
use Rattle.std.specs.Prelude.{◌≡◌, ℕ, IfOk}
use mathlib.Core.List.{IsPrefix}
use Rattle.proof_board.specs.History.{Digests, all_leaves}
use Rattle.proof_board.specs.Growing.{IsListOf}
use Rattle.proof_board.specs.declared.board.Board.{Board}
use Rattle.proof_board.specs.declared.pass.ProverPass.{ProverPass}
use Rattle.proof_board.specs.declared.hands.Tally.{Tally}
use Rattle.proof_board.specs.declared.hands.Returned.{Returned}
use Rattle.proof_board.specs.Words.{told_to, seen_by, base_in, size_seen, IsPassOf}

-- a pass goes on: it sees the same base, was told the same, and has seen no less of the history
pub record GoesOn (p q : ProverPass) : Type 0 where
  pub base : base_in q ≡ base_in p
  pub told : told_to q ≡ told_to p
  pub seen : IsPrefix (seen_by p).log (seen_by q).log

-- what a prover did with a pass that came to be another: where there is a list that the pass stood for at first, so many proofs
-- were accepted, each one that it was to make; and the size is the one seen last
pub record IsTallyOf (p q : ProverPass) (count : ℕ) (tally : Tally) : Type 0 where
  pub accepted : (ds : Digests) → IsListOf (base_in p) (all_leaves (seen_by p).log) ds → tally.accepted ≡ count
  pub size : tally.size ≡ size_seen q

-- a prover was given this pass of this board, and hands back one that went on from it, with what it did, unless it lacked
-- memory
pub record Returns (b : Board) (p : ProverPass) (count : ℕ) (r : Returned) : Type 0 where
  pub board : IsPassOf b r.pass
  pub goes : GoesOn p r.pass
  pub tally : IfOk r.tally (IsTallyOf p r.pass count)
