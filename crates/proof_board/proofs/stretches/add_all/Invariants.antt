use Rattle.std.proofs.Common.{◌≡◌, ℕ, ◌+◌, List, ◌++◌, length, take}
use Rattle.sha2.specs.Sha256.{sha256}
use Rattle.merkle_batch.specs.Over.{StandsOver}
use Rattle.merkle_batch.specs.Rows.{StandsFor}
use Rattle.proof_board.specs.History.{leaves_of}
use Rattle.proof_board.proofs.stretches.add_all.Given as goal

abbrev pub invariant-loop-stretch : goal.invariant-loop-stretch
invariant-loop-stretch l =
    ((ds : List (List ℕ)) → StandsFor sha256 l.fn.tree ds → StandsFor sha256 l.tree (ds ++ leaves_of (take l.stretch-index l.stretches)))
    × ((p : ℕ) (ps xs : List (List ℕ)) → StandsOver sha256 l.fn.tree p ps xs → StandsOver sha256 l.tree p ps (xs ++ leaves_of (take l.stretch-index l.stretches)))
    × (l.tree.size ≡ l.fn.tree.size + length (leaves_of (take l.stretch-index l.stretches))) × (l.tree.floor ≡ l.fn.tree.floor)
    × (l.tree.spare + length (leaves_of (take l.stretch-index l.stretches)) ≡ l.fn.tree.spare)
