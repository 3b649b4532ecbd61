-- What a board answers.
use Rattle.std.specs.Prelude.{◌≡◌, ℕ, ◌+◌, ◌<◌, ◌≤◌, List, length, Result, Ok, Err}
use Rattle.sha2.specs.Sha256.{sha256}
use Rattle.tree_model.specs.Tree.{root}
use Rattle.merkle_tree.specs.declared.head.Head.{Head}
use Rattle.proof_board.specs.History.{Digests, all_leaves}
use Rattle.proof_board.specs.Bare.{IsProved}
use Rattle.proof_board.specs.Growing.{IsListOf}
use Rattle.proof_board.specs.declared.view.Base.{Base}
use Rattle.proof_board.specs.declared.view.Growth.{Growth}
use Rattle.proof_board.specs.declared.board.BoardErr.{BoardErr}
use Rattle.proof_board.specs.declared.board.BoardErr.TheVariants as board_err

-- the head of the tree over a base and leaves: their number, and the root of each list that they may be the end of
pub record IsShownHead (g : Growth) (head : Head) : Type 0 where
  pub size : head.size ≡ g.base.floor + length g.leaves
  pub root_is : (ds : Digests) → IsListOf g.base g.leaves ds → head.root.0 ≡ root sha256 ds

-- the answer to one who asks for leaf n of the tree over a base and these leaves: a head of just this size with the proof of
-- the leaf, that it lies below the base, or that it isn't there yet, with the tree's size; for want of memory no proof is made
abbrev pub AnswersOver : Base → Digests → ℕ → Result (Head × List ℕ) BoardErr → Type 0
AnswersOver base leaves n (Ok made) =
    (base.floor ≤ n) × (n < base.floor + length leaves) × (made.0.size ≡ base.floor + length leaves)
    × ((ds : Digests) → IsListOf base leaves ds → IsProved ds n made.0 made.1)
AnswersOver base leaves n (Err (board_err.Below p)) = (n < base.floor) × (p ≡ base.floor)
AnswersOver base leaves n (Err (board_err.Beyond size)) = (base.floor ≤ n) × (size ≤ n) × (size ≡ base.floor + length leaves)
AnswersOver base leaves n (Err board_err.NoMemory) = (base.floor ≤ n) × (n < base.floor + length leaves)

-- the answer over the leaves of these batches
abbrev pub Answers : Base → List Digests → ℕ → Result (Head × List ℕ) BoardErr → Type 0
Answers base log n r = AnswersOver base (all_leaves log) n r
