-- What clauses say of a board, its writer and its passes.
use Rattle.std.specs.Prelude.{◌≡◌, ℕ, ◌+◌, length, List, [], ◌∷◌, ◌++◌, drop}
use Rattle.left_right.specs.Sides.{view}
use Rattle.proof_board.specs.History.{Digests, Mark, all_leaves, leaves_of}
use Rattle.proof_board.specs.declared.view.Base.{Base}
use Rattle.proof_board.specs.declared.view.Growth.{Growth}
use Rattle.proof_board.specs.declared.shown.Growing.{Growing}
use Rattle.proof_board.specs.declared.writer.BoardWriter.{BoardWriter}
use Rattle.proof_board.specs.declared.pass.ProverPass.{ProverPass}
use Rattle.proof_board.specs.declared.board.Board.{Board}

-- what a writer has published
abbrev pub shown_by : BoardWriter → Growth
shown_by w = w.writer.desk.shown.value

-- its batches
abbrev pub history_of : BoardWriter → List Digests
history_of w = (shown_by w).at.log

-- the leaves that were handed to the snapshot and aren't published
unfoldable pub leaves_in : List Growing → Digests
leaves_in [] = []
leaves_in (op ∷ ops) = leaves_of op.stretches.items ++ leaves_in ops

-- the leaves that a writer has added and not published
abbrev pub waiting_of : BoardWriter → Digests
waiting_of w = leaves_in (drop w.writer.behind w.writer.log.items) ++ leaves_of w.waiting.items

-- what a pass saw last
abbrev pub seen_by : ProverPass → Mark
seen_by p = p.seen

-- what a pass was told of last
abbrev pub told_to : ProverPass → Mark
told_to p = p.told

-- the base of the tree that a pass sees
abbrev pub base_in : ProverPass → Base
base_in p = (view p.reader.place).base

-- the size that a pass saw last
abbrev pub size_seen : ProverPass → ℕ
size_seen p = (base_in p).floor + length (all_leaves (seen_by p).log)

-- a pass of a board: it sees the board's history
abbrev pub IsPassOf : Board → ProverPass → Type 0
IsPassOf b p = (seen_by p).book ≡ b.start.book

-- a writer of a board: its history is the board's
abbrev pub IsWriterOf : Board → BoardWriter → Type 0
IsWriterOf b w = (shown_by w).at.book ≡ b.start.book

-- a pass that has seen, and was told of, just this
abbrev pub IsNew : Growth → ProverPass → Type 0
IsNew g p = (seen_by p ≡ g.at) × (told_to p ≡ g.at) × (base_in p ≡ g.base)
