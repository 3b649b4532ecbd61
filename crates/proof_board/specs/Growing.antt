-- What a board's tree stands for, and how it grows.
use Rattle.std.specs.Prelude.{◌≡◌, ℕ, ◌%◌, All, List, [], ◌∷◌, ◌++◌, length, drop}
use Rattle.sha2.specs.Sha256.{sha256}
use Rattle.tree_model.specs.Peaks.{peaks as peaks_of}
use Rattle.merkle_batch.specs.Rows.{Row, Levels, StandsFor}
use Rattle.merkle_batch.specs.Over.{StandsOver}
use Rattle.proof_board.specs.History.{Digests, IsWide, Mark, leaves_of}
use Rattle.proof_board.specs.declared.view.Base.{Base}
use Rattle.proof_board.specs.declared.view.Growth.{Growth}
use Rattle.proof_board.specs.declared.shown.Growing.{Growing}

-- so many first leaves, by their peaks
abbrev pub base_of : ℕ → Digests → Base
base_of floor peaks = record { floor = floor; peaks = peaks }

-- what stands on a base
abbrev pub growth : Base → Digests → Mark → Growth
growth base leaves at = record { base = base; leaves = leaves; at = at }

-- a list of leaf digests that begins with leaves which have this base, and goes on with these
pub record IsListOf (base : Base) (leaves ds : Digests) : Type 0 where
  pub front : Digests
  pub whole : ds ≡ front ++ leaves
  pub count : length front ≡ base.floor
  pub peaks : peaks_of sha256 front ≡ base.peaks
  pub wide : All IsWide ds

-- the digests that a tree's first row keeps, from its floor on
abbrev pub kept_in : ℕ → List Row → Digests
kept_in floor [] = []
kept_in floor (row ∷ rows) = drop (floor % 2) row.nodes

-- those that a tree keeps
abbrev pub kept_of : Levels → Digests
kept_of tree = kept_in tree.floor tree.rows

-- a tree stands for each list that has these peaks below its floor, and its kept leaves behind it
pub record IsHeld (tree : Levels) (peaks : Digests) : Type 0 where
  pub over : StandsOver sha256 tree tree.floor peaks (kept_of tree)
  pub lists : (ds : Digests) → IsListOf (base_of tree.floor peaks) (kept_of tree) ds → StandsFor sha256 tree ds

-- what a tree has grown to
abbrev pub grown : Growth → Growing → Growth
grown g op = growth g.base (g.leaves ++ leaves_of op.stretches.items) op.at
