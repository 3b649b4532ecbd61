-- The lineage that a ledger makes of a clue.
use Rattle.std.specs.Prelude.{◌≡◌, ◌≢◌, ℕ, ◌≤◌, nat_le, List, [], map, take, filter, slice_get, Some, Result, Ok, Err, ⊤}
use Rattle.ledger_bytes.specs.declared.digest.Digest.{Digest}
use Rattle.journal_record.specs.Entry.{Entry}
use Rattle.ledger_model.specs.Clues.{is_of_clue}
use Rattle.ledger_model.specs.History.{History, journals, size, point}
use Rattle.ledger_model.specs.Proofs.{path_in}
use Rattle.merkle_batch.specs.declared.tree.TreeErr.{TreeErr}
use Rattle.merkle_batch.specs.declared.tree.TreeErr.TheVariants as tree_err
use Rattle.clue_lineage.specs.declared.answer.LineageErr.{LineageErr}
use Rattle.clue_lineage.specs.declared.answer.LineageErr.TheVariants.{NoLineage, NoMemory}
use Rattle.clue_lineage.specs.Lineages.{LineageItem, Lineage, spelling}

-- the journals of a history that have a clue, in order
abbrev pub records_of : Digest → History → List Entry
records_of clue h = filter (is_of_clue clue) (journals h)

-- those that are kept: from the point on
abbrev pub kept_records : Digest → History → List Entry
kept_records clue h = filter (λ e. nat_le (point h) e.header.jsn) (records_of clue h)

-- Those of them whose ordinal is at least this.
-- Example: a clue has the journals 11, 51, 92, 133 and 174, and the point is 105: from ordinal 1 on 133 and 174 are shown,
-- whose ordinals are 4 and 5, and from 5 on 174 alone.
abbrev pub shown_from : ℕ → Digest → History → List Entry
shown_from from clue h = filter (λ e. nat_le from e.header.clue_ord) (kept_records clue h)

-- a journal as a lineage shows it: its header, and its path under the root over all journals
abbrev pub item_in : History → Entry → LineageItem
item_in h e = record { header = e.header; path = path_in h e.header.jsn }

-- the lineage of some journals of a history
abbrev pub lineage_over : History → Digest → List Entry → Lineage
lineage_over h clue es = record { size = size h; clue = clue; items = map (item_in h) es }

-- the lineage of a clue from an ordinal on: the first 1,024 of its journals that are kept
abbrev pub lineage_in : ℕ → Digest → History → Lineage
lineage_in from clue h = lineage_over h clue (take 1024 (shown_from from clue h))

-- what comes where a lineage is to be made: its bytes where there are journals to show, and that there are none
abbrev pub Makes : ℕ → Digest → History → Result (List ℕ) LineageErr → Type 0
Makes from clue h (Ok bytes) = (shown_from from clue h ≢ []) × (bytes ≡ spelling (lineage_in from clue h))
Makes from clue h (Err NoLineage) = shown_from from clue h ≡ []
Makes from clue h (Err NoMemory) = ⊤

-- the answer to a tree that has no such leaf, or to its want of memory
abbrev pub of_tree : TreeErr → LineageErr
of_tree (tree_err.Below p) = NoLineage
of_tree (tree_err.Beyond size) = NoLineage
of_tree tree_err.NoMemory = NoMemory

-- a journal stands in a history at its number, and is kept
pub record StandsIn (h : History) (e : Entry) : Type 0 where
  pub kept : point h ≤ e.header.jsn
  pub place : slice_get (journals h) e.header.jsn ≡ Some e
