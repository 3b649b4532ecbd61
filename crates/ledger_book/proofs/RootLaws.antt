-- The root over what stands behind a base.
use Rattle.std.specs.Prelude.{Option, Some, None}
use Rattle.std.proofs.Common.{◌≡◌, ℕ, List, map}
use Rattle.sha2.specs.Sha256.{sha256}
use Rattle.tree_model.specs.RootFrom.{root_from}
use Rattle.tree_model.specs.Tree.{root}
use Rattle.merkle_batch.specs.Over.{StandsOver}
use Rattle.merkle_batch.specs.Rows.{Levels, StandsFor}
use Rattle.journal_record.specs.Entry.{Entry}
use Rattle.ledger_bytes.specs.declared.digest.Digest.{Digest}
use Rattle.ledger_model.specs.History.{leaf_digest}
use Rattle.pseudo_genesis.specs.declared.base.Base.{Base}
use Rattle.ledger_book.specs.Reading.{HasLeaves, root_behind}

pub root_is : (start : Option Base) (tree : Levels) (journals : List Entry) (found : Digest) → HasLeaves start tree journals
    → ((ds : List (List ℕ)) → StandsFor sha256 tree ds → found.0 ≡ root sha256 ds)
    → ((p : ℕ) (ps xs : List (List ℕ)) → StandsOver sha256 tree p ps xs → found.0 ≡ root_from sha256 ps p xs)
    → found.0 ≡ root_behind start journals
root_is None tree journals found leaves list over = list (map leaf_digest journals) leaves
root_is (Some base) tree journals found leaves list over = over base.point (map (λ (d : Digest). d.0) base.peaks) (map leaf_digest journals) leaves
