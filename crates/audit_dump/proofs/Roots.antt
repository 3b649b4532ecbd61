-- The root that a tree tells of its first leaves is the one that a base and the journals behind it tell.
use Rattle.std.specs.Prelude.{nat_lt}
use Rattle.std.proofs.Common.{◌≡◌, ℕ, ◌-◌, ◌<◌, ◌≤◌, true, false, List, [], map, take, Option, Some, None, refl, sym, ap, arith, ◌∙◌}
use Rattle.std.proofs.lemmas.Bool.{ltb-true, ltb-false}
use Rattle.std.proofs.lemmas.List.{take-map, length-map}
use Rattle.sha2.specs.Sha256.{sha256}
use Rattle.tree_model.specs.Tree.{root}
use Rattle.tree_model.specs.RootFrom.{root_from}
use Rattle.tree_model.proofs.RootsFrom.{from_none}
use Rattle.merkle_batch.specs.Rows.{Levels, StandsFor}
use Rattle.merkle_batch.specs.Over.{StandsOver}
use Rattle.ledger_bytes.specs.declared.digest.Digest.{Digest}
use Rattle.journal_record.specs.Entry.{Entry}
use Rattle.pseudo_genesis.specs.declared.base.Base.{Base}
use Rattle.ledger_model.specs.Behind.{next_number}
use Rattle.ledger_model.specs.History.{leaf_digest}
use Rattle.ledger_book.specs.Reading.{HasLeaves}
use Rattle.audit_dump.specs.Known.{root_behind}

pub root_told : (start : Option Base) (before : List Entry) (p : ℕ) (tree : Levels) (told : Digest) → HasLeaves start tree before
    → ((ds : List (List ℕ)) → StandsFor sha256 tree ds → told.0 ≡ root sha256 (take p ds))
    → ((q : ℕ) (ps xs : List (List ℕ)) → StandsOver sha256 tree q ps xs → told.0 ≡ root_from sha256 ps q (take (p - q) xs))
    → told.0 ≡ root_behind start before p
root_told None before p tree told leaves list over =
    let whole : p ≡ p - 0 = omega arith in
    list (map leaf_digest before) leaves ∙ ap (root sha256) (take-map leaf_digest p before) ∙ sym (from_none sha256 (map leaf_digest (take p before)))
    ∙ ap (λ (m : ℕ). root_from sha256 [] 0 (map leaf_digest (take m before))) whole
root_told (Some base) before p tree told leaves list over =
    let peaks = map (λ (d : Digest). d.0) base.peaks in
    over base.point peaks (map leaf_digest before) leaves ∙ ap (root_from sha256 peaks base.point) (take-map leaf_digest (p - base.point) before)

pub not_below : (p floor : ℕ) → (p < floor → ⊥) → floor ≤ p
not_below p floor other = elim (nat_lt p floor) as (λ v. nat_lt p floor ≡ v → floor ≤ p) [
  | true ↦ λ is. absurd (other (ltb-true p floor is))
  | false ↦ λ is. ltb-false p floor is
] refl

pub not_above : (p floor : ℕ) → (floor ≤ p → ⊥) → p < floor
not_above p floor other = elim (nat_lt p floor) as (λ v. nat_lt p floor ≡ v → p < floor) [
  | true ↦ λ is. ltb-true p floor is
  | false ↦ λ is. absurd (other (ltb-false p floor is))
] refl

-- as many leaves stand in a tree as journals are known, with those that the base stands for
pub leaves_count : (start : Option Base) (before : List Entry) (tree : Levels) → HasLeaves start tree before → tree.size ≡ next_number start before
unfolding StandsFor StandsOver
leaves_count None before tree leaves = omega (arith, leaves.0, length-map before leaf_digest)
leaves_count (Some base) before tree leaves = omega (arith, leaves.2, length-map before leaf_digest)
