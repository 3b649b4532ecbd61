-- The dump of a history that runs make passes the checks of its id, its heads and its erasures.
use Rattle.std.specs.Prelude.{zero, suc, if◌then◌else◌, ◌||◌, slice_get}
use Rattle.std.specs.List.{list_any}
use Rattle.std.specs.Option.{is_none, is_some}
use Rattle.std.proofs.Common.{◌≡◌, ℕ, ◌-◌, ◌≤◌, Bool, true, false, List, [], ◌∷◌, ◌++◌, length, map, take, drop, Some, None, refl, sym, ap, ap₂, ◌∙◌, arith}
use Rattle.std.proofs.lemmas.List.{length-map, length-drop, length-take, take_all, take-append-drop, drop-map}
use Rattle.std.proofs.lemmas.List.Elements.{All-map}
use Rattle.std.proofs.lemmas.List.Folds.{list_any-append}
use Rattle.std.proofs.lemmas.Simd.{map-map}
use Rattle.sha2.specs.Sha256.{sha256}
use Rattle.ledger_bytes.specs.Digests.{digest}
use Rattle.journal_record.specs.Entry.{Entry}
use Rattle.journal_record.specs.Header.{spelling}
use Rattle.journal_record.specs.Items.{Item}
use Rattle.tree_model.specs.RootFrom.{root_from}
use Rattle.tree_model.specs.Tree.{leaf}
use Rattle.ledger_model.specs.Behind.{first_of}
use Rattle.ledger_model.specs.History.{History, id, journals, first_leaf_digest, leaf_digest, size, point}
use Rattle.ledger_model.specs.Pegs.{Pegged}
use Rattle.ledger_model.specs.Targets.{hides, is_hidden, is_hidden_by}
use Rattle.ledger_model.proofs.HideLaws.{hides_behind, named_is, none_named}
use Rattle.ledger_model.proofs.LawfulLaws.{lawful_from, front_from}
use Rattle.dump_model.specs.Checks.{is_erased}
use Rattle.dump_model.specs.Checks as checks
use Rattle.dump_model.specs.Dumps.{peaks_of}
use Rattle.dump_model.specs.Shown.{base_at, shown, ledger_dump}
use Rattle.audit_dump.specs.Ending.{IsOwnId}
use Rattle.audit_dump.specs.Ending.Late.{of_id, of_erasures, of_ledger, of_notary}
use Rattle.honest_dump.specs.Runs.{PassesHonestly}
use Rattle.honest_dump.proofs.Facts.{IsMade, all_places, before, before_long, some, point_there, number_there, whole_is}
use Rattle.honest_dump.proofs.Seen.{digests, first_at, root_told}

module _ (h : History) (m : IsMade h) where
  abbrev kept : List Entry
  kept = drop (point h) (journals h)

  abbrev items : List Item
  items = map (shown h) kept

  -- ---- the id

  own_first : (es : List Entry) → 1 ≤ length es → IsOwnId None (map (shown h) es) (digest (first_leaf_digest es))
  own_first [] none = absurd (omega (arith, none))
  own_first (e ∷ es) one = refl

  own_id : (p : ℕ) → IsOwnId (base_at h p) (map (shown h) (drop p (journals h))) (digest (id h))
  unfolding id
  own_id zero = own_first (journals h) (some h m)
  own_id (suc p) = refl

  pub has_id : (entries : List (List ℕ)) → PassesHonestly h entries of_id
  unfolding ledger_dump
  has_id entries = record { given_is = refl; own = own_id (point h) }

  -- ---- the heads

  item_leaves : map (leaf sha256) (map (λ (x : Item). spelling x.header) items) ≡ take (size h - point h) (drop (point h) (digests h))
  item_leaves =
      ap (map (leaf sha256)) (map-map (λ (x : Item). spelling x.header) (shown h) kept) ∙ map-map (leaf sha256) (λ (e : Entry). spelling e.header) kept
      ∙ sym (drop-map leaf_digest (point h) (journals h))
      ∙ sym (take_all (size h - point h) (drop (point h) (digests h)) (omega (arith, length-drop (point h) (digests h), length-map (journals h) leaf_digest)))

  pub has_ledger_head : (entries : List (List ℕ)) → PassesHonestly h entries of_ledger
  unfolding ledger_dump
  has_ledger_head entries = record {
    size = omega (arith, first_at h (point h), length-map kept (shown h), length-drop (point h) (journals h), point_there h m);
    given_size = refl;
    root = ap (root_from sha256 (peaks_of (base_at h (point h))) (first_of (base_at h (point h)))) item_leaves ∙ root_told h (point h) (size h) (omega (arith, point_there h m)) (omega (arith, point_there h m));
    given_root = refl;
  }

  pub has_notary_list : (entries : List (List ℕ)) → Pegged h entries → PassesHonestly h entries of_notary
  unfolding ledger_dump
  has_notary_list entries pegged = record { head = record { given_size = refl; root = refl; given_root = refl }; times = pegged.list.times }

  -- ---- erased contents

  hides_same : (target : Entry) (es : List Entry) → list_any (checks.hides target.header) (map (shown h) es) ≡ list_any (hides target) es
  hides_same target [] = refl
  hides_same target (e ∷ es) = ap (λ (v : Bool). hides target e || v) (hides_same target es)

  stands_there : (front more : List Entry) (e : Entry) → slice_get (front ++ e ∷ more) (length front) ≡ Some e
  stands_there [] more e = refl
  stands_there (x ∷ front) more e = stands_there front more e

  -- none hides a kept journal in front of the point
  hidden_kept : (front : List Entry) (e : Entry) (more : List Entry) → kept ≡ front ++ e ∷ more → is_hidden h e.header.jsn ≡ list_any (checks.hides e.header) items
  hidden_kept front e more is =
      let ahead = take (point h) (journals h) in
      let all = before h m front e more is in
      let whole = whole_is h m front e more is in
      let number = number_there h m front e more is in
      let at : slice_get (journals h) e.header.jsn ≡ Some e =
      ap₂ (λ (es : List Entry) (n : ℕ). slice_get es n) whole (number ∙ sym (before_long h m front e more is)) ∙ stands_there all more e in
      let none : list_any (hides e) ahead ≡ false =
      named_is (hides e) ahead ∙ ap is_some (none_named (hides e) 0 e.header.jsn ahead (hides_behind e) (front_from 0 (point h) (journals h) (lawful_from (journals h) m.lawful.journals_are)) (omega (arith, number, length-take (point h) (journals h)))) in
      ap (is_hidden_by (journals h)) at ∙ ap (list_any (hides e)) (sym (take-append-drop (point h) (journals h)))
      ∙ list_any-append (hides e) ahead kept ∙ ap (λ (v : Bool). v || list_any (hides e) kept) none ∙ sym (hides_same e kept)

  erased_is : (v : Bool) (content : List ℕ) → is_none (if v then None else Some content) ≡ v
  erased_is true content = refl
  erased_is false content = refl

  pub has_erasures : (entries : List (List ℕ)) → PassesHonestly h entries of_erasures
  unfolding ledger_dump
  has_erasures entries =
      All-map (λ (x : Item). is_erased x ≡ checks.is_hidden items x) (shown h) kept (all_places (λ (e : Entry). is_erased (shown h e) ≡ checks.is_hidden items (shown h e)) [] kept (λ front e more is.
      erased_is (is_hidden h e.header.jsn) e.content ∙ hidden_kept front e more is))
