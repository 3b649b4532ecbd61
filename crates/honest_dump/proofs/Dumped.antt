-- The dump of a history that runs make keeps the rules of a dump.
use Rattle.std.specs.Prelude.{All, IfSome, zero, suc, if◌then◌else◌}
use Rattle.std.proofs.Common.{◌≡◌, ℕ, ◌≤◌, Bool, true, false, List, [], ◌∷◌, ◌++◌, length, map, take, drop, Some, None, refl, ap, subst, arith}
use Rattle.std.proofs.lemmas.List.{length-map, length-drop}
use Rattle.std.proofs.lemmas.List.Elements.{All-map, All-drop, All-from_recursion}
use Rattle.sha2.specs.Sha256.{sha256}
use Rattle.sha2.proofs.Facts256.{length-sha256}
use Rattle.journal_record.specs.Entry.{Entry}
use Rattle.journal_record.specs.Header.{spelling}
use Rattle.journal_record.specs.Items.{IsItem, FitsHeader, may_be_erased}
use Rattle.pseudo_genesis.specs.Bases as bases
use Rattle.pseudo_genesis.specs.Bases.{IsBase, IsWide}
use Rattle.tree_model.specs.Tree.{leaf, mth, root as root_of}
use Rattle.tree_model.proofs.Widths as tree_widths
use Rattle.ledger_model.specs.Bases.{base_of}
use Rattle.ledger_model.specs.History.{History, id, journals, first_leaf_digest, size, point, root, leaves}
use Rattle.ledger_model.specs.Pegs.{Pegged}
use Rattle.ledger_model.specs.Targets.{is_hidden}
use Rattle.ledger_model.proofs.FitLaws.{size_few}
use Rattle.dump_model.specs.Dumps.{IsDump, IsNotaryEntry}
use Rattle.dump_model.specs.Shown.{base_at, shown, ledger_dump}
use Rattle.honest_dump.proofs.Facts.{IsMade, all_places, some, base_there, next_there, whole_there, sizes_there, hidden_there}

root_wide : (xs : List (List ℕ)) → length (mth sha256 xs) ≡ 32
unfolding root_of
root_wide xs = tree_widths.root_wide sha256 length-sha256 _ (map (leaf sha256) xs) (all_leaves xs) where
  all_leaves : (xs : List (List ℕ)) → All tree_widths.IsWide (map (leaf sha256) xs)
  all_leaves xs = All-map tree_widths.IsWide (leaf sha256) xs (λ k d lt. length-sha256 _)

id_wide : (h : History) → 1 ≤ size h → length (id h) ≡ 32
unfolding id
id_wide h some = by (journals h) some where
  by : (es : List Entry) → 1 ≤ length es → length (first_leaf_digest es) ≡ 32
  by [] some = absurd (omega (arith, some))
  by (e ∷ es) some = length-sha256 (0 ∷ spelling e.header)

module _ (h : History) (m : IsMade h) where
  -- a journal as it is shown
  item_there : (front : List Entry) (e : Entry) (more : List Entry) → journals h ≡ front ++ e ∷ more → IsItem (shown h e)
  item_there front e more is =
      record {
        rules = (next_there h m front e more is).layout;
        widths = (sizes_there h m front e more is).widths;
        body = by_hidden (is_hidden h e.header.jsn) refl;
        who = (sizes_there h m front e more is).who;
      }
    where
      by_hidden : (hidden : Bool) → is_hidden h e.header.jsn ≡ hidden → FitsHeader e.header (if hidden then None else Some e.content)
      by_hidden true hid = ap may_be_erased (hidden_there h m front e more is hid)
      by_hidden false seen = (whole_there h m front e more is).length_is

  base_fits : (p : ℕ) → point h ≡ p → IfSome (base_at h p) (λ base. IsBase base × bases.HasWidths base)
  base_fits zero is = tt
  base_fits (suc p) is = subst (λ n. IsBase (base_of h n) × bases.HasWidths (base_of h n)) is (base_there h m (omega (arith, is)))

  pub dump_fits : (entries : List (List ℕ)) → Pegged h entries → IsDump (ledger_dump h entries)
  unfolding ledger_dump root
  dump_fits entries pegged = record {
    id = id_wide h (some h m);
    base = base_fits (point h) refl;
    items = All-map IsItem (shown h) (drop (point h) (journals h)) (All-drop (λ (e : Entry). IsItem (shown h e)) (point h) (journals h) (all_places (λ (e : Entry). IsItem (shown h e)) [] (journals h) item_there));
    item_count = omega (arith, size_few h m.lawful, length-map (drop (point h) (journals h)) (shown h), length-drop (point h) (journals h));
    size = omega (arith, size_few h m.lawful);
    root = root_wide (take (size h) (leaves h));
    entries = All-from_recursion IsNotaryEntry entries pegged.list.widths;
    entry_count = omega (arith, pegged.list.few);
    notary_root = root_wide entries;
  }
