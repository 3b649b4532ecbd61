-- A dump that passes the checks is true, or shows a clash.
use Rattle.std.proofs.Common.{◌≡◌, ℕ, true, List, [], length, map, get_or, drop, All, Option, Some, None, sym, ap, ◌∙◌, arith, count_ones}
use Rattle.std.specs.Prelude.{IfSome, is_none, ◌↔◌}
use Rattle.std.specs.List.{Any, list_any}
use Rattle.std.proofs.lemmas.List.{length-map}
use Rattle.std.proofs.lemmas.List.Elements.{All-nil, All-map}
use Rattle.std.proofs.lemmas.List.Folds.{Any-from_list_any, list_any-from_Any}
use Rattle.journal_record.specs.Header.{spelling}
use Rattle.journal_record.specs.Items.{Item}
use Rattle.journal_record.specs.declared.header.Header.{Header}
use Rattle.merkle_tree.specs.declared.head.Head.{Head}
use Rattle.pseudo_genesis.specs.Bases.{IsBase, HasWidths}
use Rattle.pseudo_genesis.specs.declared.base.Base.{Base}
use Rattle.tree_model.specs.Tree.{Hash, leaf, mth}
use Rattle.tree_model.specs.TreeClash.{tree_clash, ShowsOr}
use Rattle.tree_model.proofs.PathClashes.{Makes}
use Rattle.tree_model.proofs.Peaks.{length-peaks, peaks_none}
use Rattle.tree_model.proofs.RootsFrom.{from_none}
use Rattle.tree_model.proofs.TreeClashes.{Same, tree_shows, shows_both, shows_map}
use Rattle.dump_model.specs.Dumps.{Dump, IsDump, first_of, peaks_of, leaves_of}
use Rattle.dump_model.specs.Checks.{hides, is_hidden, makes_base, ErasedAreHidden, BaseIsPurged, HasLedgerHead, HasNotaryHead}
use Rattle.dump_model.specs.Truth.{HasJournal, IsOccultOf, IsPurgeOf, IsTrueDump, dump_clash}
use Rattle.dump_model.proofs.Tests.{none_is, hides_is, is_hides, makes_is, is_makes, same_answer}
use Rattle.dump_model.proofs.Headers.{in_ledger, in_dump}

-- what holds of some journal of a list, put otherwise
some_other : (P Q : Item → Type 0) (items : List Item) → ((item : Item) → P item → Q item) → Any P items → Any Q items
some_other P Q items each (place, item, below, is, so) = (place, item, below, is, each item so)

module _ (headers : List (List ℕ)) (dump : Dump) (fits : IsDump dump) (are : leaves_of dump ≡ drop (first_of dump.base) headers) where
  -- what hides a content in the dump hides it in the ledger
  hidden_is : (item : Item) → is_hidden dump.items item ≡ true → HasJournal headers (first_of dump.base) (IsOccultOf item.header)
  hidden_is item is =
      let target : Header = item.header in
      in_ledger headers (first_of dump.base) dump.items fits.items are (IsOccultOf target)
      (some_other (λ x. hides target x ≡ true) (λ x. IsOccultOf target x.header) dump.items (hides_is target) (Any-from_list_any (hides target) dump.items is))

  is_hidden_by : (item : Item) → HasJournal headers (first_of dump.base) (IsOccultOf item.header) → is_hidden dump.items item ≡ true
  is_hidden_by item journal =
      let target : Header = item.header in
      list_any-from_Any (hides target) dump.items
      (some_other (λ x. IsOccultOf target x.header) (λ x. hides target x ≡ true) dump.items (is_hides target) (in_dump headers (first_of dump.base) dump.items fits.items are (IsOccultOf target) journal))

  pub erased_is : ErasedAreHidden dump → All (λ item. (item.body ≡ None) ↔ HasJournal headers (first_of dump.base) (IsOccultOf item.header)) dump.items
  erased_is checked place other below =
      let item : Item = get_or dump.items place other in
      let same : is_none item.body ≡ is_hidden dump.items item = checked place other below in (
        λ none. hidden_is item (sym same ∙ ap is_none none),
        λ journal. none_is item.body (same ∙ is_hidden_by item journal),
      )

  pub is_erased_so : All (λ item. (item.body ≡ None) ↔ HasJournal headers (first_of dump.base) (IsOccultOf item.header)) dump.items → ErasedAreHidden dump
  is_erased_so so place other below =
      let item : Item = get_or dump.items place other in
      let both = so place other below in
      same_answer (is_none item.body) (is_hidden dump.items item)
      (λ none. is_hidden_by item (both.0 (none_is item.body none)))
      (λ hidden. ap is_none (both.1 (hidden_is item hidden)))

  -- so does the purge that made the base
  pub purged_is : (hash : Hash) (base : Option Base) → IfSome base (λ b. list_any (makes_base hash b) dump.items ≡ true)
      → IfSome base (λ b. HasJournal headers (first_of dump.base) (IsPurgeOf hash b))
  purged_is hash None some = tt
  purged_is hash (Some base) some =
      in_ledger headers (first_of dump.base) dump.items fits.items are (IsPurgeOf hash base)
      (some_other (λ x. makes_base hash base x ≡ true) (λ x. IsPurgeOf hash base x.header) dump.items (makes_is hash base) (Any-from_list_any (makes_base hash base) dump.items some))

  pub is_purged_so : (hash : Hash) (base : Option Base) → IfSome base (λ b. HasJournal headers (first_of dump.base) (IsPurgeOf hash b))
      → IfSome base (λ b. list_any (makes_base hash b) dump.items ≡ true)
  is_purged_so hash None some = tt
  is_purged_so hash (Some base) some =
      list_any-from_Any (makes_base hash base) dump.items
      (some_other (λ x. IsPurgeOf hash base x.header) (λ x. makes_base hash base x ≡ true) dump.items (is_makes hash base) (in_dump headers (first_of dump.base) dump.items fits.items are (IsPurgeOf hash base) some))

module _ (hash : Hash) (makes : Makes hash) (dump : Dump) (ledger notary : Head) (headers entries : List (List ℕ)) (fits : IsDump dump) (hidden : ErasedAreHidden dump) (purged : BaseIsPurged hash dump)
    (head : HasLedgerHead hash dump ledger) (noted : HasNotaryHead hash dump notary) where
  -- what the trees say of it
  abbrev Trees : Type 0
  Trees = Same hash (peaks_of dump.base) (first_of dump.base) (leaves_of dump) headers × Same hash [] 0 dump.entries entries

  -- the peaks of a base are as many as its point has ones, and have 32 bytes
  peaks_fit : (base : Option Base) → IfSome base (λ b. IsBase b × HasWidths b) → (length (peaks_of base) ≡ count_ones (first_of base)) × All (λ peak. length peak ≡ 32) (peaks_of base)
  peaks_fit None fit = (sym (ap length (peaks_none hash)) ∙ length-peaks hash [], All-nil (λ peak. length peak ≡ 32))
  peaks_fit (Some base) fit = (length-map base.peaks (λ peak. peak.0) ∙ fit.0.peaks, All-map (λ peak. length peak ≡ 32) (λ peak. peak.0) base.peaks fit.1.peaks)

  pub sound : length headers ≡ ledger.size → mth hash headers ≡ ledger.root.0 → length entries ≡ notary.size → mth hash entries ≡ notary.root.0
      → ShowsOr hash (IsTrueDump hash headers entries dump) (dump_clash hash headers entries dump)
  sound size root count noted_root =
      let peaks = peaks_fit dump.base fits.base in
      let none = peaks_fit None tt in
      let kept : length (leaves_of dump) ≡ length dump.items = length-map dump.items (λ item. spelling item.header) in
      let is_true : Trees → IsTrueDump hash headers entries dump = λ trees. record {
        within = omega (arith, size, head.size, head.given_size);
        headers_are = trees.0.0;
        peaks_are = trees.0.1;
        size_is = head.given_size ∙ sym size;
        root_is = head.given_root ∙ sym root;
        entries_are = trees.1.0;
        notary_root_is = noted.given_root ∙ sym noted_root;
        erased = erased_is headers dump fits trees.0.0 hidden;
        purged = purged_is headers dump fits trees.0.0 hash dump.base purged;
      } in
      let first = tree_shows hash makes (peaks_of dump.base) (first_of dump.base) (leaves_of dump) headers (omega (arith, kept, size, head.size, head.given_size)) peaks.0 peaks.1 (head.root ∙ head.given_root ∙ sym root) in
      let second = tree_shows hash makes [] 0 dump.entries entries (omega (arith, count, noted.given_size)) none.0 none.1 (from_none hash (map (leaf hash) dump.entries) ∙ noted.root ∙ noted.given_root ∙ sym noted_root) in
      shows_map hash Trees (IsTrueDump hash headers entries dump) (dump_clash hash headers entries dump) is_true
      (shows_both hash (Same hash (peaks_of dump.base) (first_of dump.base) (leaves_of dump) headers) (Same hash [] 0 dump.entries entries) (tree_clash hash (peaks_of dump.base) (first_of dump.base) (leaves_of dump) headers) (tree_clash hash [] 0 dump.entries entries) first second)
