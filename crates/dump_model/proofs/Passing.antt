-- A true dump passes the checks.
use Rattle.std.proofs.Common.{◌≡◌, ℕ, ◌-◌, List, length, map, take, drop, sym, ap, ap₂, ◌∙◌, arith, length-drop}
use Rattle.std.proofs.lemmas.List.{length-map, map-append, take-append-drop, length-take-le}
use Rattle.journal_record.specs.Header.{spelling}
use Rattle.merkle_tree.specs.declared.head.Head.{Head}
use Rattle.tree_model.specs.Tree.{Hash, leaf, root, mth}
use Rattle.tree_model.specs.Peaks.{peaks}
use Rattle.tree_model.specs.RootFrom.{root_from}
use Rattle.tree_model.proofs.RootsFrom.{from_list}
use Rattle.dump_model.specs.Dumps.{Dump, first_of, root_of}
use Rattle.dump_model.specs.Checks.{HasLedgerHead, HasNotaryHead}
use Rattle.dump_model.specs.Truth.{IsTrueDump}

module _ (hash : Hash) (dump : Dump) (headers entries : List (List ℕ)) (head : Head) (is : IsTrueDump hash headers entries dump) where
  -- the peaks in front and the leaves behind give the root of all
  root_is_all : root_of hash dump ≡ mth hash headers
  root_is_all =
      let point : ℕ = first_of dump.base in
      let front : List (List ℕ) = map (leaf hash) (take point headers) in
      let back : List (List ℕ) = map (leaf hash) (drop point headers) in
      let count : length front ≡ point = length-map (take point headers) (leaf hash) ∙ length-take-le point headers is.within in
      ap₂ (λ tops leaves. root_from hash tops point (map (leaf hash) leaves)) is.peaks_are is.headers_are
      ∙ ap (λ n. root_from hash (peaks hash front) n back) (sym count)
      ∙ from_list hash front back
      ∙ ap (root hash) (sym (map-append (leaf hash) (take point headers) (drop point headers)) ∙ ap (map (leaf hash)) (take-append-drop point headers))

  pub ledger_passes : length headers ≡ head.size → mth hash headers ≡ head.root.0 → HasLedgerHead hash dump head
  ledger_passes size given =
      let kept : length dump.items ≡ length headers - first_of dump.base =
      sym (length-map dump.items (λ item. spelling item.header)) ∙ ap length is.headers_are ∙ length-drop (first_of dump.base) headers in
      record {
        size = omega (arith, kept, is.within, is.size_is);
        given_size = is.size_is ∙ size;
        root = root_is_all ∙ sym is.root_is;
        given_root = is.root_is ∙ given;
      }

  pub notary_passes : length entries ≡ head.size → mth hash entries ≡ head.root.0 → HasNotaryHead hash dump head
  notary_passes size given = record {
    given_size = ap length is.entries_are ∙ size;
    root = ap (mth hash) is.entries_are ∙ sym is.notary_root_is;
    given_root = is.notary_root_is ∙ given;
  }
