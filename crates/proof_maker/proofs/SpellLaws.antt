-- The proof of each journal has a spelling.
use Rattle.std.specs.Prelude.{All, IfSome}
use Rattle.std.specs.List.{concat}
use Rattle.std.specs.Option.{is_some, option_map}
use Rattle.std.proofs.Common.{◌≡◌, ℕ, suc, ◌*◌, ◌<◌, ◌≤◌, ◌^◌, ◌||◌, Bool, true, false, cond, List, [], ◌∷◌, length, map, take, get_or, Option, Some, None, refl, sym, ap, ◌∙◌, subst, arith, length-append}
use Rattle.std.specs.Prelude.{nat_lt}
use Rattle.std.proofs.lemmas.List.{length-map}
use Rattle.std.proofs.lemmas.List.Elements.{All-take}
use Rattle.std.proofs.lemmas.Option.{slice_get_within}
use Rattle.sha2.specs.Sha256.{sha256}
use Rattle.sha2.proofs.Facts256.{length-sha256}
use Rattle.ledger_bytes.specs.Digests.{digest}
use Rattle.journal_record.specs.Entry.{Entry}
use Rattle.journal_record.specs.declared.rules.TheConstants.{NOTARY_LIMIT}
use Rattle.tree_model.specs.Extension.{proof, sub}
use Rattle.tree_model.specs.Path.{path}
use Rattle.tree_model.specs.Tree as tree
use Rattle.tree_model.proofs.Extensions.{length-sub}
use Rattle.tree_model.proofs.Paths.{path_length_below, length-path}
use Rattle.proof_codec.specs.Claims.{mark_of}
use Rattle.proof_codec.specs.Proofs.{IsProof}
use Rattle.ledger_model.specs.Bounds.{IsKeptTime, lower_journal, upper_journal}
use Rattle.ledger_model.specs.History as model
use Rattle.ledger_model.specs.History.{History, journals, leaf_digest}
use Rattle.ledger_model.specs.Lawful.{AreLawful}
use Rattle.ledger_model.specs.Proofs.{shown_of, path_in, extension_in, entry_path}
use Rattle.ledger_model.proofs.BoundLaws.{nearest_lower, nearest_upper}
use Rattle.ledger_book.specs.Books.{leaf_digests}
use Rattle.proof_maker.specs.Parts.{AreDigests, IsShortBound, BoundsIf, ArePartsOf, AreShort, IsNotedOf, path_if, index_of, index_path, path_bytes, extension_bytes}
use Rattle.proof_maker.specs.Written.{HasWideTimes}
use Rattle.proof_maker.specs.declared.bound.Bound.{Bound}
use Rattle.proof_maker.specs.declared.noted.Noted.{Noted}
use Rattle.proof_maker.specs.declared.parts.Parts.{Parts}
use Rattle.tree_model.proofs.Widths.{IsWide, root_wide, path_wide, proof_wide}
use Rattle.proof_maker.proofs.FoldLaws.{leaves_wide}
use Rattle.proof_maker.proofs.HeaderLaws.{layout_at, not_first}
use Rattle.proof_maker.proofs.PartLaws.{kept_before, kept_behind}
use Rattle.proof_maker.proofs.ProofLaws.{has_spelling, shown_same}
use Rattle.proof_maker.proofs.RowLaws.{none_short, proof_few}
use Rattle.proof_maker.proofs.TreeLaws.{all_wide, root_told}

-- ---- digests one after the other

joined_count : (xs : List (List ℕ)) → All IsWide xs → length (concat xs) ≡ 32 * length xs
joined_count [] each = refl
joined_count (x ∷ xs) each = omega (arith, length-append x (concat xs), each 0 [] (omega arith), joined_count xs (λ k d less. each (suc k) d (omega (arith, less))))

digests_short : (most : ℕ) (xs : List (List ℕ)) → All IsWide xs → length xs ≤ most → AreDigests most (concat xs)
digests_short most xs each few = record { whole = omega (arith, joined_count xs each); few = omega (arith, joined_count xs each, few) }

path_short : (most : ℕ) (ds : List (List ℕ)) (n : ℕ) → All IsWide ds → length ds ≤ 2 ^ most → AreDigests most (path_bytes ds n)
unfolding path
path_short most ds n each few =
    digests_short most (path sha256 n ds) (path_wide sha256 length-sha256 (length ds) n ds each) (omega (arith, length-path sha256 n ds, path_length_below most n (length ds) few))

pub extension_short : (ds : List (List ℕ)) (m : ℕ) → All IsWide ds → 0 < m → m ≤ length ds → length ds < 2 ^ 32 → AreDigests 33 (extension_bytes ds m)
unfolding sub
extension_short ds m each some le few =
    digests_short 33 (proof sha256 m ds) (proof_wide sha256 length-sha256 (length ds) m true ds each) (omega (arith, length-sub sha256 m true ds some le, proof_few m (length ds) few))

entry_short : (es : List (List ℕ)) (k : ℕ) → length es ≤ NOTARY_LIMIT → AreDigests 24 (entry_path es k)
entry_short es k few =
    let ds = map (tree.leaf sha256) es in
    elim (nat_lt k (length es)) as (λ v. AreDigests 24 (cond v (path_bytes ds k) [])) [
      | true ↦ path_short 24 ds k (leaves_wide es) (omega (arith, few, length-map es (tree.leaf sha256)))
      | false ↦ none_short 24 [] refl
    ]

index_short : (es : List (List ℕ)) (index : Option ℕ) → length es ≤ NOTARY_LIMIT → AreDigests 24 (index_path es index)
index_short es None few = none_short 24 [] refl
index_short es (Some k) few = entry_short es k few

count_fits : (b : Bool) (n : ℕ) → n ≤ NOTARY_LIMIT → cond b n 0 < 2 ^ 64
count_fits true n few = omega (arith, few)
count_fits false n few = omega arith

-- ---- the parts that a proof is made of, as the history has them

abbrev bound_in : History → Entry → Bound
bound_in h e = record { header = e.header; root = digest (model.root h e.header.jsn); ext = extension_in h e.header.jsn }

bounds_in : (h : History) (o : Option Entry) → BoundsIf h o (option_map (bound_in h) o)
bounds_in h None = tt
bounds_in h (Some e) = record { header_is = refl; root_is = refl; ext_is = refl }

abbrev parts_in : History → ℕ → Parts
parts_in h n = record {
  leaf = digest (get_or (map leaf_digest (journals h)) n []);
  path = path_in h n;
  lower = option_map (bound_in h) (lower_journal h n);
  lower_path = path_if (map leaf_digest (journals h)) (option_map (λ (e : Entry). mark_of e.header) (lower_journal h n));
  upper = option_map (bound_in h) (upper_journal h n);
}

abbrev noted_in : List (List ℕ) → Option ℕ → Option ℕ → Noted
noted_in es lower upper = record { size = cond (is_some lower || is_some upper) (length es) 0; lower_path = index_path es lower; upper_path = index_path es upper }

module _ (h : History) (lawful : AreLawful (journals h)) (wide : HasWideTimes h) (few : model.size h < 2 ^ 32) where
  many : length (leaf_digests h) ≡ model.size h
  many = length-map (journals h) leaf_digest

  root_is_wide : (m : ℕ) → length (model.root h m) ≡ 32
  unfolding tree.root
  root_is_wide m = ap length (sym (root_told h m)) ∙ root_wide sha256 length-sha256 (length (take m (leaf_digests h))) (take m (leaf_digests h)) (All-take IsWide m (leaf_digests h) (all_wide h))

  leaf_path_short : (n : ℕ) → AreDigests 32 (path_in h n)
  leaf_path_short n = path_short 32 (leaf_digests h) n (all_wide h) (omega (arith, many, few))

  bound_short : (e : Entry) → IsKeptTime h e → e.header.jsn < model.size h → IsShortBound (bound_in h e)
  bound_short e kept less = record {
    header = record { rules = layout_at h e.header.jsn e lawful kept.place; widths = wide e.header.jsn e kept.place kept.time; kind = kept.time };
    root = root_is_wide e.header.jsn;
    ext = extension_short (leaf_digests h) e.header.jsn (all_wide h) (not_first h e.header.jsn e lawful kept.place kept.time) (omega (arith, less, many)) (omega (arith, many, few));
  }

  within : (e : Entry) → IsKeptTime h e → e.header.jsn < model.size h
  within e kept = slice_get_within (journals h) e.header.jsn e kept.place

  bounds_short : (P : Entry → Type 0) (o : Option Entry) → IfSome o (λ e. IsKeptTime h e × P e) → IfSome (option_map (bound_in h) o) IsShortBound
  bounds_short P None kept = tt
  bounds_short P (Some e) kept = bound_short e kept.0 (within e kept.0)

  mark_path_short : (o : Option Entry) → AreDigests 32 (path_if (map leaf_digest (journals h)) (option_map (λ (e : Entry). mark_of e.header) o))
  mark_path_short None = none_short 32 [] refl
  mark_path_short (Some e) = leaf_path_short e.header.jsn

  parts_short : (n : ℕ) → n < model.size h → AreShort (parts_in h n)
  parts_short n less = record {
    leaf = all_wide h n [] (omega (arith, less, many));
    path = leaf_path_short n;
    lower = bounds_short (λ e. e.header.jsn < n) (lower_journal h n) (kept_before h n (lower_journal h n) (nearest_lower h lawful n));
    lower_path = mark_path_short (lower_journal h n);
    upper = bounds_short (λ e. n < e.header.jsn) (upper_journal h n) (kept_behind h n (upper_journal h n) (nearest_upper h lawful n));
  }

  pub shown_spelled : (es : List (List ℕ)) (n : ℕ) → length es ≤ NOTARY_LIMIT → n < model.size h → IsProof (shown_of h es n)
  shown_spelled es n most less =
      let parts = parts_in h n in
      let lower = index_of parts.lower in
      let upper = index_of parts.upper in
      let noted = noted_in es lower upper in
      let noted_is : IsNotedOf es lower upper noted = record { size_is = refl; lower_is = refl; upper_is = refl } in
      let parts_are : ArePartsOf h n parts = record { leaf_is = refl; path_is = refl; lower_is = bounds_in h (lower_journal h n); lower_path_is = refl; upper_is = bounds_in h (upper_journal h n) } in
      subst IsProof (shown_same h es (model.size h) n parts noted refl parts_are noted_is)
      (has_spelling (model.size h) n parts noted es (omega (arith, few)) (omega (arith, few, less)) (parts_short n less)
      (record { size = count_fits (is_some lower || is_some upper) (length es) most; lower = index_short es lower most; upper = index_short es upper most }) noted_is)
