-- A lineage that is accepted tells the list's journals, or it clashes with them.
use Rattle.std.proofs.Common.{◌≡◌, ◌⊎◌, inl, inr, ℕ, ◌<◌, List, [], ◌∷◌, length, map, get_or, Some, None, Result, Ok, Err, refl, sym, ap, subst, ◌∙◌}
use Rattle.std.specs.Prelude.{is_some, IsOk}
use Rattle.std.specs.Result.{is_ok}
use Rattle.std.specs.List.{AllByRecursion}
use Rattle.std.proofs.lemmas.List.{get_or-map}
use Rattle.ledger_bytes.specs.Digests.{digest}
use Rattle.ledger_bytes.specs.declared.digest.Digest.{Digest}
use Rattle.ledger_bytes.specs.declared.failure.Bad.{Bad}
use Rattle.journal_record.specs.Header as headers
use Rattle.tree_model.specs.Tree.{Hash, leaf, mth}
use Rattle.tree_model.specs.Clash.{Clashes}
use Rattle.tree_model.proofs.Folds.{fold_bytes_parts}
use Rattle.tree_model.proofs.PathClashes.{Makes}
use Rattle.merkle_tree.specs.declared.clash.Clash.{Clash as ClashRecord}
use Rattle.merkle_tree.specs.declared.head.Head.{Head}
use Rattle.merkle_tree.specs.Strings.{pair_of}
use Rattle.audit_core.specs.Parts.{first_of_parts, IsClashOf}
use Rattle.audit_core.proofs.PartLaws.{told_same, same_told, Agree, first_none, placed_leads_on}
use Rattle.clue_lineage.specs.declared.answer.Run.{Run}
use Rattle.clue_lineage.specs.declared.answer.LineageNo.{LineageNo}
use Rattle.clue_lineage.specs.declared.answer.LineageNo.TheVariants.{Malformed}
use Rattle.clue_lineage.specs.declared.answer.LineageVerdict.{LineageVerdict}
use Rattle.clue_lineage.specs.declared.answer.LineageVerdict.TheVariants.{Unaccepted, True, Clash}
use Rattle.clue_lineage.specs.Lineages.{LineageItem, Lineage}
use Rattle.clue_lineage.specs.Reading.{lineage_of, break_of}
use Rattle.clue_lineage.specs.Accepting.{acceptance_under, acceptance_of, acceptance}
use Rattle.clue_lineage.specs.Judging.{own_head, own_acceptance, IsOf, AreOfList, IsTrueOf, Gives, parts_of, clash_in, clash_of, Judges, JudgesRead}
use Rattle.clue_lineage.proofs.Accepted.{under_passes}

module _ (hash : Hash) (list : List (List ℕ)) where
  pub gives_of : (clue : Digest) (l : Lineage) (run : Run) → acceptance_under hash clue (own_head hash list) l ≡ Ok run → AllByRecursion (Gives hash list) l.items
  gives_of clue l run e = (under_passes hash clue (own_head hash list) l run e).lead

  pub seen_under : (clue : Digest) (own : Head) (l : Lineage) (answer : Result Run LineageNo) → own ≡ own_head hash list → answer ≡ acceptance_under hash clue own l
      → acceptance_under hash clue (own_head hash list) l ≡ answer
  seen_under clue own l answer own_is e = sym (e ∙ ap (λ (h : Head). acceptance_under hash clue h l) own_is)

  item_within : (item : LineageItem) → Gives hash list item → item.header.jsn < length list
  item_within item gives = (fold_bytes_parts hash (leaf hash (headers.spelling item.header)) item.header.jsn (length list) item.path (ap is_some gives)).0

  -- where all parts agree each journal is the list's
  pub agree_of : (items : List LineageItem) → AllByRecursion (Gives hash list) items → Agree (parts_of hash list items) → AllByRecursion (IsOf list) items
  agree_of [] gives agree = tt
  agree_of (item ∷ more) gives agree = (
    record { within = item_within item gives.0; stands = sym (told_same (headers.spelling item.header) (get_or list item.header.jsn []) agree.1.0) },
    agree_of more gives.1 agree.1.1,
  )

  -- and the other way round
  pub of_agree : (items : List LineageItem) → AllByRecursion (IsOf list) items → Agree (parts_of hash list items)
  of_agree [] all = tt
  of_agree (item ∷ more) all =
      let there : get_or (map (leaf hash) list) item.header.jsn [] ≡ leaf hash (get_or list item.header.jsn []) = get_or-map (leaf hash) list item.header.jsn [] [] all.0.within in (
        same_told (leaf hash (headers.spelling item.header)) _ (ap (leaf hash) (sym all.0.stands) ∙ sym there),
        (same_told (headers.spelling item.header) _ (sym all.0.stands), of_agree more all.1),
      )

  pub not_of : (items : List LineageItem) (pair : List ℕ × List ℕ) → first_of_parts (parts_of hash list items) ≡ Some pair → AllByRecursion (IsOf list) items → ⊥
  not_of items pair found all = absurd (let never : None ≡ Some pair = sym (first_none (parts_of hash list items) (of_agree items all)) ∙ found in cc)

  ok_so : (clue : Digest) (l : Lineage) (run : Run) → acceptance_under hash clue (own_head hash list) l ≡ Ok run → IsOk (acceptance_under hash clue (own_head hash list) l)
  ok_so clue l run e = ap is_ok e

  pub read_true : (clue : Digest) (l : Lineage) (run : Run) (items : List LineageItem) → items ≡ l.items → acceptance_under hash clue (own_head hash list) l ≡ Ok run
      → Agree (parts_of hash list items) → JudgesRead hash list clue l True
  read_true clue l run items is e agree =
      (ok_so clue l run e, agree_of l.items (gives_of clue l run e) (subst (λ (xs : List LineageItem). Agree (parts_of hash list xs)) is agree))

  pub read_clash : (clue : Digest) (l : Lineage) (run : Run) (items : List LineageItem) (clash : ClashRecord) → items ≡ l.items → acceptance_under hash clue (own_head hash list) l ≡ Ok run
      → IsClashOf hash (first_of_parts (parts_of hash list items)) (pair_of clash) → JudgesRead hash list clue l (Clash clash)
  read_clash clue l run items clash is e found =
      let own : IsClashOf hash (first_of_parts (parts_of hash list l.items)) (pair_of clash) = subst (λ (xs : List LineageItem). IsClashOf hash (first_of_parts (parts_of hash list xs)) (pair_of clash)) is found in
      (ok_so clue l run e, not_of l.items (pair_of clash) own.found_is, own)

  -- ---- what was read

  module _ (bytes : List ℕ) (clue : Digest) where
    pub unread : (bad : Bad) (at : ℕ) → Err bad ≡ lineage_of bytes → at ≡ break_of bad → own_acceptance hash list bytes clue ≡ Err (Malformed at)
    unfolding acceptance
    unread bad at read is = ap (acceptance_of hash clue (own_head hash list)) (sym read) ∙ ap (λ n. Err (Malformed n)) (sym is)

    pub judged : (l : Lineage) (verdict : LineageVerdict) → Ok l ≡ lineage_of bytes → JudgesRead hash list clue l verdict → Judges hash list bytes clue verdict
    unfolding acceptance IsTrueOf clash_of
    judged l (Unaccepted why) read it = rw (← read) it
    judged l True read it = rw (← read) it
    judged l (Clash clash) read it = rw (← read) it

    module _ (makes : Makes hash) where
      tells : (items : List LineageItem) → AllByRecursion (Gives hash list) items → AllByRecursion (IsOf list) items ⊎ Clashes hash (first_of_parts (parts_of hash list items))
      tells [] gives = inl tt
      tells (item ∷ more) gives =
          placed_leads_on hash makes list (headers.spelling item.header) item.header.jsn item.path gives.0 (AllByRecursion (IsOf list) (item ∷ more)) (parts_of hash list more)
          (λ same. with_first item more (record { within = item_within item gives.0; stands = sym same }) (tells more gives.1)) where
            with_first : (item : LineageItem) (more : List LineageItem) → IsOf list item → AllByRecursion (IsOf list) more ⊎ Clashes hash (first_of_parts (parts_of hash list more))
                → AllByRecursion (IsOf list) (item ∷ more) ⊎ Clashes hash (first_of_parts (parts_of hash list more))
            with_first item more first (inl rest) = inl (first, rest)
            with_first item more first (inr clashes) = inr clashes

head_same : (hash : Hash) (list : List (List ℕ)) (head : Head) → length list ≡ head.size → mth hash list ≡ head.root.0 → head ≡ own_head hash list
head_same hash list head size root =
    let made : ℕ → List ℕ → Head = λ n bytes. record { size = n; root = digest bytes } in
    ap (λ n. made n head.root.0) (sym size) ∙ ap (made (length list)) (sym root)

pub accepted_true : (hash : Hash) → Makes hash → (bytes : List ℕ) (clue : Digest) (head : Head) (run : Run) (list : List (List ℕ)) → acceptance hash bytes clue head ≡ Ok run → length list ≡ head.size → mth hash list ≡ head.root.0
    → IsTrueOf list bytes ⊎ Clashes hash (clash_of hash list bytes)
unfolding acceptance IsTrueOf clash_of
accepted_true hash makes bytes clue head run list e size root = by (lineage_of bytes) refl where
  by : (read : Result Lineage Bad) → lineage_of bytes ≡ read → AreOfList list read ⊎ Clashes hash (clash_in hash list read)
  by (Err bad) is = absurd (let never : Err (Malformed (break_of bad)) ≡ Ok run = ap (acceptance_of hash clue head) (sym is) ∙ e in cc)
  by (Ok l) is =
      let own : acceptance_under hash clue (own_head hash list) l ≡ Ok run = ap (λ (h : Head). acceptance_under hash clue h l) (sym (head_same hash list head size root)) ∙ ap (acceptance_of hash clue head) (sym is) ∙ e in
      tells hash list bytes clue makes l.items (gives_of hash list clue l run own)
