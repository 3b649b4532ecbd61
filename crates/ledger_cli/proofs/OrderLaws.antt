-- Lemmas on the lines that a session takes, each window's in some order.
use Rattle.std.proofs.Common.{◌≡◌, ℕ, ◌^◌, ◌<◌, ◌⊎◌, inl, inr, List, [], ◌∷◌, ◌++◌, length, map, refl, ap, sym, subst, ◌∙◌, append_assoc, append-nil}
use Rattle.std.proofs.lemmas.List.{map-append}
use Rattle.time_peg.specs.Entries.{NotaryState, IsList}
use Rattle.ledger_model.specs.Dues.{all_dues}
use Rattle.ledger_model.specs.History.{History, close}
use Rattle.ledger_model.specs.Merge.{said_by, IsMergeOf, IsMerge}
use Rattle.ledger_model.specs.Rules.{after}
use Rattle.ledger_model.specs.Scheme.{Scheme}
use Rattle.ledger_model.specs.Step.{Step}
use Rattle.ledger_model.specs.Windows.{Said, said_lines, windows}
use Rattle.ledger_model.proofs.CountLaws.{script_counted}
use Rattle.ledger_model.proofs.GrowLaws.{close_settled}
use Rattle.ledger_model.proofs.LaneLaws.{with_last, windows_on, windows_end}
use Rattle.ledger_model.proofs.WindowLaws.{IsCut}
use Rattle.ledger_cli.specs.Taken.{AllUnasked, EachUnasked, TakesFirst}
use Rattle.ledger_cli.proofs.CountedLaws.{counted_on}
use Rattle.ledger_cli.proofs.LineLaws.{reached, owed, after_none, with_end, on_windows, on_stays, window_on, dues_on, GoesOn, Counted}
use Rattle.ledger_cli.proofs.MergeLaws.{IsOrder, order_append, order_merge, order_same, order_none, none_order, merges_append, all_unasked, said_unasked, unasked_merge, unasked_merges, are_unasked, each_unasked, AllNumbered, EachNumbered, merge_numbered, numbered_first, numbered_parts}
use Rattle.ledger_cli.proofs.NotaryLaws.{TookOn}

-- ---- a run that goes on

-- steps of windows begin with whole ones and the first steps of the next; the notary had no part in the others
abbrev pub IsBegun : NotaryState → List (List Step) → List (List Step) → List Step → Type 0
IsBegun n all done current =
    ((rest : List Step) × (more : List (List Step)) × (all ≡ done ++ (current ++ rest) ∷ more) × AllUnasked n rest × EachUnasked n more)
    ⊎ ((current ≡ []) × (all ≡ done))

pub record GoesOnSo (n : NotaryState) (script : List (List ℕ)) (done : List (List Step)) (current : List Step) (tail : List (List ℕ)) : Type 0 where
  pub all : List (List Step)
  pub merge : IsMerge (windows (said_lines (script ++ tail))) all
  pub begun : IsBegun n all done current

-- these steps were taken, and whatever follows in the script, there is a merge that goes on from there: they are a part of a merge
abbrev pub CanGoOn : NotaryState → List (List ℕ) → List (List Step) → List Step → Type 0
CanGoOn n script done current = (tail : List (List ℕ)) → GoesOnSo n script done current tail

-- lines behind some steps
said_behind : (n : NotaryState) (current : List Step) (rest : List Said) → map said_by (current ++ all_unasked n rest) ≡ map said_by current ++ rest
said_behind n current rest = map-append said_by current (all_unasked n rest) ∙ ap (λ (l : List Said). map said_by current ++ l) (said_unasked n rest)

merge_behind : (n : NotaryState) (window : List Said) (current : List Step) (rest : List Said) → IsOrder window (map said_by current ++ rest) → IsMergeOf window (current ++ all_unasked n rest)
merge_behind n window current rest o = order_merge window (current ++ all_unasked n rest) (subst (IsOrder window) (sym (said_behind n current rest)) o)

-- of a window at hand, some lines weren't taken yet
pub part_open : (n : NotaryState) (script : List (List ℕ)) (windows_are : List (List Said)) (front : List Said) (done : List (List Step)) (current : List Step) (rest : List Said)
    → IsCut (said_lines script) windows_are front → IsMerge windows_are done → IsOrder front (map said_by current ++ rest) → CanGoOn n script done current
part_open n script ws front done current rest cut merge order tail =
    elim (windows_on script tail ws front cut) [
      | inl on ↦ record {
        all = done ++ (current ++ all_unasked n (rest ++ on.rest)) ∷ map (all_unasked n) on.more;
        merge =
            subst (λ w. IsMerge w (done ++ (current ++ all_unasked n (rest ++ on.rest)) ∷ map (all_unasked n) on.more)) (sym on.is)
            (merges_append ws ((front ++ on.rest) ∷ on.more) done ((current ++ all_unasked n (rest ++ on.rest)) ∷ map (all_unasked n) on.more) merge (
              merge_behind n (front ++ on.rest) current (rest ++ on.rest)
                  (subst (IsOrder (front ++ on.rest)) (append_assoc (map said_by current) rest on.rest) (order_append front on.rest (map said_by current ++ rest) on.rest order (order_same on.rest))),
              unasked_merges n on.more,
            ));
        begun = inl (all_unasked n (rest ++ on.rest), map (all_unasked n) on.more, refl, are_unasked n (rest ++ on.rest), each_unasked n on.more);
      }
      | inr stays ↦
          let none : map said_by current ++ rest ≡ [] = order_none (map said_by current ++ rest) (subst (λ f. IsOrder f (map said_by current ++ rest)) stays.0 order) in record {
            all = done;
            merge = subst (λ w. IsMerge w done) (sym stays.1) merge;
            begun = inr (first_none current rest none, refl);
          }
    ]
  where
    first_none : (xs : List Step) (ys : List Said) → map said_by xs ++ ys ≡ [] → xs ≡ []
    first_none [] ys e = refl
    first_none (x ∷ xs) ys e = absurd (let no : ⊥ = cc in no)

-- .. of one that is whole
pub part_whole : (n : NotaryState) (script : List (List ℕ)) (windows_are : List (List Said)) (last : List Said) (done : List (List Step)) (current : List Step) (rest : List Said)
    → IsCut (said_lines script) (windows_are ++ last ∷ []) [] → IsMerge windows_are done → IsOrder last (map said_by current ++ rest) → CanGoOn n script done current
part_whole n script ws last done current rest cut merge order tail =
    elim (windows_on script tail (ws ++ last ∷ []) [] cut) [
      | inl on ↦ record {
        all = done ++ (current ++ all_unasked n rest) ∷ (all_unasked n on.rest ∷ map (all_unasked n) on.more);
        merge =
            subst (λ w. IsMerge w (done ++ (current ++ all_unasked n rest) ∷ (all_unasked n on.rest ∷ map (all_unasked n) on.more))) (sym (on.is ∙ append_assoc ws (last ∷ []) (on.rest ∷ on.more)))
            (merges_append ws (last ∷ (on.rest ∷ on.more)) done ((current ++ all_unasked n rest) ∷ (all_unasked n on.rest ∷ map (all_unasked n) on.more)) merge
            (merge_behind n last current rest order, (unasked_merge n on.rest, unasked_merges n on.more)));
        begun = inl (all_unasked n rest, all_unasked n on.rest ∷ map (all_unasked n) on.more, refl, are_unasked n rest, (are_unasked n on.rest, each_unasked n on.more));
      }
      | inr stays ↦ record {
        all = done ++ (current ++ all_unasked n rest) ∷ [];
        merge = subst (λ w. IsMerge w (done ++ (current ++ all_unasked n rest) ∷ [])) (sym stays.1) (merges_append ws (last ∷ []) done ((current ++ all_unasked n rest) ∷ []) merge (merge_behind n last current rest order, tt));
        begun = inl (all_unasked n rest, [], refl, are_unasked n rest, tt);
      }
    ]

pub begun_goes : (scheme : Scheme) (h : History) (n : NotaryState) (all done : List (List Step)) (current : List Step) → IsBegun n all done current → GoesOn scheme done current h all
begun_goes scheme h n all done current (inl b) = subst (GoesOn scheme done current h) (sym b.2) (on_windows scheme h done current b.0 b.1)
begun_goes scheme h n all done current (inr b) =
    subst (λ (w : List (List Step)). GoesOn scheme done current h w) (sym b.1) (subst (λ (c : List Step). GoesOn scheme done c h done) (sym b.0) (on_stays scheme h done))

-- steps that weren't taken come behind those that were
pub record StandsBehind (n : NotaryState) (all done : List (List Step)) (current : List Step) : Type 0 where
  pub rest : List (List Step)
  pub split : all ≡ done ++ rest
  pub first : TakesFirst n current rest

pub begun_behind : (n : NotaryState) (all done : List (List Step)) (current behind : List Step) → IsBegun n all done (current ++ behind) → AllUnasked n behind → StandsBehind n all done current
begun_behind n all done current behind (inl b) u = record {
  rest = ((current ++ behind) ++ b.0) ∷ b.1;
  split = b.2;
  first = (behind ++ b.0, append_assoc current behind b.0, unasked_both behind b.0 u b.3, b.4);
}
  where
    unasked_both : (xs ys : List Step) → AllUnasked n xs → AllUnasked n ys → AllUnasked n (xs ++ ys)
    unasked_both [] ys a c = c
    unasked_both (x ∷ xs) ys a c = (a.0, unasked_both xs ys a.1 c)
begun_behind n all done current behind (inr b) u = record { rest = []; split = b.1 ∙ sym (append-nil done); first = first_none current behind b.0 }
  where
    first_none : (xs ys : List Step) → xs ++ ys ≡ [] → xs ≡ []
    first_none [] ys e = refl
    first_none (x ∷ xs) ys e = absurd (let no : ⊥ = cc in no)

begun_numbered : (n : NotaryState) (all done : List (List Step)) (current : List Step) → IsBegun n all done current → EachNumbered all → EachNumbered done × AllNumbered current
begun_numbered n all done current (inl b) e = numbered_parts done current b.0 b.1 (subst EachNumbered b.2 e)
begun_numbered n all done current (inr b) e = (subst EachNumbered b.1 e, subst AllNumbered (sym b.0) tt)

pub parts_of : (scheme : Scheme) (h : History) (first n : NotaryState) (script : List (List ℕ)) (done : List (List Step)) (current behind : List Step) → CanGoOn n script done (current ++ behind) → length script < 2 ^ 64 → IsList first.entries → TookOn scheme h first done current n → Counted done current
parts_of scheme h first n script done current behind c few list t =
    let g = c [] in
    let few_here : length (script ++ []) < 2 ^ 64 = subst (λ l. length l < 2 ^ 64) (sym (append-nil script)) few in
    let numbers = begun_numbered n g.all done (current ++ behind) g.begun (merge_numbered (windows (said_lines (script ++ []))) g.all g.merge (script_counted (script ++ []) few_here)) in
    counted_on scheme h first n done current list numbers.0 (numbered_first current behind numbers.1) t

-- ---- a script that has ended

pub last_merge : (script : List (List ℕ)) (windows_are : List (List Said)) (front : List Said) (done : List (List Step)) (current : List Step)
    → IsCut (said_lines script) windows_are front → IsMerge windows_are done → IsOrder front (map said_by current) → IsMerge (windows (said_lines script)) (with_end done current)
last_merge script ws front done current cut merge order = subst (λ w. IsMerge w (with_end done current)) (sym (windows_end (said_lines script) ws front cut)) (both front current order)
  where
    both : (f : List Said) (c : List Step) → IsOrder f (map said_by c) → IsMerge (with_last ws f) (with_end done c)
    both [] [] o = merge
    both [] (c ∷ cs) o = absurd (let e = order_none (said_by c ∷ map said_by cs) o in let no : ⊥ = cc in no)
    both (f ∷ fs) [] o = absurd (let e = none_order (f ∷ fs) o in let no : ⊥ = cc in no)
    both (f ∷ fs) (c ∷ cs) o = merges_append ws ((f ∷ fs) ∷ []) done ((c ∷ cs) ∷ []) merge (order_merge (f ∷ fs) (c ∷ cs) o, tt)

pub last_after : (scheme : Scheme) (h : History) (done : List (List Step)) (current : List Step) → h.waiting ≡ [] → close (reached scheme done current h) ≡ after scheme h (with_end done current)
last_after scheme h done [] none = sym (close_settled (after scheme h done) (after_none scheme h done none))
last_after scheme h done (x ∷ xs) none = window_on scheme h done (x ∷ xs)

pub last_owed : (scheme : Scheme) (h : History) (done : List (List Step)) (current : List Step) → owed scheme done current h ≡ all_dues scheme h (with_end done current)
last_owed scheme h done [] = append-nil (all_dues scheme h done)
last_owed scheme h done (x ∷ xs) = dues_on scheme h done (x ∷ xs) ∙ append-nil (all_dues scheme h (done ++ (x ∷ xs) ∷ []))
