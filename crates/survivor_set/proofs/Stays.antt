-- What was kept of a history is of each later one.
use Rattle.std.specs.Prelude.{All, slice_get}
use Rattle.std.specs.List.{concat}
use Rattle.std.proofs.Common.{◌≡◌, ℕ, zero, suc, ◌≤◌, List, [], ◌∷◌, ◌++◌, map, take, Some, sym, ap, ◌∙◌, subst, arith}
use Rattle.std.proofs.lemmas.List.{length-map, map-append, take-append-le}
use Rattle.std.proofs.lemmas.List.Elements.{All-nil, All-cons}
use Rattle.sha2.specs.Sha256.{sha256}
use Rattle.tree_model.specs.Path.{path}
use Rattle.ledger_bytes.specs.Begins.{Begins}
use Rattle.journal_record.specs.Items.{Item}
use Rattle.ledger_model.specs.History.{History, journals, size, leaf_digest}
use Rattle.ledger_model.specs.Lawful.{AreLawful}
use Rattle.ledger_model.proofs.HideLaws.{number_at}
use Rattle.ledger_model.proofs.LawfulLaws.{lawful_from}
use Rattle.survivor_set.specs.Sets.{Saved, SavedSet}
use Rattle.survivor_set.specs.Keeping.{IsKeptAt, AreKept, IsSetOf}
use Rattle.survivor_set.specs.Outcomes.{AreJournalsOf, IsSurvivorOf, path_below}

pub slice_more : {A : Type 0} (xs ys : List A) (n : ℕ) (e : A) → slice_get xs n ≡ Some e → slice_get (xs ++ ys) n ≡ Some e
slice_more [] ys n e is = absurd cc
slice_more (x ∷ xs) ys zero e is = is
slice_more (x ∷ xs) ys (suc n) e is = slice_more xs ys n e is

module _ (h g : History) (p : ℕ) (begins : Begins (journals h) (journals g)) (within : p ≤ size h) where
  pub same_leaves : take p (map leaf_digest (journals g)) ≡ take p (map leaf_digest (journals h))
  same_leaves =
      ap (λ js. take p (map leaf_digest js)) begins.is ∙ ap (take p) (map-append leaf_digest (journals h) begins.rest)
      ∙ take-append-le p (map leaf_digest (journals h)) (map leaf_digest begins.rest) (omega (arith, within, length-map (journals h) leaf_digest))

  module _ (lawful : AreLawful (journals h)) where
    pub stays_number : (n : ℕ) (x : Saved) → IsKeptAt h p n x → x.item.header.jsn ≡ n
    stays_number n x is = ap (λ (i : Item). i.header.jsn) is.item_is ∙ number_at 0 n (journals h) is.e (lawful_from (journals h) lawful) is.there ∙ (omega arith)

    pub stays_one : (n : ℕ) (x : Saved) → IsKeptAt h p n x → IsSurvivorOf g p x
    stays_one n x is =
        let header = ap (λ (i : Item). i.header) is.item_is in
        let number = stays_number n x is in
        record {
          e = is.e;
          there = ap (slice_get (journals g)) number ∙ ap (λ js. slice_get js n) begins.is ∙ slice_more (journals h) begins.rest n is.e is.there;
          header_is = header;
          path_is = is.path_is ∙ ap (λ ds. concat (path sha256 n ds)) (sym same_leaves) ∙ ap (path_below g p) (sym number);
        }

    stays_each : (ns : List ℕ) (xs : List Saved) → AreKept h p ns xs → All (IsSurvivorOf g p) xs
    stays_each [] [] are = All-nil (IsSurvivorOf g p)
    stays_each [] (x ∷ xs) are = absurd are
    stays_each (n ∷ ns) [] are = absurd are
    stays_each (n ∷ ns) (x ∷ xs) are = All-cons (IsSurvivorOf g p) x xs (stays_one n x are.0) (stays_each ns xs are.1)

pub stays_of : (h g : History) (p : ℕ) (ns : List ℕ) (s : SavedSet) → AreLawful (journals h) → Begins (journals h) (journals g) → p ≤ size h → IsSetOf h p ns s → AreJournalsOf g s
stays_of h g p ns s lawful begins within is = subst (λ (q : ℕ). All (IsSurvivorOf g q) s.survivors) (sym is.point_is) (stays_each h g p begins within lawful ns s.survivors is.are)
