-- What is found where two things that should be one have one digest: nothing where they are one, or else a clash.
use Rattle.std.proofs.Common.{◌≡◌, ◌≢◌, ℕ, inl, inr, List, Option, Some, None, sym, ◌∙◌}
use Rattle.std.specs.Str.{bytes_eq}
use Rattle.std.proofs.lemmas.Bool.{cases_Bool, false≢true}
use Rattle.std.proofs.lemmas.Slice.Eq.{bytes_eq-Decides}
use Rattle.tree_model.specs.Tree.{Hash}
use Rattle.tree_model.specs.Clash.{IsClash, or_below}
use Rattle.std.specs.Option.{option_or}

-- nothing is found, and it is so; or the pair that is found is a clash
abbrev pub Found : Hash → Option (List ℕ × List ℕ) → Type 0 → Type 0
Found hash None same = same
Found hash (Some pair) same = IsClash hash pair.0 pair.1

module _ (hash : Hash) where
  -- first one thing is looked at, and then another
  pub found_else : (P Q R : Type 0) (a b : Option (List ℕ × List ℕ)) → Found hash a P → (P → Found hash b Q) → (P → Q → R) → Found hash (option_or a b) R
  found_else P Q R None None p q f = f p (q p)
  found_else P Q R None (Some t) p q f = q p
  found_else P Q R (Some t) b p q f = p

  -- two strings with one digest differ, or what is below is looked at
  pub found_below : (R : Type 0) (told truth : List ℕ) (below : Option (List ℕ × List ℕ)) → hash told ≡ hash truth → (told ≡ truth → Found hash below R) → Found hash (or_below told truth below) R
  found_below R told truth below one later = elim (cases_Bool (bytes_eq told truth)) [
    | inl same ↦ rw same (later ((bytes_eq-Decides told truth).0 same))
    | inr other ↦
        let differ : told ≢ truth = λ e. false≢true (sym other ∙ (bytes_eq-Decides told truth).1 e) in
        rw other (record { differ = differ; one_digest = one })
  ]

  -- what is so has consequences
  pub found_then : (P Q : Type 0) (a : Option (List ℕ × List ℕ)) → (P → Q) → Found hash a P → Found hash a Q
  found_then P Q None f p = f p
  found_then P Q (Some t) f p = p
