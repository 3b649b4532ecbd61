-- What a signature tells otherwise than secrets, from the leaf of its one-time key down.
use Rattle.std.proofs.Common.{◌≡◌, ◌≢◌, ℕ, ◌<◌, Bool, true, false, if◌then◌else◌, List, [], ◌∷◌, length, map, get_or, Option, Some, None, refl, sym, ap, ap₂, ◌∙◌, arith}
use Rattle.std.specs.Str.{bytes_eq}
use Rattle.std.proofs.lemmas.Bool.{false≢true}
use Rattle.std.proofs.lemmas.List.{length-map}
use Rattle.std.proofs.lemmas.Slice.Eq.{bytes_eq-Decides}
use Rattle.tree_model.specs.Tree.{Hash, leaf, cut}
use Rattle.std.specs.List.{concat}
use Rattle.tree_model.proofs.Pieces.{cut-concat, cut-width}
use Rattle.tree_model.proofs.PathClashes.{Makes}
use Rattle.chain_sign.proofs.Walks.{ends_long}
use Rattle.tree_model.specs.Clash.{or_below, path_clash}
use Rattle.chain_sign.specs.Digits.{digits}
use Rattle.std.specs.Option.{option_or}
use Rattle.chain_sign.specs.Lists.{lists_clash}
use Rattle.chain_sign.specs.Steps.{chains_clash}
use Rattle.chain_sign.specs.Chain.{Signature, values_at, ends_at, starts, one_time, one_times}
use Rattle.chain_sign.specs.Signing.{leaf_clash}
use Rattle.chain_sign.proofs.Apart.{or_none, or_some}
use Rattle.chain_sign.proofs.Judging.{get_or-map_at}

module _ (a b told truth : List ℕ) (below : Option (List ℕ × List ℕ)) (ai : a ≡ 0 ∷ told) (bi : b ≡ 0 ∷ truth) where
  pub below_some : (pair : List ℕ × List ℕ) → Some pair ≡ or_below a b None → Some pair ≡ or_below (0 ∷ told) (0 ∷ truth) below
  below_some pair e = or_some a b pair below e ∙ ap₂ (λ x y. or_below x y below) ai bi

  pub below_on : (found : Option (List ℕ × List ℕ)) → None ≡ or_below a b None → found ≡ below → found ≡ or_below (0 ∷ told) (0 ∷ truth) below
  below_on found none is = is ∙ or_none a b below none ∙ ap₂ (λ x y. or_below x y below) ai bi

module _ (hash : Hash) (keys : List (List (List ℕ))) (m : List ℕ) (s : Signature) (within : s.index < length keys) (piece told truth l r ds : List ℕ)
    (ds_is : ds ≡ digits m) (piece_is : cut 32 piece ≡ get_or keys s.index []) (told_is : told ≡ one_time hash ds (cut 32 s.values)) (truth_is : truth ≡ one_time hash starts (cut 32 piece))
    (l_is : l ≡ leaf hash told) (r_is : r ≡ leaf hash truth) where
  -- what is found by these
  abbrev by_parts : List ℕ → List ℕ → List ℕ → List ℕ → List ℕ → List (List ℕ) → Option (List ℕ × List ℕ)
  by_parts d t u lt lu x =
      if bytes_eq lt lu then or_below (0 ∷ t) (0 ∷ u)
      (option_or (lists_clash hash (ends_at hash 0 d (cut 32 s.values)) (ends_at hash 0 starts x)) (chains_clash hash 0 d (cut 32 s.values) (values_at hash 0 d x)))
      else path_clash hash lt s.index (map (leaf hash) (one_times hash keys)) (cut 32 s.path)

  pub at : get_or (one_times hash keys) s.index [] ≡ truth
  at = get_or-map_at (one_time hash starts) [] keys s.index within ∙ sym (truth_is ∙ ap (one_time hash starts) piece_is)

  whole : by_parts ds told truth l r (cut 32 piece) ≡ leaf_clash hash keys m s
  whole =
      let told_at : told ≡ one_time hash (digits m) (cut 32 s.values) = told_is ∙ ap (λ d. one_time hash d (cut 32 s.values)) ds_is in
      ap₂ (λ lt lu. by_parts ds told truth lt lu (cut 32 piece)) l_is r_is
      ∙ ap₂ (λ d x. by_parts d told truth (leaf hash told) (leaf hash truth) x) ds_is piece_is
      ∙ ap₂ (λ t u. by_parts (digits m) t u (leaf hash t) (leaf hash u) (get_or keys s.index [])) told_at (sym at)

  pub leaf_other : (found : Option (List ℕ × List ℕ)) (test : Bool) → test ≡ bytes_eq l r → test ≡ false → path_clash hash l s.index (map (leaf hash) (one_times hash keys)) (cut 32 s.path) ≡ found → found ≡ leaf_clash hash keys m s
  leaf_other found test ti no' is =
      let out : bytes_eq l r ≡ false = sym ti ∙ no' in
      sym is ∙ sym (rw out refl) ∙ whole

  pub leaf_same : (found : Option (List ℕ × List ℕ)) (test : Bool) → test ≡ bytes_eq l r → test ≡ true
      → found ≡ or_below (0 ∷ told) (0 ∷ truth) (option_or (lists_clash hash (ends_at hash 0 ds (cut 32 s.values)) (ends_at hash 0 starts (cut 32 piece))) (chains_clash hash 0 ds (cut 32 s.values) (values_at hash 0 ds (cut 32 piece)))) → found ≡ leaf_clash hash keys m s
  leaf_same found test ti yes' is =
      let in' : bytes_eq l r ≡ true = sym ti ∙ yes' in
      is ∙ sym (rw in' refl) ∙ whole

  -- the leaf isn't the list's
  pub leaf_is_other : (test : Bool) → test ≡ bytes_eq l r → test ≡ false → (keysb : List ℕ) → cut 32 keysb ≡ one_times hash keys → l ≢ get_or (map (leaf hash) (cut 32 keysb)) s.index []
  leaf_is_other test ti no' keysb ki e =
      let there : s.index < length (one_times hash keys) = omega (arith, length-map keys (one_time hash starts)) in
      let place : get_or (map (leaf hash) (cut 32 keysb)) s.index [] ≡ r = ap (λ t. get_or (map (leaf hash) t) s.index []) ki ∙ get_or-map_at (leaf hash) [] (one_times hash keys) s.index there ∙ ap (leaf hash) at ∙ sym r_is in
      false≢true (sym (sym ti ∙ no') ∙ (bytes_eq-Decides l r).1 (e ∙ place))

-- ends that are written are read again
pub cut_ends : (hash : Hash) → Makes hash → (ds values written : List ℕ) → written ≡ concat (ends_at hash 0 ds (cut 32 values)) → cut 32 written ≡ ends_at hash 0 ds (cut 32 values)
cut_ends hash makes ds values written is = ap (cut 32) is ∙ cut-concat 32 (omega arith) (ends_at hash 0 ds (cut 32 values)) (ends_long hash makes 0 ds (cut 32 values) (cut-width 32 values))
