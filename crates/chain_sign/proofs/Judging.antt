-- A signature that shows the key of known secrets is by these, or shows a clash.
use Rattle.std.proofs.Common.{◌≡◌, ◌≢◌, ℕ, zero, suc, ◌%◌, ◌^◌, ◌<◌, ◌≤◌, if◌then◌else◌, inl, inr, List, [], ◌∷◌, ◌++◌, length, map, get_or, take, drop, replicate, All, Option, Some, refl, sym, ap, ◌∙◌, subst, arith, take_at, drop_at}
use Rattle.std.specs.Prelude.{is_some}
use Rattle.std.specs.Str.{bytes_eq}
use Rattle.std.specs.Int.{w32, to_be_bytes, from_be_bytes}
use Rattle.std.proofs.lemmas.Bool.{cases_Bool, false≢true}
use Rattle.std.proofs.lemmas.Nat.{from_be_bytes-to_be_bytes_4}
use Rattle.std.proofs.lemmas.List.{length-map}
use Rattle.std.proofs.lemmas.List.Elements.{All-map, All-from_get_or}
use Rattle.std.proofs.lemmas.Slice.Eq.{bytes_eq-Decides}
use Rattle.tree_model.specs.Tree.{Hash, leaf, mth, cut}
use Rattle.tree_model.specs.Path.{fold}
use Rattle.tree_model.specs.Clash.{Clashes, or_below, path_clash}
use Rattle.tree_model.proofs.Folds.{fold_bytes_whole, fold_bytes_even}
use Rattle.tree_model.proofs.PathClashes.{Makes, AreDigests, path_clashes}
use Rattle.tree_model.proofs.Pieces.{cut-width}
use Rattle.chain_sign.specs.Digits.{digits}
use Rattle.std.specs.Option.{option_or}
use Rattle.chain_sign.specs.Lists.{lists_clash}
use Rattle.chain_sign.specs.Steps.{chains_clash}
use Rattle.chain_sign.specs.Chain.{Signature, values_at, ends_at, starts, one_time, one_times, key_over, own_string, key_string, shown_one_time, shown_root}
use Rattle.chain_sign.specs.Signing.{root_or_nil, IsSignedBy, sign_clash}
use Rattle.chain_sign.proofs.Found.{Found, found_else, found_below}
use Rattle.chain_sign.proofs.Walks.{AreSmall, ends_of_values, chains_found, length-ends_at, length-values_at}
use Rattle.chain_sign.proofs.Lists.{lists_found}

-- a clash that a path shows is found
found_clashes : (hash : Hash) (R : Type 0) (o : Option (List ℕ × List ℕ)) → Clashes hash o → Found hash o R
found_clashes hash R o s = subst (λ (t : Option (List ℕ × List ℕ)). Found hash t R) (sym s.1) s.2

-- strings of keys are one where sizes and roots are
pub key_parts : (m n : ℕ) (x y : List ℕ) → m < 2 ^ 32 → n < 2 ^ 32 → length (to_be_bytes w32 m) ≡ length (to_be_bytes w32 n) → key_string m x ≡ key_string n y → (m ≡ n) × (x ≡ y)
key_parts m n x y mf nf len e =
    let tails : to_be_bytes w32 m ++ x ≡ to_be_bytes w32 n ++ y = cc in
    let front : to_be_bytes w32 m ≡ to_be_bytes w32 n =
    sym (take_at (to_be_bytes w32 m) x (length (to_be_bytes w32 m)) refl) ∙ ap (take (length (to_be_bytes w32 m))) tails ∙ take_at (to_be_bytes w32 n) y (length (to_be_bytes w32 m)) (sym len) in
    let back : x ≡ y =
    sym (drop_at (to_be_bytes w32 m) x (length (to_be_bytes w32 m)) refl) ∙ ap (drop (length (to_be_bytes w32 m))) tails ∙ drop_at (to_be_bytes w32 n) y (length (to_be_bytes w32 m)) (sym len) in
    (sym (from_be_bytes-to_be_bytes_4 m mf) ∙ ap (from_be_bytes w32) front ∙ from_be_bytes-to_be_bytes_4 n nf, back)

some_of : (o : Option (List ℕ)) (root : List ℕ) → o ≡ Some root → root_or_nil o ≡ root
some_of o root e = ap root_or_nil e

pub get_or-map_at : {A : Type 0} (f : A → List ℕ) (d : A) (xs : List A) (i : ℕ) → i < length xs → get_or (map f xs) i [] ≡ f (get_or xs i d)
get_or-map_at f d [] i within = absurd (omega arith)
get_or-map_at f d (x ∷ xs) zero within = refl
get_or-map_at f d (x ∷ xs) (suc i) within = get_or-map_at f d xs i (omega arith)

module _ (hash : Hash) (makes : Makes hash) (keys : List (List (List ℕ))) (message : List ℕ) (s : Signature)
    (ds_len : length (digits message) ≡ 67) (small : AreSmall (digits message)) (values_len : length (cut 32 s.values) ≡ 67)
    (each : All (λ xs. AreDigests xs × (length xs ≡ 67)) keys) (few : length keys ≤ 1024) (s_few : s.size ≤ 1024) (within : s.index < s.size) where
  -- below the leaf of the one-time key
  below_leaf : s.size ≡ length keys → hash (0 ∷ shown_one_time hash message s) ≡ hash (0 ∷ one_time hash starts (get_or keys s.index []))
      → Found hash (or_below (0 ∷ shown_one_time hash message s) (0 ∷ one_time hash starts (get_or keys s.index []))
      (option_or (lists_clash hash (ends_at hash 0 (digits message) (cut 32 s.values)) (ends_at hash 0 starts (get_or keys s.index [])))
      (chains_clash hash 0 (digits message) (cut 32 s.values) (values_at hash 0 (digits message) (get_or keys s.index []))))) (IsSignedBy hash keys message s)
  below_leaf size one =
      let ds = digits message in
      let xs = get_or keys s.index [] in
      let vs = cut 32 s.values in
      let here : s.index < length keys = omega arith in
      let is_key : AreDigests xs × (length xs ≡ 67) = each s.index [] here in
      let zero_len : length starts ≡ 67 = refl in
      let told_len : length (ends_at hash 0 ds vs) ≡ 67 = length-ends_at hash 0 ds vs (values_len ∙ sym ds_len) ∙ ds_len in
      let true_len : length (ends_at hash 0 starts xs) ≡ 67 = length-ends_at hash 0 starts xs (is_key.1 ∙ sym zero_len) ∙ zero_len in
      let from_secrets : ends_at hash 0 ds (values_at hash 0 ds xs) ≡ ends_at hash 0 starts xs =
      ends_of_values hash 0 ds xs small (is_key.1 ∙ sym ds_len) ∙ ap (λ n. ends_at hash 0 (replicate n 0) xs) ds_len in
      found_below hash (IsSignedBy hash keys message s) (0 ∷ shown_one_time hash message s) (0 ∷ one_time hash starts xs)
      (option_or (lists_clash hash (ends_at hash 0 ds vs) (ends_at hash 0 starts xs)) (chains_clash hash 0 ds vs (values_at hash 0 ds xs))) one
      (λ same.
      let key : mth hash (ends_at hash 0 ds vs) ≡ mth hash (ends_at hash 0 starts xs) = cc in
      found_else hash (ends_at hash 0 ds vs ≡ ends_at hash 0 starts xs) (vs ≡ values_at hash 0 ds xs) (IsSignedBy hash keys message s)
      (lists_clash hash (ends_at hash 0 ds vs) (ends_at hash 0 starts xs)) (chains_clash hash 0 ds vs (values_at hash 0 ds xs))
      (lists_found hash makes (ends_at hash 0 ds vs) (ends_at hash 0 starts xs) (told_len ∙ sym true_len) (omega arith) key)
      (λ ends_same. chains_found hash 0 ds vs (values_at hash 0 ds xs) (values_len ∙ sym ds_len) (length-values_at hash 0 ds xs (is_key.1 ∙ sym ds_len)) (ends_same ∙ sym from_secrets))
      (λ ends_same values_same. record { size = size; index = here; values = values_same }))

  -- from the leaf of the one-time key down
  by_leaf : s.size ≡ length keys → s.index < length keys → shown_root hash message s ≡ Some (mth hash (one_times hash keys))
      → Found hash (if bytes_eq (leaf hash (shown_one_time hash message s)) (leaf hash (one_time hash starts (get_or keys s.index [])))
      then or_below (0 ∷ shown_one_time hash message s) (0 ∷ one_time hash starts (get_or keys s.index []))
      (option_or (lists_clash hash (ends_at hash 0 (digits message) (cut 32 s.values)) (ends_at hash 0 starts (get_or keys s.index [])))
      (chains_clash hash 0 (digits message) (cut 32 s.values) (values_at hash 0 (digits message) (get_or keys s.index []))))
      else path_clash hash (leaf hash (shown_one_time hash message s)) s.index (map (leaf hash) (one_times hash keys)) (cut 32 s.path)) (IsSignedBy hash keys message s)
  by_leaf size here shown =
      let d = leaf hash (shown_one_time hash message s) in
      let truth = leaf hash (one_time hash starts (get_or keys s.index [])) in
      let ones = one_times hash keys in
      let count : length ones ≡ length keys = length-map keys (one_time hash starts) in
      let leaves : length (map (leaf hash) ones) ≡ s.size = length-map ones (leaf hash) ∙ count ∙ sym size in
      let at : get_or (map (leaf hash) ones) s.index [] ≡ truth =
      get_or-map_at (leaf hash) [] ones s.index (omega arith) ∙ ap (leaf hash) (get_or-map_at (one_time hash starts) [] keys s.index here) in
      elim (cases_Bool (bytes_eq d truth)) [
        | inl same ↦ rw same (below_leaf size ((bytes_eq-Decides d truth).0 same))
        | inr other ↦
            let differs : d ≢ get_or (map (leaf hash) ones) s.index [] = λ e. false≢true (sym other ∙ (bytes_eq-Decides d truth).1 (e ∙ at)) in
            let whole : length s.path % 32 ≡ 0 = fold_bytes_even hash d s.index s.size s.path (ap is_some shown) in
            let folds : fold hash d s.index (length (map (leaf hash) ones)) (cut 32 s.path) ≡ Some (mth hash ones) =
            ap (λ n. fold hash d s.index n (cut 32 s.path)) leaves ∙ sym (fold_bytes_whole hash d s.index s.size s.path whole) ∙ shown in
            rw other (found_clashes hash (IsSignedBy hash keys message s) (path_clash hash d s.index (map (leaf hash) ones) (cut 32 s.path))
            (path_clashes hash makes d s.index (map (leaf hash) ones) (cut 32 s.path)
            (All-map (λ x. length x ≡ 32) (leaf hash) ones (All-from_get_or (λ x. length (leaf hash x) ≡ 32) ones [] (λ i inside. makes (0 ∷ get_or ones i []))))
            (cut-width 32 s.path) differs folds))
      ]

  -- a signature that shows the key is by the secrets, or shows a clash
  pub sign_found : (root : List ℕ) → shown_root hash message s ≡ Some root → length (to_be_bytes w32 s.size) ≡ length (to_be_bytes w32 (length keys))
      → hash (key_string s.size root) ≡ key_over hash keys → Found hash (sign_clash hash keys message s) (IsSignedBy hash keys message s)
  sign_found root shown len same_key =
      let kept : root_or_nil (shown_root hash message s) ≡ root = some_of (shown_root hash message s) root shown in
      found_below hash (IsSignedBy hash keys message s) (key_string s.size (root_or_nil (shown_root hash message s))) (own_string hash keys) _
      (ap (λ r. hash (key_string s.size r)) kept ∙ same_key)
      (λ same.
      let parts = key_parts s.size (length keys) (root_or_nil (shown_root hash message s)) (mth hash (one_times hash keys)) (omega arith) (omega arith) len same in
      let here : s.index < length keys = omega (arith, parts.0) in
      rw (get_or-map_at (one_time hash starts) [] keys s.index here) (by_leaf parts.0 here (shown ∙ ap Some (sym kept ∙ parts.1))))
