-- A signature that is by known secrets, and what one that isn't shows where it leads to their key.
use Rattle.std.specs.Prelude.{◌≡◌, ℕ, ◌<◌, if◌then◌else◌, List, [], ◌∷◌, length, map, get_or, Option, Some, None}
use Rattle.std.specs.Str.{bytes_eq}
use Rattle.tree_model.specs.Tree.{Hash, leaf, cut}
use Rattle.tree_model.specs.Clash.{or_below, path_clash}
use Rattle.chain_sign.specs.Digits.{digits}
use Rattle.std.specs.Option.{option_or}
use Rattle.chain_sign.specs.Lists.{lists_clash}
use Rattle.chain_sign.specs.Steps.{chains_clash}
use Rattle.chain_sign.specs.Chain.{Signature, values_at, ends_at, starts, one_times, own_string, key_string, shown_one_time, shown_root}

-- the root that a signature shows, or nothing
abbrev pub root_or_nil : Option (List ℕ) → List ℕ
root_or_nil None = []
root_or_nil (Some root) = root

-- a signature of a message is by one of several lists of secrets
pub record IsSignedBy (hash : Hash) (keys : List (List (List ℕ))) (message : List ℕ) (s : Signature) : Type 0 where
  pub size : s.size ≡ length keys
  pub index : s.index < length keys
  pub values : cut 32 s.values ≡ values_at hash 0 (digits message) (get_or keys s.index [])

-- the strings that a signature tells otherwise than the secrets, from the leaf of its one-time key down: the path, where the
-- leaf's digest is another, or else the leaf, the ends of the chains and their steps
abbrev pub leaf_clash : Hash → List (List (List ℕ)) → List ℕ → Signature → Option (List ℕ × List ℕ)
leaf_clash hash keys message s =
    let told = shown_one_time hash message s in
    let truth = get_or (one_times hash keys) s.index [] in
    let secrets = get_or keys s.index [] in
    if bytes_eq (leaf hash told) (leaf hash truth)
    then or_below (0 ∷ told) (0 ∷ truth)
    (option_or (lists_clash hash (ends_at hash 0 (digits message) (cut 32 s.values)) (ends_at hash 0 starts secrets))
    (chains_clash hash 0 (digits message) (cut 32 s.values) (values_at hash 0 (digits message) secrets)))
    else path_clash hash (leaf hash told) s.index (map (leaf hash) (one_times hash keys)) (cut 32 s.path)

-- the strings that a signature tells otherwise than the secrets, from the key down to the steps of the chains
abbrev pub sign_clash : Hash → List (List (List ℕ)) → List ℕ → Signature → Option (List ℕ × List ℕ)
sign_clash hash keys message s =
    or_below (key_string s.size (root_or_nil (shown_root hash message s))) (own_string hash keys) (leaf_clash hash keys message s)
