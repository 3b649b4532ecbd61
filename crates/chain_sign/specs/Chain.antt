-- The scheme of chains: keys, values and signatures.
use Rattle.std.specs.Prelude.{◌≡◌, ℕ, zero, suc, ◌-◌, ◌*◌, ◌≤◌, ◌<◌, nat_le, nat_lt, nat_eq, ◌&&◌, Bool, if◌then◌else◌, List, [], ◌∷◌, ◌++◌, length, map, take, drop, get_or, replicate, Option, Some, None, option_map, option_and_then}
use Rattle.std.specs.List.{concat}
use Rattle.std.specs.Int.{w32, from_be_bytes, to_be_bytes}
use Rattle.ledger_bytes.specs.Tags.{byte_of}
use Rattle.ledger_bytes.specs.declared.tag.Tag.TheVariants as tag
use Rattle.tree_model.specs.Tree.{Hash, leaf, mth, cut}
use Rattle.tree_model.specs.Path.{path, path_length, fold_bytes}
use Rattle.chain_sign.specs.Digits.{digits}

-- the string that a step of chain c at place s hashes
abbrev pub step_string : ℕ → ℕ → List ℕ → List ℕ
step_string c s value = byte_of tag.ChainStep ∷ c ∷ s ∷ value

-- a value of chain c at place s after so many steps
unfoldable pub walk : Hash → ℕ → ℕ → ℕ → List ℕ → List ℕ
walk hash c zero s value = value
walk hash c (suc k) s value = walk hash c k (suc s) (hash (step_string c s value))

-- the values at the places that digits say, from the secrets at which chains begin; the first is of chain c
unfoldable pub values_at : Hash → ℕ → List ℕ → List (List ℕ) → List (List ℕ)
values_at hash c [] secrets = []
values_at hash c (d ∷ ds) [] = []
values_at hash c (d ∷ ds) (x ∷ secrets) = walk hash c d 0 x ∷ values_at hash (suc c) ds secrets

-- the ends of chains, from their values at the places that digits say; the first is of chain c
unfoldable pub ends_at : Hash → ℕ → List ℕ → List (List ℕ) → List (List ℕ)
ends_at hash c [] values = []
ends_at hash c (d ∷ ds) [] = []
ends_at hash c (d ∷ ds) (v ∷ values) = walk hash c (15 - d) d v ∷ ends_at hash (suc c) ds values

-- the digits of the secrets themselves
abbrev pub starts : List ℕ
starts = replicate 67 0

-- the one-time key that values show: the tree over the ends of their chains
abbrev pub one_time : Hash → List ℕ → List (List ℕ) → List ℕ
one_time hash ds values = mth hash (ends_at hash 0 ds values)

-- the one-time keys of lists of secrets
abbrev pub one_times : Hash → List (List (List ℕ)) → List (List ℕ)
one_times hash keys = map (one_time hash starts) keys

-- the string that is hashed to the key of so many one-time keys under a root
abbrev pub key_string : ℕ → List ℕ → List ℕ
key_string size root = byte_of tag.ChainKey ∷ to_be_bytes w32 size ++ root

-- the string of the key over lists of secrets
abbrev pub own_string : Hash → List (List (List ℕ)) → List ℕ
own_string hash keys = key_string (length keys) (mth hash (one_times hash keys))

-- the key over lists of secrets
abbrev pub key_over : Hash → List (List (List ℕ)) → List ℕ
key_over hash keys = hash (own_string hash keys)

-- ---- secrets

-- the secret of chain c of one-time key i
abbrev pub secret : Hash → List ℕ → ℕ → ℕ → List ℕ
secret hash seed i c = hash (byte_of tag.ChainSecret ∷ seed ++ to_be_bytes w32 i ++ c ∷ [])

-- the secrets of so many chains from chain c on
unfoldable pub secrets_from : Hash → List ℕ → ℕ → ℕ → ℕ → List (List ℕ)
secrets_from hash seed i c zero = []
secrets_from hash seed i c (suc n) = secret hash seed i c ∷ secrets_from hash seed i (suc c) n

-- the secrets of so many one-time keys from key i on
unfoldable pub keys_from : Hash → List ℕ → ℕ → ℕ → List (List (List ℕ))
keys_from hash seed i zero = []
keys_from hash seed i (suc n) = secrets_from hash seed i 0 67 ∷ keys_from hash seed (suc i) n

-- the secrets of so many one-time keys
abbrev pub keys_of : Hash → List ℕ → ℕ → List (List (List ℕ))
keys_of hash seed size = keys_from hash seed 0 size

-- the lists of secrets that stand one after the other, 67 times 32 bytes for each key
abbrev pub keys_in : List ℕ → List (List (List ℕ))
keys_in secrets = map (cut 32) (cut 2144 secrets)

-- ---- signatures

-- the parts of a signature
pub record Signature : Type 0 where
  -- how many one-time keys there are
  pub size : ℕ
  -- which of them signs
  pub index : ℕ
  -- the values of the chains, one after the other
  pub values : List ℕ
  -- the digests of the path, one after the other
  pub path : List ℕ

-- the parts of a signature at their places: the size in 4 bytes, the index in 4, 67 values, how many digests follow in one
-- byte, and the digests
abbrev pub parts_of : List ℕ → Signature
parts_of proof = record {
  size = from_be_bytes w32 (take 4 proof);
  index = from_be_bytes w32 (take 4 (drop 4 proof));
  values = take 2144 (drop 8 proof);
  path = drop 2153 proof;
}

-- how many digests a signature says that follow
abbrev pub count_of : List ℕ → ℕ
count_of proof = get_or proof 2152 0

-- bytes have the layout of a signature
pub record IsSignature (proof : List ℕ) : Type 0 where
  pub long : 2153 ≤ length proof
  pub some : 1 ≤ (parts_of proof).size
  pub few : (parts_of proof).size ≤ 1024
  pub within : (parts_of proof).index < (parts_of proof).size
  pub count : count_of proof ≡ path_length (parts_of proof).index (parts_of proof).size
  pub path : length (parts_of proof).path ≡ 32 * count_of proof

-- the sizes are in range, and the path is as long as it is said to be
abbrev pub in_range : ℕ → Signature → Bool
in_range count s = nat_le 1 s.size && (nat_le s.size 1024 && (nat_lt s.index s.size && nat_eq (length s.path) (32 * count)))

-- the parts of bytes that have the layout of a signature, but for the number of digests of a path at its size
unfoldable pub read : List ℕ → Option Signature
read proof = if nat_lt (length proof) 2153 then None else if in_range (count_of proof) (parts_of proof) then Some (parts_of proof) else None

-- the one-time key that the values of a signature of a message show
abbrev pub shown_one_time : Hash → List ℕ → Signature → List ℕ
shown_one_time hash message s = one_time hash (digits message) (cut 32 s.values)

-- the root over the one-time keys that a signature of a message shows
abbrev pub shown_root : Hash → List ℕ → Signature → Option (List ℕ)
shown_root hash message s = fold_bytes hash (leaf hash (shown_one_time hash message s)) s.index s.size s.path

-- the key that a signature of a message shows
abbrev pub shown_key : Hash → List ℕ → Signature → Option (List ℕ)
shown_key hash message s = option_map (λ root. hash (key_string s.size root)) (shown_root hash message s)

-- the key that a proof of a message shows, where it has the layout of a signature
unfoldable pub key_shown : Hash → List ℕ → List ℕ → Option (List ℕ)
key_shown hash message proof = option_and_then (shown_key hash message) (read proof)

-- the signature of a message by one of several lists of secrets
abbrev pub signature : Hash → List (List (List ℕ)) → ℕ → List ℕ → List ℕ
signature hash keys index message =
    let side = path hash index (map (leaf hash) (one_times hash keys)) in
    to_be_bytes w32 (length keys) ++ to_be_bytes w32 index ++ concat (values_at hash 0 (digits message) (get_or keys index [])) ++ length side ∷ concat side
