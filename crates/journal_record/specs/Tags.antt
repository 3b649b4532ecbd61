-- The tag scheme: a proof that whoever made it knew a key and a message.
use Rattle.std.specs.Prelude.{ℕ, List, ◌∷◌, ◌++◌, ◌==◌, ◌&&◌, length, take, drop, if◌then◌else◌, Option, Some, None}
use Rattle.std.specs.Str.{bytes_eq}
use Rattle.sha2.specs.Sha256.{sha256}
use Rattle.ledger_bytes.specs.Tags.{byte_of}
use Rattle.ledger_bytes.specs.declared.tag.Tag.TheVariants as tag

-- a key's tag of a message: the digest of both
abbrev pub tag_of : List ℕ → List ℕ → List ℕ
tag_of key message = sha256 (byte_of tag.Proof ∷ (key ++ message))

-- a key's proof of a message: the key and the tag
abbrev pub tag_proof_of : List ℕ → List ℕ → List ℕ
tag_proof_of key message = key ++ tag_of key message

-- the key that a proof of a message shows, where it is one: 64 bytes, of which the last 32 are the tag of the first 32. `found`
-- and `only` of `tag_key` say that a proof shows exactly the key that made it
abbrev pub tag_key_of : List ℕ → List ℕ → Option (List ℕ)
tag_key_of message proof =
    if length proof == 64 && bytes_eq (drop 32 proof) (tag_of (take 32 proof) message) then Some (take 32 proof)
    else None
