-- The words of `chainkey` and `chainsign`, and what is written for them.
use Rattle.std.specs.Prelude.{ℕ, ◌-◌, ◌<◌, ◌≤◌, nat_eq, if◌then◌else◌, List, Option, Some, None}
use Rattle.sha2.specs.Sha256.{sha256}
use Rattle.chain_sign.specs.Chain.{key_over, keys_of, signature}
use Rattle.script_lines.specs.Spellings.{◌>>=◌, digest_of, number_of}
use Rattle.ledger_cli.specs.Signing.{hex_line}
use Rattle.ledger_cli.specs.declared.chaining.ChainText.{ChainText}
use Rattle.ledger_cli.specs.declared.chaining.ChainText.TheVariants.{Key, Signature}

-- a number that isn't 0
abbrev pub some_of : ℕ → Option ℕ
some_of n = if nat_eq n 0 then None else Some n

-- how many one-time keys a word tells, 1 to 1,024
unfoldable pub size_of : List ℕ → Option ℕ
size_of word = do
  size ← number_of 1024 word
  some_of size

-- what the words behind `chainkey` ask for: `SEED SIZE`, the key over the one-time keys that come from a seed
unfoldable pub asked_key : List ℕ → List ℕ → Option ChainText
asked_key seed_word size_word = do
  seed ← digest_of seed_word
  size ← size_of size_word
  Some (Key seed size)

-- what the words behind `chainsign` ask for: `SEED SIZE INDEX MESSAGE`, the signature of a message by one of them
unfoldable pub asked_signature : List ℕ → List ℕ → List ℕ → List ℕ → Option ChainText
asked_signature seed_word size_word index_word message_word = do
  seed ← digest_of seed_word
  size ← size_of size_word
  index ← number_of (size - 1) index_word
  message ← digest_of message_word
  Some (Signature seed size index message)

-- there are 1 to 1,024 one-time keys, and the one that signs is among them
abbrev pub HasRange : ChainText → Type 0
HasRange (Key seed size) = (1 ≤ size) × (size ≤ 1024)
HasRange (Signature seed size index message) = (1 ≤ size) × (size ≤ 1024) × (index < size)

-- what is written: the key or the signature as a line
abbrev pub chain_line : ChainText → List ℕ
chain_line (Key seed size) = hex_line (key_over sha256 (keys_of sha256 seed.0 size))
chain_line (Signature seed size index message) = hex_line (signature sha256 (keys_of sha256 seed.0 size) index message.0)
