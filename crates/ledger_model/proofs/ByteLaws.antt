-- Leaf digests are bytes.
use Rattle.std.specs.Prelude.{⊤}
use Rattle.std.specs.Int.{byte_at, bytes_high_first}
use Rattle.std.proofs.Common.{ℕ, zero, suc, ◌%◌, ◌/◌, ◌^◌, ◌<◌, List, [], ◌∷◌, ◌++◌, arith}
use Rattle.ledger_bytes.specs.Fields.{IsBytes}
use Rattle.sha2.specs.Sha256.{sha256, digest_bytes, final_hash, initial_hash_256}
use Rattle.journal_record.specs.Entry.{Entry}
use Rattle.ledger_model.specs.History.{leaf_digest}

abbrev AreBytes : List ℕ → Type 0
AreBytes [] = ⊤
AreBytes (b ∷ bs) = (b < 256) × AreBytes bs

each_byte : (bs : List ℕ) → AreBytes bs → IsBytes bs
each_byte [] a i = omega arith
each_byte (b ∷ bs) a zero = a.0
each_byte (b ∷ bs) a (suc i) = each_byte bs a.1 i

bytes_more : (xs ys : List ℕ) → AreBytes xs → AreBytes ys → AreBytes (xs ++ ys)
bytes_more [] ys x y = y
bytes_more (b ∷ bs) ys x y = (x.0, bytes_more bs ys x.1 y)

mod_fits : (x : ℕ) → x % 256 < 256
mod_fits x = omega arith

byte_fits : (i n : ℕ) → byte_at i n < 256
byte_fits zero n = mod_fits n
byte_fits (suc i) n = mod_fits (n / 256 ^ suc i)

number_bytes : (k n : ℕ) → AreBytes (bytes_high_first k n)
number_bytes zero n = tt
number_bytes (suc k) n = (byte_fits k n, number_bytes k n)

digests_bytes : (h : List ℕ) (n : ℕ) → AreBytes (digest_bytes h n)
unfolding digest_bytes
digests_bytes h zero = tt
digests_bytes h (suc n) = bytes_more (digest_bytes h n) _ (digests_bytes h n) (number_bytes 4 _)

sha_bytes : (m : List ℕ) → AreBytes (sha256 m)
unfolding sha256
sha_bytes m = digests_bytes (final_hash initial_hash_256 m) 8

pub leaf_bytes : (journal : Entry) → IsBytes (leaf_digest journal)
leaf_bytes journal = each_byte (leaf_digest journal) (sha_bytes _)
