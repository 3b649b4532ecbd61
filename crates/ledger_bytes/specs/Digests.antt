-- Digests by their bytes.
use Rattle.std.specs.Prelude.{ℕ, List, replicate}
use Rattle.ledger_bytes.specs.declared.digest.Digest.{Digest}

-- the digest that has these bytes
abbrev pub digest : List ℕ → Digest
digest bytes = record { 0 = bytes }

-- 32 zero bytes, which stand for no digest
abbrev pub zero_digest : Digest
zero_digest = digest (replicate 32 0)
