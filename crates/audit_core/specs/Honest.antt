-- When a notary is honest, and what bounds are then.
use Rattle.std.specs.Prelude.{◌≡◌, ℕ, ◌<◌, ◌≤◌, ◌^◌, List, [], ◌∷◌, length, get_or, take, IfSome}
use Rattle.ledger_bytes.specs.declared.digest.Digest.{Digest}
use Rattle.journal_record.specs.declared.header.Header.{Header}
use Rattle.journal_record.specs.Header as headers
use Rattle.tree_model.specs.Tree.{Hash, mth}
use Rattle.time_peg.specs.Entries.{peg_string, entry_of}
use Rattle.proof_codec.specs.declared.claim.Claim.{Claim}
use Rattle.proof_codec.specs.Proofs.{IsTimeHeader}
use Rattle.audit_core.specs.Truth.{Lists}

-- A notary is honest about a ledger whose journals were placed at these moments, one for each journal.
pub record IsHonest (hash : Hash) (lists : Lists) (moments : List ℕ) : Type 0 where
  pub count : length moments ≡ length lists.headers
  -- they never fall
  pub rises : (i j : ℕ) → i ≤ j → j < length moments → get_or moments i 0 ≤ get_or moments j 0
  -- what an entry pegs was placed at its time or before
  pub pegged : (k m time : ℕ) (salt : Digest) → m ≤ length lists.headers → k < length lists.entries
      → get_or lists.entries k [] ≡ entry_of time (hash (peg_string lists.id.0 m (mth hash (take m lists.headers)))) salt.0
      → (i : ℕ) → i < m → i < length moments → get_or moments i 0 ≤ time
  -- a time journal that has an entry's salt was placed at its time, which has 8 bytes, or after it
  pub told : (j : ℕ) (header : Header) (time : ℕ) (peg : List ℕ) → j < length moments → IsTimeHeader header
      → get_or lists.headers j [] ≡ headers.spelling header → header.a < length lists.entries → time < 2 ^ 64
      → get_or lists.entries header.a [] ≡ entry_of time peg header.link.0 → time ≤ get_or moments j 0

-- The bounds of a claim are moments: its journal was placed not before the time in front and not after the time behind.
-- `honest_bounds_are_moments` says that they are where the claim is true and the notary honest.
pub record AreMoments (moments : List ℕ) (claim : Claim) : Type 0 where
  pub lower : IfSome claim.lo (λ mark. mark.time ≤ get_or moments claim.n 0)
  pub upper : IfSome claim.hi (λ mark. get_or moments claim.n 0 ≤ mark.time)

-- the lists of a ledger of one journal, and of a notary that pegged it once, at this time
abbrev pub pegged_once : Hash → Digest → Digest → List ℕ → ℕ → Lists
pegged_once hash id salt journal time = record {
  id = id;
  headers = journal ∷ [];
  entries = entry_of time (hash (peg_string id.0 1 (mth hash (journal ∷ [])))) salt.0 ∷ [];
}
