-- How clean the images are that a crash may leave.
use Rattle.std.specs.Prelude.{◌≡◌, ◌⊎◌, ℕ, ◌-◌, ◌<◌, Bool, true, false, List, length}
use Rattle.batch_committer.specs.World.{IsErasedPair}
use Rattle.journal_record.specs.declared.header.Kind.{Kind}
use Rattle.journal_record.specs.declared.header.Kind.TheVariants as kind
use Rattle.ledger_bytes.specs.declared.digest.Digest.{Digest}
use Rattle.ledger_model.specs.History.{History, size}
use Rattle.ledger_model.specs.Targets.{kind_at}
use Rattle.ledger_open.specs.Standing.{IsCleanPair}
use Rattle.script_lines.specs.Receipts.{IsReceipted}

-- a journal of this kind takes away what others hold: an occult, of one record or of a clue's, or a purge
abbrev pub is_erasure : Kind → Bool
is_erasure kind.Occult = true
is_erasure kind.ClueOccult = true
is_erasure kind.Purge = true
is_erasure other = false

-- the last journal of a history is an occult, of one record or of a clue's, or a purge
abbrev pub ends_in_erasure : History → Bool
ends_in_erasure h = is_erasure (kind_at h (size h - 1))

-- The last journal of this history is such an occult or a purge, which was placed on the way from h, and no receipt of it was
-- written whole. So what it takes away may still stand in the files.
pub record IsUnreceipted (h kept : History) (replies : List ℕ) : Type 0 where
  pub erases : ends_in_erasure kept ≡ true
  pub added : length h.closed < length kept.closed
  pub unwritten : (leaf : Digest) → IsReceipted replies (size kept - 1) leaf → ⊥

-- two images have exactly this history, and nothing that it hides or purged
abbrev pub AreClean : History → List ℕ → List ℕ → Type 0
AreClean kept a b = IsCleanPair a b kept

-- two images have nothing that this history hides or purged, but for what may stand behind the tail gate, and but for what its
-- last journal takes away as long as the receipt of that isn't written
abbrev pub AreErased : History → List ℕ → History → List ℕ → List ℕ → Type 0
AreErased h replies kept a b = IsErasedPair a b kept ⊎ IsUnreceipted h kept replies
