-- What a claim says of a ledger and its notary.
use Rattle.std.specs.Prelude.{◌≡◌, ℕ, ◌<◌, ◌≤◌, List, [], length, get_or, take, IfSome}
use Rattle.ledger_bytes.specs.declared.digest.Digest.{Digest}
use Rattle.journal_record.specs.declared.header.Header.{Header}
use Rattle.journal_record.specs.Header as headers
use Rattle.tree_model.specs.Tree.{Hash, leaf, mth, cut}
use Rattle.ledger_bytes.specs.declared.mark.TimeMark.{TimeMark}
use Rattle.time_peg.specs.Entries.{peg_string, entry_of}
use Rattle.proof_codec.specs.declared.claim.Claim.{Claim}
use Rattle.proof_codec.specs.Proofs.{IsTimeHeader}

-- a ledger's id, the headers of all its journals, and all entries of its notary
pub record Lists : Type 0 where
  pub id : Digest
  pub headers : List (List ℕ)
  pub entries : List (List ℕ)

-- a ledger's id with its lists, cut from flat bytes: 174 for each header and 72 for each entry
abbrev pub lists_of : Digest → List ℕ → List ℕ → Lists
lists_of id headers entries = record { id = id; headers = cut 174 headers; entries = cut 72 entries }

-- the ledger has a journal n, with this leaf digest
pub record HasJournal (hash : Hash) (lists : Lists) (n : ℕ) (digest : Digest) : Type 0 where
  pub within : n < length lists.headers
  pub leaf_is : leaf hash (get_or lists.headers n []) ≡ digest.0

-- the notary has an entry at a mark: its time, the peg of the first journals of the ledger by their root, and this salt
pub record HasEntry (hash : Hash) (lists : Lists) (mark : TimeMark) (salt : Digest) : Type 0 where
  pub within : mark.jsn ≤ length lists.headers
  pub noted : mark.index < length lists.entries
  pub entry : get_or lists.entries mark.index []
      ≡ entry_of mark.time (hash (peg_string lists.id.0 mark.jsn (mth hash (take mark.jsn lists.headers)))) salt.0

-- a mark is a lower bound of the journal n: it is that of a time journal in front of it, with its entry at the notary
pub record IsLowerOf (hash : Hash) (lists : Lists) (n : ℕ) (mark : TimeMark) : Type 0 where
  pub before : mark.jsn < n
  pub header : Header
  pub is_time : IsTimeHeader header
  pub stands : get_or lists.headers mark.jsn [] ≡ headers.spelling header
  pub index : header.a ≡ mark.index
  pub time : header.b ≡ mark.time
  pub noted : HasEntry hash lists mark header.link

-- a mark is an upper bound of journal n: the notary has an entry for the journals in front of the mark, of which it is one
pub record IsUpperOf (hash : Hash) (lists : Lists) (n : ℕ) (mark : TimeMark) : Type 0 where
  pub after : n < mark.jsn
  pub salt : Digest
  pub noted : HasEntry hash lists mark salt

-- A claim is true of the lists; without bounds it speaks of the headers alone. It stays true when the lists grow
-- (`claims_stay_true`).
pub record IsTrueOf (hash : Hash) (lists : Lists) (claim : Claim) : Type 0 where
  pub journal : HasJournal hash lists claim.n claim.leaf
  pub lower : IfSome claim.lo (IsLowerOf hash lists claim.n)
  pub upper : IfSome claim.hi (IsUpperOf hash lists claim.n)
