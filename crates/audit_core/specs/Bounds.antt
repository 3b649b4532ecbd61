-- What a proof has to show of its bounds in time.
use Rattle.std.specs.Prelude.{◌≡◌, ℕ, ◌<◌, ◌&&◌, Bool, true, false, nat_lt, nat_le, List, Option, Some, None}
use Rattle.ledger_bytes.specs.declared.digest.Digest.{Digest}
use Rattle.journal_record.specs.Header as headers
use Rattle.tree_model.specs.Tree.{Hash, leaf}
use Rattle.tree_model.specs.Path.{fold_bytes}
use Rattle.tree_model.specs.Extension.{fold_proof_bytes}
use Rattle.ledger_bytes.specs.declared.mark.TimeMark.{TimeMark}
use Rattle.time_peg.specs.Entries.{peg_string, entry_of}
use Rattle.proof_codec.specs.Proofs.{ShownLower, ShownUpper, Shown}
use Rattle.proof_codec.specs.Claims.{lower_mark}
use Rattle.audit_core.specs.declared.known.KnownLedger.{KnownLedger}
use Rattle.audit_core.specs.Leading.{path_leads, proof_leads}

-- whether the time journal in front stands before the journal in the ledger, and the ledger goes on from what is in front of
-- it
abbrev pub lower_leads : Hash → KnownLedger → Shown → Option ShownLower → Bool
lower_leads hash ledger p None = true
lower_leads hash ledger p (Some l) =
    nat_lt (lower_mark l).jsn p.n
    && path_leads hash ledger.root (leaf hash (headers.spelling l.header)) (lower_mark l).jsn p.size l.path
    && proof_leads hash ledger.root (lower_mark l).jsn l.root p.size l.ext

-- whether the journal is one of those in front of the time journal behind, from which the ledger goes on
abbrev pub upper_leads : Hash → KnownLedger → Shown → Option ShownUpper → Bool
upper_leads hash ledger p None = true
upper_leads hash ledger p (Some u) =
    nat_lt p.n u.mark.jsn && proof_leads hash ledger.root u.mark.jsn u.root p.size u.ext

-- what the notary's list has at a mark: its time, the peg of the first journals of the ledger with this id by their root,
-- and a salt
abbrev pub noted_entry : Hash → Digest → TimeMark → List ℕ → Digest → List ℕ
noted_entry hash id mark root salt = entry_of mark.time (hash (peg_string id.0 mark.jsn root)) salt.0

-- whether the entry for a mark leads along a path to the notary's root; not where that isn't known
abbrev pub is_noted : Hash → KnownLedger → Option Digest → ℕ → TimeMark → Digest → Digest → List ℕ → Bool
is_noted hash ledger None size mark root salt path = false
is_noted hash ledger (Some notary) size mark root salt path =
    path_leads hash notary (leaf hash (noted_entry hash ledger.id mark root.0 salt)) mark.index size path

-- whether the notary has the entry of the bound in front, where there is one
abbrev pub lower_noted : Hash → KnownLedger → Option Digest → Shown → Option ShownLower → Bool
lower_noted hash ledger notary p None = true
lower_noted hash ledger notary p (Some l) =
    is_noted hash ledger notary p.notary_size (lower_mark l) l.root l.header.link p.lo_path

-- whether the notary has the entry of the bound behind, where there is one
abbrev pub upper_noted : Hash → KnownLedger → Option Digest → Shown → Option ShownUpper → Bool
upper_noted hash ledger notary p None = true
upper_noted hash ledger notary p (Some u) =
    is_noted hash ledger notary p.notary_size u.mark u.root u.salt p.hi_path

-- whether the time in front isn't greater than the one behind, where both are there
abbrev pub in_order : Option ShownLower → Option ShownUpper → Bool
in_order None hi = true
in_order (Some l) None = true
in_order (Some l) (Some u) = nat_le (lower_mark l).time u.mark.time

-- ---- the same, as facts

-- the notary's entry for a mark leads to its root, which is known
pub record IsNoted (hash : Hash) (ledger : KnownLedger) (notary : Option Digest) (size : ℕ) (mark : TimeMark) (root salt : Digest) (path : List ℕ) : Type 0 where
  pub kept : Digest
  pub trusted : notary ≡ Some kept
  pub leads : fold_bytes hash (leaf hash (noted_entry hash ledger.id mark root.0 salt)) mark.index size path ≡ Some kept.0

-- the bound in front of a proof's journal is one: it stands in the ledger, the ledger goes on from in front of it, and the
-- notary has its entry
pub record IsLowerBound (hash : Hash) (ledger : KnownLedger) (notary : Option Digest) (p : Shown) (l : ShownLower) : Type 0 where
  pub before : (lower_mark l).jsn < p.n
  pub stands : fold_bytes hash (leaf hash (headers.spelling l.header)) (lower_mark l).jsn p.size l.path ≡ Some ledger.root.0
  pub extends : fold_proof_bytes hash (lower_mark l).jsn l.root.0 p.size l.ext ≡ Some ledger.root.0
  pub noted : IsNoted hash ledger notary p.notary_size (lower_mark l) l.root l.header.link p.lo_path

-- the bound behind a proof's journal is one: the ledger goes on from the journals in front of it, of which this is one, and
-- the notary has its entry
pub record IsUpperBound (hash : Hash) (ledger : KnownLedger) (notary : Option Digest) (p : Shown) (u : ShownUpper) : Type 0 where
  pub after : p.n < u.mark.jsn
  pub extends : fold_proof_bytes hash u.mark.jsn u.root.0 p.size u.ext ≡ Some ledger.root.0
  pub noted : IsNoted hash ledger notary p.notary_size u.mark u.root u.salt p.hi_path
