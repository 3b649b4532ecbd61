-- What the auditor of a soak knows, and which receipts are lost.
use Rattle.std.specs.Prelude.{◌≡◌, ℕ, ◌<◌, ◌≤◌, ◌&&◌, Bool, false, not, nat_le, ◌==◌, if◌then◌else◌, List, length, take, slice_get, Option, Some, None, IfSome}
use Rattle.std.specs.Str.{bytes_eq}
use Rattle.sha2.specs.Sha256.{sha256}
use Rattle.tree_model.specs.Tree.{mth}
use Rattle.ledger_bytes.specs.Digests.{digest}
use Rattle.ledger_bytes.specs.declared.digest.Digest.{Digest}
use Rattle.merkle_tree.specs.declared.head.Head.{Head}
use Rattle.ledger_model.specs.Dues.{digests_of}
use Rattle.ledger_model.specs.History.{History, journals, size, point, root}
use Rattle.script_lines.specs.declared.said.Which.{Which}
use Rattle.audit_core.specs.Trust.{Trust, root_of}
use Rattle.ledger_soak.specs.declared.auditor.Auditor.{Auditor}
use Rattle.ledger_soak.specs.declared.receipts.Receipt.{Receipt}

-- a head of the ledger is that of some first journals
pub record IsHeadOfFirst (h : History) (head : Head) : Type 0 where
  pub some : 0 < head.size
  pub within : head.size ≤ size h
  pub root_is : head.root ≡ digest (root h head.size)

-- a head of the notary is that of some first entries, or of none
pub record IsListHead (es : List (List ℕ)) (head : Head) : Type 0 where
  pub within : head.size ≤ length es
  pub root_is : head.root ≡ digest (mth sha256 (take head.size es))

-- the heads that an auditor trusted last are of this history, and of this list
pub record Follows (h : History) (es : List (List ℕ)) (auditor : Auditor) : Type 0 where
  pub ledger : IfSome auditor.ledger (IsHeadOfFirst h)
  pub notary : IfSome auditor.notary (IsListHead es)

-- an auditor has one trusted head more: the size of a head has its root, and each other size what it had before
abbrev pub IsFoundIn : Which → Trust → Trust → Head → Type 0
IsFoundIn which new old head = (at : ℕ) → root_of which new at ≡ (if at == head.size then Some head.root else root_of which old at)

-- the leaf digest that was found is this one
abbrev pub is_found : Option Digest → Digest → Bool
is_found None leaf = false
is_found (Some found) leaf = bytes_eq found.0 leaf.0

-- a receipt's journal isn't purged, and the history has another leaf digest in its place, or none
abbrev pub is_lost : History → Receipt → Bool
is_lost h receipt = nat_le (point h) receipt.jsn && not (is_found (slice_get (digests_of (journals h)) receipt.jsn) receipt.leaf)
