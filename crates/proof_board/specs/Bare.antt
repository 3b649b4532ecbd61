-- The proof of a leaf without bounds in time.
use Rattle.std.specs.Prelude.{◌≡◌, ℕ, List, [], length, get_or, Some, None}
use Rattle.std.specs.List.{concat}
use Rattle.sha2.specs.Sha256.{sha256}
use Rattle.tree_model.specs.Path.{path}
use Rattle.tree_model.specs.Tree.{root}
use Rattle.ledger_bytes.specs.Digests.{digest}
use Rattle.ledger_bytes.specs.declared.digest.Digest.{Digest}
use Rattle.merkle_tree.specs.declared.head.Head.{Head}
use Rattle.merkle_batch.specs.Rows.{Levels, StandsFor}
use Rattle.proof_codec.specs.declared.claim.Claim.{Claim}
use Rattle.proof_codec.specs.Proofs.{Shown, IsProof, spelling}
use Rattle.script_lines.specs.declared.said.Which.TheVariants.{Ledger}
use Rattle.audit_core.specs.Trust.{Trust, root_of}
use Rattle.audit_core.specs.Acceptance.{IsAccepted}
use Rattle.proof_board.specs.History.{Digests}

-- what a proof without bounds shows, with the path's digests joined
abbrev pub bare : ℕ → ℕ → Digest → List ℕ → Shown
bare size n leaf row = record { size = size; n = n; leaf = leaf; path = row; lo = None; hi = None; notary_size = 0; lo_path = []; hi_path = [] }

-- what it claims
abbrev pub bare_claim : ℕ → Digest → Claim
bare_claim n leaf = record { n = n; leaf = leaf; lo = None; hi = None }

-- the proof of leaf n of a list of leaf digests: the list's length, n, the leaf, and its path to the root
abbrev pub bare_of : Digests → ℕ → Shown
bare_of ds n = bare (length ds) n (digest (get_or ds n [])) (concat (path sha256 n ds))

-- the bytes of the proof of leaf n in a tree: they spell that of each list which the tree stands for
pub record IsBareOf (tree : Levels) (n : ℕ) (bytes : List ℕ) : Type 0 where
  pub leaf : Digest
  pub row : List ℕ
  pub is_proof : IsProof (bare tree.size n leaf row)
  pub text : bytes ≡ spelling (bare tree.size n leaf row)
  pub leaf_is : (ds : Digests) → StandsFor sha256 tree ds → leaf.0 ≡ get_or ds n []
  pub row_is : (ds : Digests) → StandsFor sha256 tree ds → row ≡ concat (path sha256 n ds)

-- each auditor who trusts this head of the ledger, whatever else he trusts, accepts the bytes as the proof of this leaf
abbrev pub IsAcceptedUnder : Head → ℕ → Digest → List ℕ → Type 0
IsAcceptedUnder head n leaf bytes =
    (trust : Trust) (id : Digest) → trust.id ≡ Some id → root_of Ledger trust head.size ≡ Some head.root → IsAccepted sha256 bytes (bare_claim n leaf) trust

-- leaf n of a list is proved: the head has the list's root, and the bytes spell the leaf's proof and are accepted under the
-- head
pub record IsProved (ds : Digests) (n : ℕ) (head : Head) (bytes : List ℕ) : Type 0 where
  pub root_is : head.root.0 ≡ root sha256 ds
  pub text : bytes ≡ spelling (bare_of ds n)
  pub accepted : IsAcceptedUnder head n (digest (get_or ds n [])) bytes
