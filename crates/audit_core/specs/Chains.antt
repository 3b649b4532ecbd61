-- What an extension of a head says of a list under the new head, and extensions one after the other.
use Rattle.std.specs.Prelude.{◌≡◌, ℕ, ◌≤◌, Bool, true, false, List, [], ◌∷◌, ◌++◌, length, take, Option, Some}
use Rattle.ledger_bytes.specs.declared.digest.Digest.{Digest}
use Rattle.proof_codec.specs.Proofs.{Shown, is_bounded}
use Rattle.script_lines.specs.declared.said.Which.TheVariants.{Ledger, Notary}
use Rattle.tree_model.specs.Tree.{Hash, mth}
use Rattle.tree_model.specs.Extension.{fold_proof_bytes}
use Rattle.audit_core.specs.Trust.{Trust, root_of}
use Rattle.audit_core.specs.Truth.{Lists}
use Rattle.audit_core.specs.Parts.{Part, first_of_parts, extension_part, parts_of}

-- the lists with the headers of the first m journals alone
abbrev pub lists_until : ℕ → Lists → Lists
lists_until m lists = record { id = lists.id; headers = take m lists.headers; entries = lists.entries }

-- a list begins with m items that have this root
pub record BeginsWith (hash : Hash) (list : List (List ℕ)) (m : ℕ) (root : List ℕ) : Type 0 where
  pub within : m ≤ length list
  pub root_is : mth hash (take m list) ≡ root

-- an extension of the head of m items with this root, by the digests of a proof
pub record Extension : Type 0 where
  pub m : ℕ
  pub old : List ℕ
  pub digests : List ℕ

-- Extensions, the last one first, lead from one head to another: each folds the head that it extends to the next.
-- Example: an extension leads from size 2 with its root to size 5 with another, and a second one from there to size 9. The list
-- has the one of size 5 first, which folds that root to the root of size 9, and then that of size 2. An empty list leads from
-- each head to itself alone.
unfoldable pub LeadsTo : Hash → ℕ → List ℕ → List Extension → ℕ → List ℕ → Type 0
LeadsTo hash m old [] size root = (m ≡ size) × (old ≡ root)
LeadsTo hash m old (e ∷ es) size root =
    (fold_proof_bytes hash e.m e.old size e.digests ≡ Some root) × LeadsTo hash m old es e.m e.old

-- the parts of extensions, back from the last head: each by the items in front of the head that the one behind it extends
abbrev pub chain_parts : Hash → List (List ℕ) → List Extension → List Part
chain_parts hash list [] = []
chain_parts hash list (e ∷ es) = extension_part hash list e.m e.old e.digests ∷ chain_parts hash (take e.m list) es

-- The two strings of the first extension, back from the last head, whose old root isn't that of the list's first items. They
-- clash where extensions lead to the list's head and it doesn't begin with what they name (`extensions_are_true`).
unfoldable pub chain_clash : Hash → List (List ℕ) → List Extension → Option (List ℕ × List ℕ)
chain_clash hash list es = first_of_parts (chain_parts hash list es)

-- ---- lists under a head that extensions lead to

-- extensions lead from the trusted root of a size to a list's own head; where there are none that root is the list's
pub record IsReached (hash : Hash) (roots : ℕ → Option Digest) (size : ℕ) (extensions : List Extension) (list : List (List ℕ)) : Type 0 where
  pub root : Digest
  pub trusted : roots size ≡ Some root
  pub leads : LeadsTo hash size root.0 extensions (length list) (mth hash list)

-- a ledger's list is reached from the head that a proof names, its id is trusted, and where the proof has a bound the
-- notary's list is reached too
pub record AreReached (hash : Hash) (trust : Trust) (p : Shown) (ledger notary : List Extension) (lists : Lists) : Type 0 where
  pub id : trust.id ≡ Some lists.id
  pub headers : IsReached hash (root_of Ledger trust) p.size ledger lists.headers
  pub entries : is_bounded p.lo p.hi ≡ true → IsReached hash (root_of Notary trust) p.notary_size notary lists.entries

-- the lists as they were under the two heads that a proof names: that many headers and that many entries
abbrev pub named_by : Shown → Lists → Lists
named_by p lists = record { id = lists.id; headers = take p.size lists.headers; entries = take p.notary_size lists.entries }

-- the parts of the notary's extensions where a proof has a bound, and else none
abbrev pub chain_if : Bool → Hash → List (List ℕ) → List Extension → List Part
chain_if true hash list es = chain_parts hash list es
chain_if false hash list es = []

-- all parts of what leads from a proof to lists: the extensions of the ledger, those of the notary, and the proof's own
abbrev pub reached_parts : Hash → Lists → Shown → List Extension → List Extension → List Part
reached_parts hash lists p ledger notary =
    chain_parts hash lists.headers ledger
    ++ (chain_if (is_bounded p.lo p.hi) hash lists.entries notary ++ parts_of hash (named_by p lists) p)

-- the two strings of the first part, of extensions and then of a proof, that tells what isn't of the lists
unfoldable pub reached_clash : Hash → Lists → Shown → List Extension → List Extension → Option (List ℕ × List ℕ)
reached_clash hash lists p ledger notary = first_of_parts (reached_parts hash lists p ledger notary)
