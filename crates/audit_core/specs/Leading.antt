-- What leads to a root: a leaf's digest along a path, and an old root along a proof.
use Rattle.std.specs.Prelude.{ℕ, Bool, false, List, Option, Some, None}
use Rattle.std.specs.Str.{bytes_eq}
use Rattle.ledger_bytes.specs.declared.digest.Digest.{Digest}
use Rattle.tree_model.specs.Tree.{Hash}
use Rattle.tree_model.specs.Path.{fold_bytes}
use Rattle.tree_model.specs.Extension.{fold_proof_bytes}

-- whether what was folded is this root; no where there is no fold
abbrev pub is_root : Digest → Option (List ℕ) → Bool
is_root root (Some folded) = bytes_eq folded root.0
is_root root None = false

-- whether a digest leads along a path to a root, as that of leaf n of so many
abbrev pub path_leads : Hash → Digest → List ℕ → ℕ → ℕ → List ℕ → Bool
path_leads hash root digest n size path = is_root root (fold_bytes hash digest n size path)

-- whether an old root leads along a proof to a root, as that of the first m leaves of so many
abbrev pub proof_leads : Hash → Digest → ℕ → Digest → ℕ → List ℕ → Bool
proof_leads hash root m old size proof = is_root root (fold_proof_bytes hash m old.0 size proof)
