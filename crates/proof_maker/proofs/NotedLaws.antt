-- The paths of a notary's entries.
use Rattle.std.proofs.Common.{◌≡◌, ℕ, ◌≤◌, List, length, map, sym, ap, ◌∙◌, arith}
use Rattle.std.proofs.lemmas.List.{length-map}
use Rattle.sha2.specs.Sha256.{sha256}
use Rattle.ledger_bytes.specs.declared.digest.Digest.{Digest}
use Rattle.journal_record.specs.declared.rules.TheConstants.{NOTARY_LIMIT}
use Rattle.tree_model.specs.Path.{path}
use Rattle.tree_model.specs.Tree.{leaf}
use Rattle.tree_model.proofs.Paths.{path_length_below, length-path}

-- a path in a list of at most 2^24 entries has at most 24 digests
pub entry_few : (es : List (List ℕ)) (k : ℕ) (digests : List Digest) → length es ≤ NOTARY_LIMIT → map (λ (d : Digest). d.0) digests ≡ path sha256 k (map (leaf sha256) es) → length digests ≤ 24
entry_few es k digests few told =
    let ds = map (leaf sha256) es in
    omega (arith, sym (length-map digests (λ (d : Digest). d.0)) ∙ ap length told ∙ length-path sha256 k ds, path_length_below 24 k (length ds) (omega (arith, few, length-map es (leaf sha256))))
