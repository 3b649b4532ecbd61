-- A notary's list and the tree over its entries.
use Rattle.std.proofs.Common.{◌≡◌, true, inl, inr, ℕ, ◌<◌, ◌≤◌, List, [], length, map, take, sym, ◌∙◌, ap, arith}
use Rattle.std.proofs.lemmas.Bool.{cases_lt}
use Rattle.std.proofs.lemmas.List.{take_all, length-map}
use Rattle.sha2.specs.Sha256.{sha256}
use Rattle.ledger_bytes.specs.declared.digest.Digest.{Digest}
use Rattle.tree_model.specs.Tree.{leaf}
use Rattle.tree_model.specs.Extension.{proof}
use Rattle.tree_model.proofs.Extensions.{sub_all}
use Rattle.merkle_batch.specs.Rows.{Levels, StandsFor}
use Rattle.merkle_batch.proofs.Keeping.{stands_size}

-- the tree has as many leaves as the list has entries
pub size_is : (tree : Levels) (es : List (List ℕ)) → StandsFor sha256 tree (map (leaf sha256) es) → tree.size ≡ length es
size_is tree es stands = sym (stands_size sha256 tree (map (leaf sha256) es) stands) ∙ length-map es (leaf sha256)

-- the tree's proof from the first m leaves, which it answers as none where these are all
pub proof_is : (m size : ℕ) (es : List (List ℕ)) (digests : List Digest) → size ≡ length es → m ≤ length es
    → (m < size → map (λ (d : Digest). d.0) digests ≡ proof sha256 m (take size (map (leaf sha256) es))) → (m ≡ size → digests ≡ [])
    → map (λ (d : Digest). d.0) digests ≡ proof sha256 m (map (leaf sha256) es)
proof_is m size es digests all within less same =
    let count : length (map (leaf sha256) es) ≡ size = length-map es (leaf sha256) ∙ sym all in
    elim (cases_lt m size) [
      | inl below ↦ less below ∙ ap (λ (l : List (List ℕ)). proof sha256 m l) (take_all size (map (leaf sha256) es) (omega (arith, count)))
      | inr above ↦ ap (map (λ (d : Digest). d.0)) (same (omega (arith, above, within, all))) ∙ sym (sub_all sha256 true m (map (leaf sha256) es) (omega (arith, count, above)))
    ]
