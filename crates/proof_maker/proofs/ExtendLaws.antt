-- An extension is accepted.
use Rattle.std.proofs.Common.{◌≡◌, ℕ, ◌<◌, ◌≤◌, List, true, length, map, take, Some, sym, ap, ◌∙◌, arith}
use Rattle.std.specs.Prelude.{All}
use Rattle.std.proofs.lemmas.List.{take-map, length-map}
use Rattle.sha2.specs.Sha256.{sha256}
use Rattle.ledger_bytes.specs.Digests.{digest}
use Rattle.ledger_bytes.specs.declared.digest.Digest.{Digest}
use Rattle.journal_record.specs.declared.rules.TheConstants.{NOTARY_LIMIT}
use Rattle.merkle_tree.specs.declared.head.Head.{Head}
use Rattle.tree_model.specs.Extension.{proof, fold_proof_bytes}
use Rattle.tree_model.specs.Tree as tree
use Rattle.tree_model.proofs.Extensions.{length-sub}
use Rattle.script_lines.specs.declared.said.Which.{Which}
use Rattle.script_lines.specs.declared.said.Which.TheVariants.{Notary}
use Rattle.audit_core.specs.Extending.{IsExtension}
use Rattle.audit_core.specs.Trust.{Trust, root_of}
use Rattle.proof_maker.specs.Making.{TrustsFirst, TrustsEntries}
use Rattle.proof_maker.specs.Parts.{extension_bytes}
use Rattle.tree_model.proofs.Widths.{IsWide}
use Rattle.proof_maker.proofs.FoldLaws.{extension_leads, leaves_wide}
use Rattle.proof_maker.proofs.RowLaws.{proof_few}

pub extension_accepted : (which : Which) (ds : List (List ℕ)) (m all : ℕ) (head : Head) (first root : Digest) (bytes : List ℕ) (trust : Trust) → All IsWide ds → 0 < m → m ≤ length ds → length ds ≡ all → head.size ≡ all
    → root ≡ head.root → head.root.0 ≡ tree.root sha256 ds → first.0 ≡ tree.root sha256 (take m ds) → bytes ≡ extension_bytes ds m → length bytes ≤ 8192 → TrustsFirst which trust m all first root → IsExtension sha256 which m head bytes trust
extension_accepted which ds m all head first root bytes trust wide some le long size_is same root_is first_is bytes_are room trusts = record {
  room = room;
  old = first;
  trusted = trusts.trusted;
  leads =
      ap (λ (l : List ℕ). fold_proof_bytes sha256 m l head.size bytes) first_is ∙ ap (λ s. fold_proof_bytes sha256 m (tree.root sha256 (take m ds)) s bytes) (size_is ∙ sym long)
      ∙ ap (fold_proof_bytes sha256 m (tree.root sha256 (take m ds)) (length ds)) bytes_are ∙ extension_leads ds m some le wide ∙ ap Some (sym root_is);
  agrees = λ kept is. trusts.agrees kept (ap (root_of which trust) (sym size_is) ∙ is) ∙ same;
}

-- how many digests that of a notary's list has
pub list_few : (es : List (List ℕ)) (m : ℕ) (digests : List Digest) → length es ≤ NOTARY_LIMIT → 0 < m → m ≤ length es → map (λ (d : Digest). d.0) digests ≡ proof sha256 m (map (tree.leaf sha256) es) → length digests ≤ 33
list_few es m digests few some le told =
    let ds = map (tree.leaf sha256) es in
    let long : length ds ≡ length es = length-map es (tree.leaf sha256) in
    omega (arith, sym (length-map digests (λ (d : Digest). d.0)) ∙ ap length told ∙ length-sub sha256 m true ds some (omega (arith, le, long)), proof_few m (length ds) (omega (arith, few, long)))

pub list_accepted : (es : List (List ℕ)) (m : ℕ) (head : Head) (bytes : List ℕ) (trust : Trust) → 0 < m → m ≤ length es → head.size ≡ length es → head.root.0 ≡ tree.mth sha256 es → bytes ≡ extension_bytes (map (tree.leaf sha256) es) m
    → length bytes ≤ 8192 → TrustsEntries trust es m → IsExtension sha256 Notary m head bytes trust
list_accepted es m head bytes trust some le size_is root_is bytes_are room trusts =
    let ds = map (tree.leaf sha256) es in
    let long : length ds ≡ length es = length-map es (tree.leaf sha256) in
    extension_accepted Notary ds m (length es) head (digest (tree.mth sha256 (take m es))) (digest (tree.mth sha256 es)) bytes trust (leaves_wide es) some (omega (arith, le, long)) long size_is (ap digest (sym root_is)) root_is
    (ap (tree.root sha256) (sym (take-map (tree.leaf sha256) m es))) bytes_are room trusts
