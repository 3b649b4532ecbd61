-- The root of a file that begins behind a base is that over all journals of its history.
use Rattle.std.proofs.Common.{◌≡◌, List, [], ◌∷◌, ◌++◌, length, map, take, refl, sym, ◌∙◌, ap}
use Rattle.std.proofs.lemmas.List.{map-append, length-map}
use Rattle.std.specs.Prelude.{ℕ, ◌<◌, ◌≤◌}
use Rattle.sha2.specs.Sha256.{sha256}
use Rattle.tree_model.specs.Tree.{mth, root, leaf}
use Rattle.tree_model.specs.Peaks.{peaks}
use Rattle.tree_model.specs.RootFrom.{root_from}
use Rattle.tree_model.proofs.RootsFrom.{from_list}
use Rattle.ledger_bytes.specs.Digests.{digest}
use Rattle.ledger_bytes.specs.declared.digest.Digest.{Digest}
use Rattle.journal_record.specs.Blocks.{leaves_of}
use Rattle.journal_record.specs.Entry.{Entry}
use Rattle.ledger_model.specs.History.{History, history, journals, journals_of, size, leaf_digest}
use Rattle.ledger_model.proofs.BaseLaws.{digests, front_digests, base_kept}
use Rattle.ledger_open.specs.Standing.{floor_of, floor_behind}
use Rattle.ledger_open.proofs.SizeLaws.{GivesDigests, mth_size}

-- digests are told as their bytes
bytes_again : (xs : List (List ℕ)) → map (λ (d : Digest). d.0) (map digest xs) ≡ xs
bytes_again [] = refl
bytes_again (x ∷ xs) = ap (λ (l : List (List ℕ)). x ∷ l) (bytes_again xs)

leaves_again : (js : List Entry) → digests js ≡ map (leaf sha256) (leaves_of js)
leaves_again [] = refl
leaves_again (j ∷ js) = ap (λ (l : List (List ℕ)). leaf_digest j ∷ l) (leaves_again js)

-- the first journal behind some blocks
pub floor_first : (h : History) (gone : List (List Entry)) → (floor_behind h gone).first ≡ length (journals_of gone)
floor_first h [] = refl
floor_first h (b ∷ bs) = refl

-- a block more leaves it as it is
pub floor_kept : (h : History) (b : List Entry) → h.waiting ≡ [] → 1 ≤ length b → (gone : List (List Entry)) → length (journals_of gone) ≤ size h → 0 < size h → floor_behind (history (h.closed ++ b ∷ []) []) gone ≡ floor_behind h gone
floor_kept h b none one [] le some = refl
floor_kept h b none one (g ∷ gs) le some = ap floor_of (base_kept h b none one (length (journals_of (g ∷ gs))) le some)

-- the root behind a base is that over all journals
pub floor_root : (h : History) (gone rest : List (List Entry)) → h.closed ≡ gone ++ rest → (xs : List (List ℕ)) → (floor_behind h gone).root xs ≡ mth sha256 (leaves_of (journals_of gone) ++ xs)
floor_root h [] rest are xs = refl
floor_root h (b ∷ bs) rest are xs =
    let gone : List (List Entry) = b ∷ bs in
    let p = length (journals_of gone) in
    let ds = digests (journals_of gone) in
    ap (λ ps. root_from sha256 ps p (map (leaf sha256) xs)) (bytes_again (peaks sha256 (take p (map leaf_digest (journals h)))) ∙ ap (peaks sha256) (front_digests h gone rest are))
    ∙ ap (λ n. root_from sha256 (peaks sha256 ds) n (map (leaf sha256) xs)) (sym (length-map (journals_of gone) leaf_digest))
    ∙ from_list sha256 ds (map (leaf sha256) xs)
    ∙ ap (root sha256) (ap (λ (l : List (List ℕ)). l ++ map (leaf sha256) xs) (leaves_again (journals_of gone)) ∙ sym (map-append (leaf sha256) (leaves_of (journals_of gone)) xs))

pub floor_digests : (h : History) (gone rest : List (List Entry)) → h.closed ≡ gone ++ rest → GivesDigests (floor_behind h gone).root
floor_digests h gone rest are xs = ap length (floor_root h gone rest are xs) ∙ mth_size (leaves_of (journals_of gone) ++ xs)
