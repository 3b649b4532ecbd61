-- The roots that a dump tells are those of its history.
use Rattle.std.specs.Prelude.{zero, suc}
use Rattle.std.proofs.Common.{◌≡◌, ℕ, ◌-◌, ◌≤◌, List, [], ◌∷◌, ◌++◌, length, map, take, drop, refl, sym, ap, ap₂, ◌∙◌, arith}
use Rattle.std.proofs.lemmas.List.{take-map, length-map, length-take, drop-map}
use Rattle.std.proofs.lemmas.Simd.{map-map}
use Rattle.sha2.specs.Sha256.{sha256}
use Rattle.ledger_bytes.specs.Digests.{digest}
use Rattle.ledger_bytes.specs.declared.digest.Digest.{Digest}
use Rattle.journal_record.specs.Entry.{Entry}
use Rattle.journal_record.specs.Header.{spelling}
use Rattle.tree_model.specs.Peaks.{peaks}
use Rattle.tree_model.specs.RootFrom.{root_from}
use Rattle.tree_model.specs.Tree.{leaf, root as root_of}
use Rattle.tree_model.proofs.RootsFrom.{from_none, from_list}
use Rattle.ledger_model.specs.Behind.{first_of}
use Rattle.ledger_model.specs.History.{History, journals, leaf_digest, root, size}
use Rattle.dump_model.specs.Dumps.{peaks_of}
use Rattle.dump_model.specs.Shown.{base_at, shown}
use Rattle.audit_dump.specs.Known.{journal_of, root_behind}

-- a journal as a dump tells it
abbrev pub seen : History → Entry → Entry
seen h e = journal_of (shown h e)

take_none : {A : Type 0} (n : ℕ) → ◌≡◌ {A = List A} (take n []) []
take_none zero = refl
take_none (suc n) = refl

-- the first of a list, in two parts
pub take_parts : {A : Type 0} (p m : ℕ) (xs : List A) → p ≤ m → take p xs ++ take (m - p) (drop p xs) ≡ take m xs
take_parts zero m xs le = let same : m - 0 ≡ m = omega arith in ap (λ n. take n xs) same
take_parts (suc p) zero xs le = absurd (omega (arith, le))
take_parts (suc p) (suc m) [] le = take_none (suc m - suc p)
take_parts (suc p) (suc m) (x ∷ xs) le =
    let same : suc m - suc p ≡ m - p = omega arith in
    ap (λ n. x ∷ (take p xs ++ take n (drop p xs))) same ∙ ap (λ l. x ∷ l) (take_parts p m xs (omega (arith, le)))

pub first_at : (h : History) (p : ℕ) → first_of (base_at h p) ≡ p
first_at h zero = refl
first_at h (suc p) = refl

bare : (xs : List (List ℕ)) → map (λ (d : Digest). d.0) (map digest xs) ≡ xs
bare [] = refl
bare (x ∷ xs) = ap (λ l. x ∷ l) (bare xs)

abbrev pub digests : History → List (List ℕ)
digests h = map leaf_digest (journals h)

-- the root over the first m journals
pub root_is : (h : History) (m : ℕ) → root h m ≡ root_of sha256 (take m (digests h))
unfolding root
root_is h m =
    ap (root_of sha256) (sym (take-map (leaf sha256) m (map (λ (j : Entry). spelling j.header) (journals h))) ∙ ap (take m) (map-map (leaf sha256) (λ (j : Entry). spelling j.header) (journals h)))

-- .. from the base at p on
pub root_told : (h : History) (p m : ℕ) → p ≤ m → p ≤ size h → root_from sha256 (peaks_of (base_at h p)) (first_of (base_at h p)) (take (m - p) (drop p (digests h))) ≡ root h m
root_told h zero m le few =
    let same : m - 0 ≡ m = omega arith in
    from_none sha256 (take (m - 0) (digests h)) ∙ ap (λ n. root_of sha256 (take n (digests h))) same ∙ sym (root_is h m)
root_told h (suc q) m le few =
    let p = suc q in
    let front = take p (digests h) in
    let rest = take (m - p) (drop p (digests h)) in
    let long : length front ≡ p = length-take p (digests h) ∙ omega (arith, few, length-map (journals h) leaf_digest) in
    ap₂ (λ (ps : List (List ℕ)) (n : ℕ). root_from sha256 ps n rest) (bare (peaks sha256 front)) (sym long)
    ∙ from_list sha256 front rest ∙ ap (root_of sha256) (take_parts p m (digests h) le) ∙ sym (root_is h m)

-- the leaf digests of journals as they are told
pub leaves_seen : (h : History) (k p : ℕ) → map leaf_digest (take k (map (seen h) (drop p (journals h)))) ≡ take k (drop p (digests h))
leaves_seen h k p =
    ap (map leaf_digest) (take-map (seen h) k (drop p (journals h))) ∙ map-map leaf_digest (seen h) (take k (drop p (journals h)))
    ∙ sym (take-map leaf_digest k (drop p (journals h))) ∙ ap (take k) (sym (drop-map leaf_digest p (journals h)))

-- the root that a dump tells over the first journals
pub root_seen : (h : History) (p m : ℕ) → p ≤ m → p ≤ size h → root_behind (base_at h p) (map (seen h) (drop p (journals h))) m ≡ root h m
root_seen h p m le few =
    ap (root_from sha256 (peaks_of (base_at h p)) (first_of (base_at h p))) (ap (λ n. map leaf_digest (take (m - n) (map (seen h) (drop p (journals h))))) (first_at h p) ∙ leaves_seen h (m - p) p)
    ∙ root_told h p m le few
