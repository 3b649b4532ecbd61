-- Digests one after the other, and how many there are.
use Rattle.std.proofs.Common.{◌≡◌, ℕ, zero, suc, ◌+◌, ◌-◌, ◌*◌, ◌<◌, ◌≤◌, ◌^◌, ◌%◌, Bool, true, false, cond, inl, inr, List, [], ◌∷◌, ◌++◌, length, map, take, get_or, sym, ap, ◌∙◌, subst, arith, append-nil, length-append}
use Rattle.std.specs.List.{concat}
use Rattle.std.proofs.lemmas.Bool.{cases_lt, le-leb, lt-leb}
use Rattle.std.proofs.lemmas.List.{map-append, take_all, take_more}
use Rattle.std.proofs.lemmas.List.Folds.{concat-append}
use Rattle.ledger_bytes.specs.declared.digest.Digest.{Digest}
use Rattle.sha2.specs.Sha256.{sha256}
use Rattle.tree_model.specs.Extension.{proof, sub_length_at, sub_length, proof_length}
use Rattle.tree_model.specs.Path.{path, path_length}
use Rattle.tree_model.proofs.Extensions.{sub_all}
use Rattle.tree_model.proofs.Paths.{path_length_below}
use Rattle.tree_model.proofs.Splits.{pow_twice, pow_mono, le_pow}
use Rattle.merkle_batch.specs.Rows.{Levels, StandsFor}
use Rattle.proof_maker.specs.Parts.{AreDigests, path_bytes, extension_bytes}

-- ---- digests joined one by one

-- the bytes and their number so far
pub record AreJoined (digests : List Digest) (bytes : List ℕ) : Type 0 where
  pub bytes_are : bytes ≡ concat (map (λ (d : Digest). d.0) digests)
  pub count : length bytes ≡ 32 * length digests

pub joined_none : (digests : List Digest) (bytes : List ℕ) → bytes ≡ [] → AreJoined (take 0 digests) bytes
joined_none digests bytes none = record { bytes_are = none; count = ap length none }

-- .. with the bytes of one digest more
pub joined_more : (digests : List Digest) (i : ℕ) (d : Digest) (bytes new : List ℕ) → i < length digests → AreJoined (take i digests) bytes → new ≡ bytes ++ (get_or digests i d).0 → length (get_or digests i d).0 ≡ 32
    → AreJoined (take (i + 1) digests) new
joined_more digests i d bytes new inside so_far more width =
    let x = get_or digests i d in
    let next : take (i + 1) digests ≡ take i digests ++ x ∷ [] = take_more digests i d inside in record {
      bytes_are =
          more ∙ ap (λ (l : List ℕ). l ++ x.0) so_far.bytes_are
          ∙ ap (λ (l : List ℕ). concat (map (λ (y : Digest). y.0) (take i digests)) ++ l) (sym (append-nil x.0))
          ∙ sym (concat-append (map (λ (y : Digest). y.0) (take i digests)) (x.0 ∷ []))
          ∙ ap concat (sym (map-append (λ (y : Digest). y.0) (take i digests) (x ∷ [])))
          ∙ ap (λ (l : List Digest). concat (map (λ (y : Digest). y.0) l)) (sym next);
      count = omega (arith, ap length more, length-append bytes x.0, so_far.count, width, ap length next, length-append (take i digests) (x ∷ []));
    }

pub joined_all : (digests : List Digest) (i : ℕ) (bytes : List ℕ) → length digests ≤ i → AreJoined (take i digests) bytes → AreJoined digests bytes
joined_all digests i bytes all = subst (λ (l : List Digest). AreJoined l bytes) (take_all i digests all)

pub joined_short : (digests : List Digest) (bytes : List ℕ) (most : ℕ) → AreJoined digests bytes → length digests ≤ most → AreDigests most bytes
joined_short digests bytes most joined few = record { whole = omega (arith, joined.count); few = omega (arith, joined.count, few) }

pub none_short : (most : ℕ) (bytes : List ℕ) → bytes ≡ [] → AreDigests most bytes
none_short most bytes none = record { whole = ap (λ l. length l % 32) none; few = omega (arith, ap length none) }

-- ---- how many digests a path and a proof have

pub path_few : (n size : ℕ) → size < 2 ^ 32 → path_length n size ≤ 32
path_few n size fits = path_length_below 32 n size (omega (arith, fits))

below_level : (h k size : ℕ) → 2 ^ h < size → size ≤ 2 ^ k → h < k
below_level h k size more fits = elim (cases_lt h k) [
  | inl less ↦ less
  | inr above ↦ absurd (omega (arith, pow_mono k h above, more, fits))
]

one_at_most : (known : Bool) (k : ℕ) → cond known 0 1 ≤ k + 1
one_at_most true k = omega arith
one_at_most false k = omega arith

few_at : (h k m : ℕ) (known : Bool) (size : ℕ) → size ≤ 2 ^ h → size ≤ 2 ^ k → sub_length_at h m known size ≤ k + 1
unfolding sub_length_at
few_at zero k m known size held fits = one_at_most known k
few_at (suc h) k m known size held fits = elim (cases_lt (2 ^ h) size) [
  | inr small ↦ rw (le-leb size (2 ^ h) small) (few_at h k m known size small fits)
  | inl more ↦ elim (cases_lt m size) [
    | inr all ↦ rw (lt-leb size (2 ^ h) more, le-leb size m all) (one_at_most known k)
    | inl some ↦
        let below : h < k = below_level h k size more fits in
        elim (cases_lt (2 ^ h) m) [
          | inr front ↦ rw (lt-leb size (2 ^ h) more, lt-leb size m some, le-leb m (2 ^ h) front)
              (omega (arith, few_at h h m known (2 ^ h) (omega arith) (omega arith), below))
          | inl back ↦
              let half : size - 2 ^ h ≤ 2 ^ h = omega (arith, held, pow_twice h) in
              rw (lt-leb size (2 ^ h) more, lt-leb size m some, lt-leb m (2 ^ h) back) (omega (arith, few_at h h (m - 2 ^ h) false (size - 2 ^ h) half half, below))
        ]
  ]
]

pub proof_few : (m size : ℕ) → size < 2 ^ 32 → proof_length m size ≤ 33
unfolding sub_length
proof_few m size fits = few_at size 32 m true size (le_pow size) (omega (arith, fits))

-- ---- the digests of a tree over all its leaves

module _ (t : Levels) (ds : List (List ℕ)) (stands : StandsFor sha256 t ds) where
  pub size_is : length ds ≡ t.size
  unfolding StandsFor
  size_is = stands.0

  module _ (all : ℕ) (all_is : all ≡ t.size) where
    whole : take all ds ≡ ds
    whole = take_all all ds (omega (arith, size_is, all_is))

    pub path_told : (n : ℕ) (digests given : List Digest) (row : List ℕ) → given ≡ digests → row ≡ concat (map (λ (d : Digest). d.0) given) → map (λ (d : Digest). d.0) digests ≡ path sha256 n (take all ds) → row ≡ path_bytes ds n
    path_told n digests given row same row_is told =
        row_is ∙ ap (λ (l : List Digest). concat (map (λ (d : Digest). d.0) l)) same ∙ ap concat told ∙ ap (λ (l : List (List ℕ)). path_bytes l n) whole

    pub extension_told : (m : ℕ) (digests given : List Digest) (row : List ℕ) → given ≡ digests → row ≡ concat (map (λ (d : Digest). d.0) given) → (m ≡ all → digests ≡ [])
        → (m < all → map (λ (d : Digest). d.0) digests ≡ proof sha256 m (take all ds)) → m ≤ t.size → row ≡ extension_bytes ds m
    extension_told m digests given row same row_is none told le =
        row_is ∙ ap (λ (l : List Digest). concat (map (λ (d : Digest). d.0) l)) same
        ∙ elim (cases_lt m all) [
          | inl less ↦ ap concat (told less) ∙ ap (λ (l : List (List ℕ)). extension_bytes l m) whole
          | inr above ↦ ap (λ (l : List Digest). concat (map (λ (d : Digest). d.0) l)) (none (omega (arith, above, le, all_is))) ∙ ap concat (sym (sub_all sha256 true m ds (omega (arith, above, size_is, all_is))))
        ]
